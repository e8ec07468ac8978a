use Rattle.std.proofs.Common.{◌∙◌, ap, sym, refl, subst, inl, [], ◌∷◌}
use Rattle.turnstile.specs.Lists.{Has, OneMore}
use Rattle.turnstile.specs.Passes.{found, seen, numbers}
use Rattle.turnstile.specs.Steps.{at_rest, number_of, label_of, seen_of, numbers_of}
use Rattle.turnstile.specs.declared.view.Stage.TheVariants.{Idle}
use Rattle.turnstile.proofs.Growing.{own_grows, unsome}
use Rattle.turnstile.proofs.held.Held.done.Goals as goal

pub give-requires : goal.give-requires
give-requires g c =
    let h = c.requires.turn in
    let pass = c.args.self.pass.now in
    let n = pass.numbered ∙ ap (λ m. number_of m.0) h.3 in
    let label = unsome (sym c.requires.label ∙ ap (λ m. label_of m.0) h.3) in
    let more = subst (λ k. OneMore g.V.Turns.maker k (found pass) (g.V.Turns.turns c.args.self.value)) n c.requires.more in
    record {
      of = c.requires.of;
      out = ap (λ m. m.1) h.3;
      leaves = (h.0, found pass, h.1, ap (λ m. m.0) h.3, h.2, more, label);
    }

pub returns-clause-ready : goal.returns-clause-ready
returns-clause-ready g c =
    let h = c.requires.turn in
    let turns = g.V.Turns.turns c.args.self.value in
    (record h.1 { stage = Idle; seen = turns }, refl, c.give.ensures.served ∙ ap (λ m. (at_rest turns m.0, [])) h.3)

pub returns-clause-own : goal.returns-clause-own
returns-clause-own g c =
    let h = c.requires.turn in
    let pass = c.args.self.pass.now in
    let turns = g.V.Turns.turns c.args.self.value in
    let after = ap (λ m. seen_of m.0) (c.give.ensures.served ∙ ap (λ m. (at_rest turns m.0, [])) h.3) in
    let n = pass.numbered ∙ ap (λ m. number_of m.0) h.3 in
    let has : Has (numbers pass) pass.number = subst (λ m. Has (numbers_of m.0) pass.number) (sym h.3) (inl (sym n)) in
    rw after (own_grows g.V.Turns.maker pass.number (found pass) turns (seen pass) (numbers pass) has c.requires.more c.give.ensures.begins)
