use Rattle.std.proofs.Common.{◌∙◌, ap, sym, refl, [], ◌∷◌, None}
use Rattle.turnstile.specs.Steps.{staged, found_of}
use Rattle.turnstile.specs.declared.view.Stage.TheVariants.{Waits, Holds}
use Rattle.turnstile.proofs.turnstile.Turnstile.turn.Goals as goal

pub take-value-requires : goal.take-value-requires
take-value-requires g c =
    let r = c.requires.ready in
    (c.draw-ticket.ensures.same.0 ∙ c.requires.of, (record r.0 { stage = Waits c.draw-ticket.result }, refl, c.draw-ticket.ensures.drawn ∙ (rw r.2 refl)))

pub returns-clause-turn : goal.returns-clause-turn
returns-clause-turn g c =
    let r = c.requires.ready in
    let t = c.draw-ticket.result in
    let turns = g.V.Turns.turns c.take-value.result in
    let waits = c.draw-ticket.ensures.drawn ∙ ap (λ m. (staged (Waits t) m.0, [])) r.2 in
    let holds = c.take-value.ensures.taken.0 ∙ ap (λ m. (staged (Holds t turns) m.0, (0, None) ∷ [])) waits in
    let found = ap (λ m. found_of m.0) holds in
    ((t, record r.0 { stage = Holds t turns }, ap (Holds t) (sym found), holds), found)
