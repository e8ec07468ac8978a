use Rattle.std.proofs.Common.{◌≡◌, ◌∙◌, sym, subst, ap, refl, arith}
use Rattle.turnstile.proofs.Moves.{join_allowed, look_allowed}
use Rattle.turnstile.proofs.Keeps.{entries_stay}
use Rattle.turnstile.specs.Rule.{numbers}
use Rattle.turnstile.specs.Steps.{merged, both, LooksAt}
use Rattle.turnstile.proofs.turnstile.Turnstile.join.Goals as goal

pub join_seat-requires : goal.join_seat-requires
join_seat-requires g c =
    let v = c.requires.ready.0 in
    let w = c.requires.ready.1 in
    let words = c.args.self.now.sized in (
      c.requires.of.0,
      c.requires.of.1,
      ap (λ m. m.1) w.2,
      omega (arith, words.0),
      rw (v.2, w.2) (join_allowed g.V.Turns.turns g.V.Turns.maker g.V.Turns.label c.args.pass.now.seat.id c.args.other.seat.id v.0 w.0 v.1 w.1),
    )

pub load-requires : goal.load-requires
load-requires g c =
    let v = c.requires.ready.0 in
    let w = c.requires.ready.1 in
    let words = c.args.self.now.sized in
    let e = c.join_seat.ensures in (
      e.0 ∙ c.requires.of.0,
      omega (arith, words.0),
      rw e.2 (rw (v.2, w.2) (look_allowed g.V.Turns.turns g.V.Turns.maker g.V.Turns.label c.args.self.now.board.shared.table_id.slots c.join_seat.new.seat.id v.0 w.0 v.1 w.1)),
    )

pub returns-clause-ready : goal.returns-clause-ready
returns-clause-ready g c =
    let v = c.requires.ready.0 in
    let w = c.requires.ready.1 in
    let e = ap (λ m. m.0) c.join_seat.ensures.2 ∙ (λ i. merged (v.2 i).0 (w.2 i).0) in
    let told = subst (λ x. LooksAt g.V.Turns.maker x c.load.new.seat.me) e c.load.ensures.2 in
    (both v.0 w.0, refl, told.0)

pub returns-clause-own : goal.returns-clause-own
returns-clause-own g c =
    let v = c.requires.ready.0 in
    let w = c.requires.ready.1 in
    let e = ap (λ m. m.0) c.join_seat.ensures.2 ∙ (λ i. merged (v.2 i).0 (w.2 i).0) in
    let told = subst (λ x. LooksAt g.V.Turns.maker x c.load.new.seat.me) e c.load.ensures.2 in
    rw (told.0, v.2) (λ k b. entries_stay g.V.Turns.maker _ _ (numbers v.0) k b told.1)

pub returns-clause-other_own : goal.returns-clause-other_own
returns-clause-other_own g c =
    let v = c.requires.ready.0 in
    let w = c.requires.ready.1 in
    let e = ap (λ m. m.0) c.join_seat.ensures.2 ∙ (λ i. merged (v.2 i).0 (w.2 i).0) in
    let told = subst (λ x. LooksAt g.V.Turns.maker x c.load.new.seat.me) e c.load.ensures.2 in
    rw (told.0, w.2) (λ k b. entries_stay g.V.Turns.maker _ _ (numbers w.0) k b told.2)
