use Rattle.std.proofs.Common.{◌≡◌, ◌∷◌, [], ℕ, Some, ap, ◌∙◌, refl, subst, arith}
use Rattle.atomic_table.specs.Table.{rest}
use Rattle.turnstile.specs.Lists.{Begins}
use Rattle.turnstile.specs.Steps.{found_of, seen_of, numbers_of}
use Rattle.turnstile.proofs.Moves.{serve_allowed}
use Rattle.turnstile.proofs.turnstile.Turnstile.give.Goals as goal

pub fetch_add-requires : goal.fetch_add-requires
fetch_add-requires g c =
    let m = c.requires.leaves in
    let words = c.args.self.now.sized in
    let old = c.exchange-old.ensures in
    let value = c.args.value in (
      old.0 ∙ c.requires.of,
      omega (arith, words.0),
      rw old.3 (rw (c.requires.out, m.3) (serve_allowed g.V.Turns.turns g.V.Turns.maker g.V.Turns.label c.args.self.now.board.shared.table_id.slots c.exchange-old.new.seat.id m.0 m.2 m.1 value m.4 m.5 m.6)),
    )

pub returns-clause-served : goal.returns-clause-served
returns-clause-served g c =
    let old = c.exchange-old.ensures in
    (c.fetch_add.ensures.2 c.args.value (rw old.3 (rw c.requires.out refl))).0 ∙ (rw old.3 refl)

pub returns-clause-begins : goal.returns-clause-begins
returns-clause-begins g c =
    let old = c.exchange-old.ensures in
    let told = (c.fetch_add.ensures.2 c.args.value (rw old.3 (rw c.requires.out refl))).1 in
    subst (λ w. Begins g.V.Turns.maker (found_of w) (seen_of w) (numbers_of w)) (ap (λ m. m.0) old.3) told
