use Rattle.std.proofs.Common.{arith, refl, ◌∙◌}
use Rattle.turnstile.proofs.Moves.{number_allowed}
use Rattle.turnstile.proofs.turnstile.Turnstile.number.Goals as goal

pub split_seat-requires : goal.split_seat-requires
split_seat-requires g c =
    let m = c.requires.maker in
    let words = c.args.self.now.sized in
    (c.requires.of, omega (arith, words.0), rw m.2 (number_allowed g.V.Turns.turns g.V.Turns.maker g.V.Turns.label c.args.maker.now.id _ refl refl))
