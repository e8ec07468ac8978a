use Rattle.std.proofs.Common.{rules, arith, sym, subst}
use Rattle.turnstile.proofs.Moves.{draw_allowed}
use Rattle.turnstile.proofs.turnstile.Turnstile.try_draw.Goals as goal

pub compare_exchange-requires : goal.compare_exchange-requires
compare_exchange-requires g c =
    let r = c.requires.1 in
    let sized = c.args.self.now.board.shared.table_id in
    let words = c.args.self.now.sized in
    let next = c.if-next.false in
    (c.requires.0, omega (arith, words.0), rw r.2 (draw_allowed g.V.Turns.turns g.V.Turns.maker g.V.Turns.label c.args.self.now.board.shared.table_id.slots c.args.seat.now.id r.0 c.peek-next.result r.1 (omega (arith, next, c.peek-next.type_inv))))
