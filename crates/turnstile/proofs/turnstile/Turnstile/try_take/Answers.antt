use Rattle.std.proofs.Common.{◌≡◌, ◌≢◌, ◌∷◌, [], ℕ, Some, ap, sym, ◌∙◌, refl, ⊎_elim, arith}
use Rattle.atomic_table.specs.Table.{rest}
use Rattle.turnstile.specs.Steps.{ticket_of, stage_ticket}
use Rattle.turnstile.proofs.Moves.{take_allowed}
use Rattle.turnstile.proofs.turnstile.Turnstile.try_take.Goals as goal

pub load-requires : goal.load-requires
load-requires g c =
    let r = c.requires.1 in
    let words = c.args.self.now.sized in
    (c.requires.0, omega (arith, words.0), rw r.2 (take_allowed g.V.Turns.turns g.V.Turns.maker g.V.Turns.label c.args.self.now.board.shared.table_id.slots c.args.seat.now.id c.args.ticket r.0 r.1))

pub exchange-requires : goal.exchange-requires
exchange-requires g c =
    let r = c.requires.1 in
    let same = c.if-load-ticket.true in
    let ticket : ticket_of c.args.seat.now.me.0 ≡ c.args.ticket = ap (λ m. ticket_of m.0) r.2 ∙ ap stage_ticket r.1 in
    ⊎_elim (λ hit. (c.load.ensures.0 ∙ c.requires.0, (Some hit.1.0, rw hit.1.1 refl))) (λ miss. absurd (miss.0 (same ∙ sym ticket))) c.load.ensures.2

pub returns-else-load-ticket-clause-kept : goal.returns-else-load-ticket-clause-kept
returns-else-load-ticket-clause-kept g c =
    let r = c.requires.1 in
    let ticket : ticket_of c.args.seat.now.me.0 ≡ c.args.ticket = ap (λ m. ticket_of m.0) r.2 ∙ ap stage_ticket r.1 in
    ⊎_elim (λ hit. absurd (c.if-load-ticket.false (hit.0 ∙ ticket))) (λ miss. miss.1) c.load.ensures.2
