-- There is room for what waits.
use Rattle.std.proofs.Common.{◌≡◌, ◌++◌, length, ap, ◌∙◌, arith}
use Rattle.event_order.specs.Ticks.{due}
use Rattle.window_run.proofs.Waiting.{room, taken}
use Rattle.window_run.proofs.wait.take_due.Goals as goal

pub take_tick-requires : goal.take_tick-requires
take_tick-requires c =
    let count = room c.args.queue.now c.args.count c.args.now c.requires in
    let empty : length c.reserve.new.self.items ≡ 0 = ap length (c.in_ok-reserve.ensures.items ∙ c.clear.ensures.items) in
    record { room = (let h = c.in_ok-reserve.ensures.ok in omega (arith, count, empty, h)) }

pub returns : goal.returns
returns c = taken c.args.queue.now c.take_tick.new.self c.args.now c.take_tick.new.out.items (c.take_tick.ensures.taken ∙ ap (λ xs. xs ++ due c.args.queue.now c.args.now) (c.in_ok-reserve.ensures.items ∙ c.clear.ensures.items)) c.take_tick.ensures.rest
