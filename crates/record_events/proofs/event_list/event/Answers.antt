-- Its cells at the tick before and at the tick.
use Rattle.std.proofs.Common.{◌-◌}
use Rattle.record_events.proofs.Walk.{cells_now}
use Rattle.record_events.proofs.event_list.event.Goals as goal

pub returns : goal.returns
returns c =
    let old = cells_now c.args.circuit.now c.args.past.now c.args.change.1 (c.args.change.0 - 1) c.cells_from.result c.cells_from.ensures in
    let new = cells_now c.args.circuit.now c.args.past.now c.args.change.1 c.args.change.0 c.cells_from-2.result c.cells_from-2.ensures in
    λ i. record { tick = c.args.change.0; place = c.device_place.ensures i; old = old i; new = new i }
