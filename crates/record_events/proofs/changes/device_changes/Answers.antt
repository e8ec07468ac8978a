-- From stay to stay.
use Rattle.std.proofs.Common.{◌≡◌, ◌∙◌, ◌-◌, ap, arith}
use Rattle.record_events.specs.Changes.{changes_to}
use Rattle.record_events.proofs.Walk.{first_stay, next_stay, stay_to}
use Rattle.record_events.proofs.changes.device_changes.Goals as goal

pub loop-stay-init : goal.loop-stay-init
loop-stay-init c = record {
  to = stay_to c.args.circuit.now c.args.past.now c.args.device 0 c.cells_from-stay.result c.cells_from-stay.ensures;
  changes = c.new-changes.ensures.items ∙ first_stay c.args.circuit.now c.args.past.now c.args.device c.cells_from-stay.result c.cells_from-stay.ensures;
}

pub loop-stay-preserved : goal.loop-stay-preserved
loop-stay-preserved c = record {
  to = stay_to c.args.circuit.now c.args.past.now c.args.device c.loop-stay.stay.until c.cells_from-next.result c.cells_from-next.ensures;
  changes = next_stay c.args.circuit.now c.args.past.now c.args.device c.loop-stay.stay c.cells_from-next.result _ _ c.loop-stay.invariant.to c.cells_from-next.ensures c.loop-stay.invariant.changes (c.in_ok-note.ensures {u = tt});
}

pub returns : goal.returns
returns c =
    let last : c.loop-stay.stay.until - 1 ≡ c.args.circuit.now.deck.stop = omega (arith, c.loop-stay-test.false, c.stop.ensures.stop, c.loop-stay.invariant.to.by_stop) in
    c.loop-stay.invariant.changes ∙ ap (changes_to c.args.circuit.now c.args.past.now c.args.device) last
