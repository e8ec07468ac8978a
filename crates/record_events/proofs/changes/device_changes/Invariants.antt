-- The changes before the end of the stay.
use Rattle.std.proofs.Common.{◌≡◌, ◌+◌, ◌-◌}
use Rattle.record_events.specs.Changes.{changes_to}
use Rattle.record_events.proofs.Walk.{IsStayTo}
use Rattle.record_events.proofs.changes.device_changes.Given as goal

abbrev pub invariant-loop-stay : goal.invariant-loop-stay
invariant-loop-stay l = record {
  to : IsStayTo l.circuit l.past l.device l.stay;
  changes : l.changes.items ≡ changes_to l.circuit l.past l.device (l.stay.until - 1);
}

abbrev pub decreases-loop-stay : goal.decreases-loop-stay
decreases-loop-stay l = l.circuit.deck.stop + 1 - l.stay.until
