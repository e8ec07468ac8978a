-- The events of the changes so far.
use Rattle.std.proofs.Common.{◌≡◌, map, take}
use Rattle.record_events.specs.Changes.{event_by}
use Rattle.record_events.proofs.event_list.told.Given as goal

abbrev pub invariant-loop-change : goal.invariant-loop-change
invariant-loop-change l = l.found.items ≡ map (event_by l.circuit l.past) (take l.change-index l.changes)
