-- The lists so far are those of the devices so far.
use Rattle.std.proofs.Common.{◌≡◌}
use Rattle.std.specs.List.{flat_map}
use Rattle.record_events.specs.Changes.{changes_of}
use Rattle.record_events.proofs.changes.changes.Given as goal

abbrev pub invariant-loop-device : goal.invariant-loop-device
invariant-loop-device l = flat_map (λ changes. changes.items) l.lists.items ≡ changes_of l.circuit l.past l.device
