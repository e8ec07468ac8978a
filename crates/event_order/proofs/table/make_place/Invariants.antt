use Rattle.std.proofs.Common.{◌+◌, ◌-◌, vec_len}
use Rattle.event_order.specs.Tables.{SameAt}
use Rattle.event_order.proofs.table.make_place.Given as goal

abbrev pub invariant-loop-table : goal.invariant-loop-table
invariant-loop-table g l = SameAt l.initial.table.items l.table.items

abbrev pub decreases-loop-table : goal.decreases-loop-table
decreases-loop-table g l = l.place + 1 - vec_len l.table
