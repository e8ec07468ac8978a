use Rattle.std.proofs.Common.{◌+◌, ◌-◌, vec_len}
use Rattle.event_order.specs.Buckets.{lists_of, SameBuckets}
use Rattle.event_order.proofs.buckets.make_list.Given as goal

abbrev pub invariant-loop-lists : goal.invariant-loop-lists
invariant-loop-lists l = SameBuckets (lists_of l.initial.lists.items) (lists_of l.lists.items)

abbrev pub decreases-loop-lists : goal.decreases-loop-lists
decreases-loop-lists l = l.place + 1 - vec_len l.lists
