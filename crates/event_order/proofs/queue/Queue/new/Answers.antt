use Rattle.std.proofs.Common.{◌∙◌, ap}
use Rattle.std.specs.Ordering.{nat_cmp}
use Rattle.std.specs.FinMap as map
use Rattle.std.specs.FinMap.{get-empty}
use Rattle.event_order.proofs.Joined.{split_empty, joined_empty}
use Rattle.event_order.proofs.queue.Queue.new.Goals as goal

pub invariant_of-result : goal.invariant_of-result
invariant_of-result c = split_empty 0 _ _ c.new.ensures (λ q _. ap (λ m. map.get m q) c.new-2.ensures ∙ get-empty nat_cmp q)

pub returns : goal.returns
returns c = joined_empty _ _ c.new.ensures c.new-2.ensures
