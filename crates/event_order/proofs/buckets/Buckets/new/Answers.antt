use Rattle.std.proofs.Common.{◌∙◌, sym, ap, min, length}
use Rattle.event_order.specs.Buckets.{lists_of, bucket}
use Rattle.event_order.proofs.BucketLists.{none_marked_yet}
use Rattle.event_order.proofs.buckets.Buckets.new.Goals as goal

pub invariant_of-result : goal.invariant_of-result
invariant_of-result c place low = none_marked_yet place ∙ ap (λ xs. min 1 (length (bucket (lists_of xs) place))) (sym c.new.ensures.items)
