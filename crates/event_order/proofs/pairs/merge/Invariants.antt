use Rattle.std.proofs.Common.{◌≡◌, take}
use Rattle.std.specs.List.{flat_map}
use Rattle.event_order.proofs.pairs.merge.Given as goal

abbrev pub invariant-loop-pairs : goal.invariant-loop-pairs
invariant-loop-pairs l = l.merged.items ≡ flat_map (λ pairs. pairs.items) (take l.pairs-index l.lists)
