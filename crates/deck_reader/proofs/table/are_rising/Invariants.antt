use Rattle.std.proofs.Common.{◌≡◌, length}
use Rattle.semantics.specs.Valid.{rising}
use Rattle.deck_reader.proofs.table.are_rising.Given as goal

abbrev pub invariant-loop-left : goal.invariant-loop-left
invariant-loop-left l = rising l.initial.left ≡ rising l.left

abbrev pub decreases-loop-left : goal.decreases-loop-left
decreases-loop-left l = length l.left
