-- The pieces that are left give, in the record so far, what all give in the first one.
use Rattle.std.proofs.Common.{length}
use Rattle.scratch_run.proofs.Put.{IsLeft}
use Rattle.scratch_run.proofs.splices.splice_pieces.Given as goal

abbrev pub invariant-loop-piece : goal.invariant-loop-piece
invariant-loop-piece l = IsLeft l.initial.past l.past l.fn.pieces.items l.pieces.items

abbrev pub decreases-loop-piece : goal.decreases-loop-piece
decreases-loop-piece l = length l.pieces.items
