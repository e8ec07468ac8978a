-- The spans before both places are in one.
use Rattle.std.proofs.Common.{◌+◌, ◌-◌, length}
use Rattle.regions.proofs.Joins.{IsMerged}
use Rattle.regions.proofs.spans.merged.Given as goal

abbrev pub invariant-loop-place : goal.invariant-loop-place
invariant-loop-place l = IsMerged l.one l.other l.both.items l.place l.other_place

abbrev pub decreases-loop-place : goal.decreases-loop-place
decreases-loop-place l = (length l.one - l.place) + (length l.other - l.other_place)
