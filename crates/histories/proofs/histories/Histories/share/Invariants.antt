-- Those so far.
use Rattle.std.proofs.Common.{◌≡◌, take}
use Rattle.histories.proofs.histories.Histories.share.Given as goal

abbrev pub invariant-loop-track : goal.invariant-loop-track
invariant-loop-track l = l.tracks.items ≡ take l.track-index l.track-items
