-- Up to the end so far the line has the pairs, and the place is that of the end.
use Rattle.std.proofs.Common.{◌≡◌, ◌≤◌, ◌-◌, ℕ}
use Rattle.node_ramps.specs.Lines.{voltage}
use Rattle.histories.specs.Track.{pair}
use Rattle.histories.specs.Place.{IsPlace}
use Rattle.histories.proofs.track.Track.line_end.Given as goal

abbrev pub invariant-loop-end : goal.invariant-loop-end
invariant-loop-end l = record {
  begun : l.line.start ≤ l.end;
  by_stop : l.end ≤ l.stop;
  has : (s : ℕ) → l.line.start ≤ s → s ≤ l.end → pair l.self s ≡ voltage l.line s;
  place : IsPlace l.self l.end l.place;
}

abbrev pub decreases-loop-end : goal.decreases-loop-end
decreases-loop-end l = l.stop - l.end
