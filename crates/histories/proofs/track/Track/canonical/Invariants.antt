-- The lines so far are those below the tick, at which one begins.
use Rattle.std.proofs.Common.{◌≡◌, ◌<◌, ◌≤◌, ◌-◌, true}
use Rattle.histories.specs.Track.{pair}
use Rattle.histories.specs.Pairs.{begins, lines_below}
use Rattle.histories.proofs.track.Track.canonical.Given as goal

abbrev pub invariant-loop-tick : goal.invariant-loop-tick
invariant-loop-tick l = record {
  by_stop : l.tick ≤ l.stop;
  lines : l.lines.items ≡ lines_below (pair l.self) l.stop l.tick;
  begins_here : l.tick < l.stop → begins (pair l.self) l.stop l.tick ≡ true;
}

abbrev pub decreases-loop-tick : goal.decreases-loop-tick
decreases-loop-tick l = l.stop - l.tick
