-- The faults below this tick are found.
use Rattle.std.proofs.Common.{◌-◌, ◌≤◌}
use Rattle.fault_sweep.specs.Records.{AreFaults}
use Rattle.fault_sweep.specs.Stretches.{AreHolds}
use Rattle.fault_sweep.proofs.sweep.sweep.Given as goal

abbrev pub invariant-loop-now : goal.invariant-loop-now
invariant-loop-now l = record {
  from : l.a ≤ l.now;
  by_end : l.now ≤ l.b;
  holds : AreHolds l.circuit l.past l.node l.now l.holds;
  found : AreFaults l.circuit l.past l.node l.a l.now l.spans;
}

abbrev pub decreases-loop-now : goal.decreases-loop-now
decreases-loop-now l = l.b - l.now
