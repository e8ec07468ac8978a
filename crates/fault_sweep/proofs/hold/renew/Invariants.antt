-- All are still what they were or what they are from this tick on, and the first so many last.
use Rattle.fault_sweep.specs.Stretches.{AreHolds, AreOn}
use Rattle.fault_sweep.proofs.hold.renew.Given as goal

abbrev pub invariant-loop-k : goal.invariant-loop-k
invariant-loop-k l = record {
  holds : AreHolds l.circuit l.past l.node l.now l.holds;
  on : AreOn l.k l.now l.holds;
}
