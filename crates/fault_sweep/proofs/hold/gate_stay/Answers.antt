-- The gate of a device is real.
use Rattle.fault_sweep.proofs.Nodes.{ends_real}
use Rattle.fault_sweep.proofs.hold.gate_stay.Goals as goal

pub of-gate-requires-clause-real : goal.of-gate-requires-clause-real
of-gate-requires-clause-real c = rw c.ends.ensures (ends_real c.args.circuit.now c.args.past.now c.args.device c.requires.basis c.requires.device).gate
