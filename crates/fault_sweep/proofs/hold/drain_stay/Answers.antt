-- The first end of a device is real.
use Rattle.fault_sweep.proofs.Nodes.{ends_real}
use Rattle.fault_sweep.proofs.hold.drain_stay.Goals as goal

pub of-first-requires-clause-real : goal.of-first-requires-clause-real
of-first-requires-clause-real c = rw c.ends.ensures (ends_real c.args.circuit.now c.args.past.now c.args.device c.requires.basis c.requires.device).first
