-- A lowered text is in lower case.
use Rattle.semantics.proofs.Lowered.{lowered-lowered}
use Rattle.semantics.proofs.name.Name.of.Goals as goal

pub invariant_of-result : goal.invariant_of-result
invariant_of-result c = rw c.in_ok-lowered.ensures (lowered-lowered _)
