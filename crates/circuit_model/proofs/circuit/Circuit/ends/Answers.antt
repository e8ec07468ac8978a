-- The device of the number has its ends.
use Rattle.std.proofs.Common.{◌∙◌}
use Rattle.circuit_model.proofs.circuit.Circuit.ends.Goals as goal

pub returns : goal.returns
returns c = c.ends.ensures ∙ c.device.ensures.device.ends_is
