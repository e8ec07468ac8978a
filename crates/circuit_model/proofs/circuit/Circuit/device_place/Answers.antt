-- The device of the number has its place.
use Rattle.std.proofs.Common.{◌∙◌}
use Rattle.circuit_model.proofs.circuit.Circuit.device_place.Goals as goal

pub returns : goal.returns
returns c = c.place.ensures ∙ c.device.ensures.place
