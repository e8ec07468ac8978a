-- The cells so far are those of the devices so far.
use Rattle.std.proofs.Common.{◌≡◌, map, take}
use Rattle.circuit_model.specs.Ends.{volts_at}
use Rattle.circuit_model.specs.Wiring.{device_cells}
use Rattle.circuit_model.proofs.network.Network.first_cells.Given as goal

abbrev pub invariant-loop-device : goal.invariant-loop-device
invariant-loop-device l = l.cells.items ≡ map (device_cells l.self.grain (volts_at l.volts)) (take l.device-index l.devices)
