-- The devices so far are those that were kept so far.
use Rattle.std.proofs.Common.{◌≡◌, Some, map, take}
use Rattle.circuit_model.specs.Kept.{device_in}
use Rattle.circuit_model.proofs.kept_device.read_devices.Given as goal

abbrev pub invariant-loop-device : goal.invariant-loop-device
invariant-loop-device l = map Some l.devices.items ≡ map (device_in l.deck) (take l.device-index l.kept)
