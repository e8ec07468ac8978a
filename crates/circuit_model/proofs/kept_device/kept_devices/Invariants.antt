-- What is kept so far makes the devices of the elements so far.
use Rattle.std.proofs.Common.{◌≡◌, ◌++◌, Some, drop, map}
use Rattle.circuit_model.specs.Kept.{device_in}
use Rattle.circuit_model.specs.Wiring.{devices_from}
use Rattle.circuit_model.proofs.kept_device.kept_devices.Given as goal

abbrev pub invariant-loop-place : goal.invariant-loop-place
invariant-loop-place l =
    map (device_in l.deck) l.kept.items ++ map Some (devices_from l.deck l.names l.place (drop l.place l.deck.elements)) ≡ map Some (devices_from l.deck l.names 0 l.deck.elements)
