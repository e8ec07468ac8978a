-- The ends of the devices so far are found.
use Rattle.std.proofs.Common.{take}
use Rattle.std.specs.List.{list_any}
use Rattle.semantics.specs.Neighbours.{is_end}
use Rattle.circuit_model.specs.Numbers.{device_of}
use Rattle.edit_damage.specs.ByEdit.{AreFound}
use Rattle.edit_damage.proofs.found.Found.add_neighbours.Given as goal

abbrev pub invariant-loop-device : goal.invariant-loop-device
invariant-loop-device l = AreFound l.circuit (λ n. list_any (λ k. is_end n (device_of l.circuit.deck k)) (take l.device-index l.device-items)) l.initial.self l.self
