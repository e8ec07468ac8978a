-- A device without a table is a resistor, and has no gate.
use Rattle.std.proofs.Common.{◌≡◌, Some, None, ap, sym, ◌∙◌}
use Rattle.semantics.specs.Deck.{DeckValue}
use Rattle.circuit_model.specs.Numbers.{device_of}
use Rattle.circuit_model.specs.Wiring.{table_of}
use Rattle.circuit_model.proofs.Devices.{grids_gated, grids_ohmic}
use Rattle.circuit_model.proofs.circuit.Circuit.gate_grid.Goals as goal

pub returns-in-None : goal.returns-in-None
returns-in-None c =
    let d : DeckValue = c.args.self.now.deck in
    let none : table_of c.device.result.law ≡ None = sym (rw c.in-None.is at c.table.ensures) in
    sym (grids_ohmic d (device_of d c.args.device) c.device.result.law c.device.ensures.device.law_is none).0

pub returns-in-Some : goal.returns-in-Some
returns-in-Some c =
    let d : DeckValue = c.args.self.now.deck in
    let some : table_of c.device.result.law ≡ Some c.in-Some.table.now = sym (rw c.in-Some.is at c.table.ensures) in
    ap Some c.gate.ensures.grid ∙ sym (grids_gated d (device_of d c.args.device) c.device.result.law c.in-Some.table.now c.device.ensures.device.law_is some).0
