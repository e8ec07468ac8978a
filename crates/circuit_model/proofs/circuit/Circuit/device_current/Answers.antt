-- The law of the device has these cells, and its current is that of the element.
use Rattle.std.proofs.Common.{◌≡◌, ℤ, true, length, ap, ◌∙◌, refl, FitsSigned}
use mir.Syntax.{w64}
use Rattle.std.proofs.lemmas.Int.{to_z-of_z}
use Rattle.semantics.specs.Deck.{DeckValue}
use Rattle.semantics.specs.Device.{current_in}
use Rattle.semantics.specs.declared.element.Element.{Element}
use Rattle.semantics.proofs.Limits.{limits}
use Rattle.circuit_model.specs.Numbers.{axes, device_of}
use Rattle.circuit_model.specs.Wiring.{DeviceValue, device_current, law_current, law_has}
use Rattle.circuit_model.proofs.Devices.{axes_law, axes_there, current_by_law}
use Rattle.circuit_model.proofs.Networks.{grain_fits}
use Rattle.circuit_model.proofs.circuit.Circuit.device_current.Goals as goal

pub current-requires-clause-grain : goal.current-requires-clause-grain
current-requires-clause-grain c =
    let d : DeckValue = c.args.self.now.deck in
    grain_fits d c.grain.result (c.grain.ensures.value ∙ rw (← c.self.view_is) refl) (limits d c.device-device.ensures.valid)

pub current-requires-clause-wired : goal.current-requires-clause-wired
current-requires-clause-wired c = (length c.args.self.now.names, c.device-device.ensures.wired)

pub current-requires-clause-cells : goal.current-requires-clause-cells
current-requires-clause-cells c =
    let d : DeckValue = c.args.self.now.deck in
    let device : DeviceValue = c.device-device.result in
    rw c.axes-cells.ensures (axes_there d (device_of d c.args.device) device.law c.args.gate_cell c.args.drain_cell c.device-device.ensures.device.law_is c.requires.cells)

pub returns-clause-value : goal.returns-clause-value
unfolding device_current
returns-clause-value c =
    let d : DeckValue = c.args.self.now.deck in
    let device : DeviceValue = c.device-device.result in
    let e : Element = device_of d c.args.device in
    let is = c.device-device.ensures.device.law_is in
    let r : ℤ = c.current.result in
    let fits : FitsSigned w64 r = record { sfits = c.current.type_inv } in
    let there : law_has device.law c.axes-cells.result ≡ true = rw c.axes-cells.ensures (axes_there d e device.law c.args.gate_cell c.args.drain_cell is c.requires.cells) in
    let same : c.axes-cells.result ≡ axes e c.args.gate_cell c.args.drain_cell = c.axes-cells.ensures ∙ axes_law d e device.law c.args.gate_cell c.args.drain_cell is in
    let value : law_current d.grain device.law c.axes-cells.result ≡ current_in d e (axes e c.args.gate_cell c.args.drain_cell) = current_by_law d e device.law c.axes-cells.result is there ∙ ap (current_in d e) same in
    let grain : c.grain.result ≡ d.grain = c.grain.ensures.value ∙ rw (← c.self.view_is) refl in
    rw (to_z-of_z w64 r fits, c.current.ensures.value, grain) value
