-- The law of the device orders its cells.
use Rattle.std.proofs.Common.{◌∙◌}
use Rattle.semantics.specs.Deck.{DeckValue}
use Rattle.circuit_model.specs.Numbers.{device_of}
use Rattle.circuit_model.proofs.Devices.{axes_law}
use Rattle.circuit_model.proofs.circuit.Circuit.axes.Goals as goal

pub returns : goal.returns
returns c =
    let d : DeckValue = c.args.self.now.deck in
    c.axes.ensures ∙ axes_law d (device_of d c.args.device) c.device.result.law c.args.gate_cell c.args.drain_cell c.device.ensures.device.law_is
