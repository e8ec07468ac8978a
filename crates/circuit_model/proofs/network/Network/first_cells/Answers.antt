-- Each device is wired, the voltages are small, and at the end every device has its cells.
use Rattle.std.proofs.Common.{◌≡◌, List, length, ◌∙◌, ap, arith}
use Rattle.std.proofs.lemmas.List.{length-map}
use Rattle.semantics.specs.declared.fraction.Fraction.{Fraction}
use Rattle.semantics.specs.Deck.{DeckValue, nodes}
use Rattle.semantics.specs.Run.{run}
use Rattle.semantics.proofs.Limits.{limits}
use Rattle.circuit_model.specs.Ends.{volts_at}
use Rattle.circuit_model.specs.Wiring.{device_cells}
use Rattle.circuit_model.proofs.Networks.{volts_small, device_wired, cells_pushed, cells_whole}
use Rattle.circuit_model.proofs.network.Network.first_cells.Goals as goal

pub cells-requires-clause-wired : goal.cells-requires-clause-wired
cells-requires-clause-wired c =
    let d : DeckValue = c.args.self.now in
    let size : length c.args.volts.now ≡ length (nodes d) = ap (λ (xs : List Fraction). length xs) c.requires ∙ length-map (nodes d) (run d 0) in
    rw size (device_wired d (nodes d) c.devices-devices.result.now c.loop-device.device-index c.device-item.result (limits d c.devices-devices.ensures.valid) c.devices-devices.ensures.devices c.loop-device-test.true c.device-item.is)

pub cells-requires-clause-small : goal.cells-requires-clause-small
cells-requires-clause-small c =
    let d : DeckValue = c.args.self.now in
    rw c.requires (volts_small d 0 (limits d c.devices-devices.ensures.valid) (omega arith))

pub loop-device-preserved : goal.loop-device-preserved
loop-device-preserved c =
    let d : DeckValue = c.args.self.now in
    cells_pushed (device_cells d.grain (volts_at c.args.volts.now)) c.devices-devices.result.now c.loop-device.cells.items _ c.loop-device.device-index c.device-item.result c.cells.result
    c.loop-device-test.true c.device-item.is (c.cells.ensures d.grain c.grid-grid.ensures) c.loop-device.invariant c.in_ok-push.ensures.items

pub returns : goal.returns
returns c =
    let d : DeckValue = c.args.self.now in
    cells_whole d 0 c.loop-device.cells.items c.devices-devices.result.now c.args.volts.now c.loop-device.device-index c.requires c.devices-devices.ensures.devices c.loop-device-test.false c.loop-device.invariant
