-- Each device is wired and in cells that are there, and lets its current flow.
use Rattle.std.proofs.Common.{◌≡◌, ◌≤◌, ℕ, List, length, get_or, refl, ◌∙◌, ap, arith, ℤ, pos, FitsSigned}
use mir.Syntax.{w64}
use Rattle.std.proofs.lemmas.Int.{ints, to_z-of_z}
use Rattle.semantics.specs.Deck.{DeckValue, nodes}
use Rattle.semantics.proofs.Limits.{limits}
use Rattle.circuit_model.specs.Wiring.{DeviceValue, devices_of, device_current}
use Rattle.circuit_model.proofs.Flows.{flowed, inflow_small}
use Rattle.circuit_model.proofs.Networks.{grain_fits, device_wired, device_has, cells_count}
use Rattle.circuit_model.proofs.Totals.{devices_few}
use Rattle.circuit_model.proofs.network.Network.find_currents.Goals as goal

pub bounds-cells-k : goal.bounds-cells-k
bounds-cells-k c =
    let d : DeckValue = c.args.self.now in
    omega (arith, c.loop-k-test.true, cells_count d c.requires.cells.0 c.args.cells.now c.devices-devices.result.now c.requires.cells.1 c.devices-devices.ensures.devices)

pub current-amps-requires-clause-grain : goal.current-amps-requires-clause-grain
current-amps-requires-clause-grain c =
    let d : DeckValue = c.args.self.now in
    grain_fits d c.grain-grain.result (c.grain-grain.ensures.value ∙ ap (λ (e : DeckValue). e.grain) c.deck.ensures.deck) (limits d c.devices-devices.ensures.valid)

pub current-amps-requires-clause-wired : goal.current-amps-requires-clause-wired
current-amps-requires-clause-wired c =
    let d : DeckValue = c.args.self.now in
    (length (nodes d), device_wired d (nodes d) c.devices-devices.result.now c.loop-k.k c.index-devices-k.result (limits d c.devices-devices.ensures.valid) c.devices-devices.ensures.devices c.loop-k-test.true c.index-devices-k.is)

pub current-amps-requires-clause-cells : goal.current-amps-requires-clause-cells
current-amps-requires-clause-cells c =
    let d : DeckValue = c.args.self.now in
    device_has d c.requires.cells.0 c.loop-k.k c.args.cells.now c.devices-devices.result.now c.index-devices-k.result c.requires.cells.1 c.devices-devices.ensures.devices c.loop-k-test.true c.index-devices-k.is

pub let_flow-requires-clause-wired : goal.let_flow-requires-clause-wired
let_flow-requires-clause-wired c =
    let d : DeckValue = c.args.self.now in
    let size : length c.loop-k.rates ≡ length (nodes d) = c.loop-k.auto.rates ∙ c.fill.ensures.len ∙ c.requires.count in
    rw size (device_wired d (nodes d) c.devices-devices.result.now c.loop-k.k c.index-devices-k.result (limits d c.devices-devices.ensures.valid) c.devices-devices.ensures.devices c.loop-k-test.true c.index-devices-k.is)

pub let_flow-requires-clause-small : goal.let_flow-requires-clause-small
let_flow-requires-clause-small c = λ i.
    let d : DeckValue = c.args.self.now in
    let same : c.devices-devices.result.now ≡ devices_of d (nodes d) = c.devices-devices.ensures.devices in
    let few : length c.devices-devices.result.now ≤ 100000 = rw same (devices_few d (nodes d) (limits d c.devices-devices.ensures.valid)) in
    omega (arith, c.loop-k.invariant.small i, c.loop-k-test.true, few)

pub loop-k-preserved : goal.loop-k-preserved
loop-k-preserved c =
    let d : DeckValue = c.args.self.now in
    let devices : List DeviceValue = c.devices-devices.result.now in
    let device : DeviceValue = c.index-devices-k.result in
    let k : ℕ = c.loop-k.k in
    let count : length c.args.cells.now ≡ length devices = cells_count d c.requires.cells.0 c.args.cells.now devices c.requires.cells.1 c.devices-devices.ensures.devices in
    let amps : ℤ = c.current-amps.result in
    let fits : FitsSigned w64 amps = record { sfits = c.current-amps.type_inv } in
    let grain : c.grain-grain.result ≡ d.grain = c.grain-grain.ensures.value ∙ ap (λ (e : DeckValue). e.grain) c.deck.ensures.deck in
    let value : amps ≡ device_current d.grain device (get_or c.args.cells.now k (0, 0)) = c.current-amps.ensures.value ∙ rw grain refl in
    record {
      flows = λ i below. flowed d.grain i devices c.args.cells.now k device (get_or c.loop-k.rates i (pos 0)) (get_or c.let_flow.new.rates i (pos 0)) amps _ c.loop-k-test.true (omega (arith, c.loop-k-test.true, count)) c.index-devices-k.is value
          (rw (to_z-of_z w64 amps fits) at c.let_flow.ensures i) (c.loop-k.invariant.flows i below);
      small = λ i. rw (c.let_flow.ensures i, to_z-of_z w64 amps fits) (omega (arith, ints, c.loop-k.invariant.small i, inflow_small i device.ends amps c.current-amps.ensures.small));
    }
