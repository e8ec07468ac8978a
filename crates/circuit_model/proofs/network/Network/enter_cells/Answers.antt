-- Each device is wired and its old cells are there; it enters its cells, and what it changes is noted.
use Rattle.std.proofs.Common.{◌≡◌, ◌+◌, ◌<◌, ℕ, List, length, get_or, take, refl, sym, ◌∙◌, ap, arith, add-one, get_or-set_other, ◌≢◌}
use Rattle.std.proofs.lemmas.List.{length-map, take_all}
use Rattle.semantics.specs.declared.fraction.Fraction.{Fraction}
use Rattle.semantics.specs.Deck.{DeckValue, nodes}
use Rattle.semantics.specs.Run.{run}
use Rattle.semantics.proofs.Limits.{Limits, limits}
use Rattle.circuit_model.specs.Ends.{volts_at}
use Rattle.circuit_model.specs.Wiring.{DeviceValue, devices_of, device_cells}
use Rattle.circuit_model.proofs.Networks.{volts_small, device_wired, cells_count, cells_entered, events_noted, cells_whole, events_whole}
use Rattle.circuit_model.proofs.network.Network.enter_cells.Goals as goal

pub cells-new-requires-clause-wired : goal.cells-new-requires-clause-wired
cells-new-requires-clause-wired c =
    let d : DeckValue = c.args.self.now in
    let size : length c.args.volts.now ≡ length (nodes d) = ap (λ (xs : List Fraction). length xs) c.requires.volts ∙ length-map (nodes d) (run d (c.args.tick + 1)) in
    rw size (device_wired d (nodes d) c.devices-devices.result.now c.loop-k.k c.index-devices-k.result (limits d c.devices-devices.ensures.valid) c.devices-devices.ensures.devices c.loop-k-test.true c.index-devices-k.is)

pub cells-new-requires-clause-small : goal.cells-new-requires-clause-small
cells-new-requires-clause-small c =
    let d : DeckValue = c.args.self.now in
    rw c.requires.volts (volts_small d (c.args.tick + 1) (limits d c.devices-devices.ensures.valid) (omega (arith, c.requires.tick)))

pub overflow_add-tick : goal.overflow_add-tick
overflow_add-tick c =
    let d : DeckValue = c.args.self.now in
    let l : Limits d = limits d c.devices-devices.ensures.valid in omega (arith, l.stop, c.requires.tick)

pub slice_copy_out-old : goal.slice_copy_out-old
slice_copy_out-old c =
    let d : DeckValue = c.args.self.now in
    omega (arith, c.loop-k-test.true, c.loop-k.auto.cells, cells_count d c.args.tick c.args.cells.now c.devices-devices.result.now c.requires.cells c.devices-devices.ensures.devices)

pub bounds-cells-k : goal.bounds-cells-k
bounds-cells-k c =
    let d : DeckValue = c.args.self.now in
    omega (arith, c.loop-k-test.true, c.loop-k.auto.cells, cells_count d c.args.tick c.args.cells.now c.devices-devices.result.now c.requires.cells c.devices-devices.ensures.devices)

pub loop-k-preserved : goal.loop-k-preserved
loop-k-preserved c =
    let d : DeckValue = c.args.self.now in
    let devices : List DeviceValue = c.devices-devices.result.now in
    let device : DeviceValue = c.index-devices-k.result in
    let k : ℕ = c.loop-k.k in
    let count : length c.args.cells.now ≡ length devices = cells_count d c.args.tick c.args.cells.now devices c.requires.cells c.devices-devices.ensures.devices in
    let within : k < length c.loop-k.cells = omega (arith, c.loop-k-test.true, c.loop-k.auto.cells, count) in
    let value : c.cells-new.result ≡ device_cells d.grain (volts_at c.args.volts.now) device = c.cells-new.ensures d.grain c.grid-grid.ensures in
    record {
      done = cells_entered (device_cells d.grain (volts_at c.args.volts.now)) devices c.loop-k.cells k device c.cells-new.result c.loop-k-test.true within c.loop-k.invariant.done c.index-devices-k.is value;
      rest = λ j above. let apart : j ≢ k = omega arith in rw get_or-set_other (c.loop-k.invariant.rest j (omega arith));
      noted = events_noted d.grain (c.args.tick + 1) (volts_at c.args.volts.now) devices c.args.cells.now k device (get_or c.args.cells.now k (0, 0)) c.cells-new.result c.loop-k.events c.note.new.self _ c.loop-k-test.true (omega (arith, c.loop-k-test.true, count)) c.index-devices-k.is refl value
          (rw (c.place.ensures, c.loop-k.invariant.rest k (omega arith)) at c.in_ok-note.ensures) c.loop-k.invariant.noted;
    }

pub returns-clause-cells : goal.returns-clause-cells
returns-clause-cells c =
    let d : DeckValue = c.args.self.now in
    let devices : List DeviceValue = c.devices-devices.result.now in
    let k : ℕ = c.loop-k.k in
    let same : devices ≡ devices_of d (nodes d) = c.devices-devices.ensures.devices in
    let count : length c.args.cells.now ≡ length devices = cells_count d c.args.tick c.args.cells.now devices c.requires.cells same in
    let all : take k c.loop-k.cells ≡ c.loop-k.cells = take_all k c.loop-k.cells (omega (arith, c.loop-k-test.false, c.loop-k.auto.cells, count)) in
    cells_whole d (c.args.tick + 1) c.loop-k.cells devices c.args.volts.now k c.requires.volts same c.loop-k-test.false (sym all ∙ c.loop-k.invariant.done)

pub returns-clause-events : goal.returns-clause-events
returns-clause-events c =
    let d : DeckValue = c.args.self.now in
    events_whole d c.args.tick (c.args.tick + 1) c.args.cells.now c.devices-devices.result.now c.args.volts.now c.loop-k.k c.args.events.now c.loop-k.events (add-one c.args.tick)
    c.requires.volts c.devices-devices.ensures.devices c.requires.cells c.requires.events c.loop-k-test.false c.loop-k.invariant.noted
