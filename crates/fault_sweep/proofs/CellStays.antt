-- A device stays in its cells where it does on both axes.
use Rattle.std.proofs.Common.{◌≡◌, ℕ, ◌+◌, ◌<◌, ◌≤◌, length, Some, sym, ap, ◌∙◌, arith}
use Rattle.semantics.proofs.Limits.{limits}
use Rattle.circuit_model.specs.Numbers.{CircuitValue, axes, cells_by_axis, device_of, devices}
use Rattle.circuit_model.proofs.ByNumber.{cells_by_number, same_ends}
use Rattle.histories.specs.Record.{RecordValue}
use Rattle.fault_sweep.specs.declared.cell_stay.CellStay.{CellStay}
use Rattle.fault_sweep.specs.declared.stay.Stay.{Stay}
use Rattle.fault_sweep.specs.CellStays.{IsCellStay, cells_at}
use Rattle.fault_sweep.specs.Records.{IsBasis, volts, volts_of_ends}
use Rattle.fault_sweep.specs.Stretches.{IsStay, drain_cells, gate_cells}
use Rattle.fault_sweep.proofs.Nodes.{are_volts}

-- a device has cells at each tick
pub cells_there : (c : CircuitValue) (h : RecordValue) (device t : ℕ) → IsBasis c h → device < length (devices c.deck) → cells_at c h device t ≡ Some (cells_by_axis c.deck c.names (volts_of_ends c h t) device)
cells_there c h device t basis below =
    cells_by_number c.deck c.names (volts c h t) (volts_of_ends c h t) device (limits c.deck basis.valid) below
    (same_ends c.deck c.names (volts c h t) (volts_of_ends c h t) device basis.has_nodes (are_volts c h basis t) below)

pub cells_stay : (c : CircuitValue) (h : RecordValue) (device now : ℕ) (gate drain : Stay) (stay : CellStay) → IsBasis c h → device < length (devices c.deck)
    → IsStay (gate_cells c h device) now gate → IsStay (drain_cells c h device) now drain → drain.until ≤ c.deck.stop + 1 → stay.cells ≡ axes (device_of c.deck device) gate.cell drain.cell
    → now < stay.until → stay.until ≤ gate.until → stay.until ≤ drain.until → IsCellStay c h device now stay
cells_stay c h device now gate drain stay basis below gates drains by_stop cells later by_gate by_drain = record {
  later = later;
  by_stop = omega (arith, by_stop, by_drain);
  cells_are = λ t after before.
      let g = gates.cell_is t after (omega (arith, before, by_gate)) in
      let d = drains.cell_is t after (omega (arith, before, by_drain)) in
      cells_there c h device t basis below ∙ (λ i. Some (axes (device_of c.deck device) (g i) (d i))) ∙ ap Some (sym cells);
}
