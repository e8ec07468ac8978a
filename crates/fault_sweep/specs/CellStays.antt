-- The cells of a device in a record, and how long it stays in them.
use Rattle.std.specs.Prelude.{◌≡◌, ℕ, ◌+◌, ◌<◌, ◌≤◌, Option, Some}
use Rattle.semantics.specs.RecordWave.{record_cells}
use Rattle.circuit_model.specs.Numbers.{CircuitValue, device_of}
use Rattle.histories.specs.Record.{RecordValue}
use Rattle.fault_sweep.specs.declared.cell_stay.CellStay.{CellStay}
use Rattle.circuit_model.specs.Records.{record_of}
use Rattle.histories.specs.Record.{pair_at}

-- the cells of the device of this number at a tick, by the record
abbrev pub cells_at : CircuitValue → RecordValue → ℕ → ℕ → Option (ℕ × ℕ)
cells_at c h device t = record_cells c.deck (record_of c (pair_at h)) t (device_of c.deck device)

-- it has these at each tick from now on, before a later one, which is at most the tick after the stop
pub record IsCellStay (c : CircuitValue) (h : RecordValue) (device now : ℕ) (stay : CellStay) : Type 0 where
  pub later : now < stay.until
  pub by_stop : stay.until ≤ c.deck.stop + 1
  pub cells_are : (t : ℕ) → now ≤ t → t < stay.until → cells_at c h device t ≡ Some stay.cells
