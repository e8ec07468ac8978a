-- The changes of a record: which device, by its number, comes into other cells at which tick.
use Rattle.std.specs.Prelude.{ℕ, zero, suc, ◌-◌, ◌<◌, ◌≤◌, if◌then◌else◌, List, [], ◌∷◌, ◌++◌, length, unwrap_or}
use Rattle.std.specs.List.{flat_map, range_with_len}
use Rattle.semantics.specs.declared.event.Event.{Event}
use Rattle.semantics.specs.Event.{same_cells}
use Rattle.circuit_model.specs.Numbers.{CircuitValue, devices, place_of}
use Rattle.histories.specs.Record.{RecordValue}
use Rattle.fault_sweep.specs.CellStays.{cells_at}

-- the cells of a device at a tick, by the record
abbrev pub cells_by : CircuitValue → RecordValue → ℕ → ℕ → ℕ × ℕ
cells_by c h device t = unwrap_or (cells_at c h device t) (0, 0)

-- the next tick with the device, where its cells are others there
abbrev pub change_after : CircuitValue → RecordValue → ℕ → ℕ → List (ℕ × ℕ)
change_after c h device t =
    if same_cells (cells_by c h device t) (cells_by c h device (suc t)) then [] else (suc t, device) ∷ []

-- the changes of a device at ticks 1 to t
unfoldable pub changes_to : CircuitValue → RecordValue → ℕ → ℕ → List (ℕ × ℕ)
changes_to c h device zero = []
changes_to c h device (suc t) = changes_to c h device t ++ change_after c h device t

-- those of the first so many devices up to the stop, device by device
abbrev pub changes_of : CircuitValue → RecordValue → ℕ → List (ℕ × ℕ)
changes_of c h count = flat_map (λ device. changes_to c h device c.deck.stop) (range_with_len 0 count)

-- a tick from 1 to the stop, and the number of a device
pub record IsChange (c : CircuitValue) (change : ℕ × ℕ) : Type 0 where
  pub from : 1 ≤ change.0
  pub by_stop : change.0 ≤ c.deck.stop
  pub device : change.1 < length (devices c.deck)

-- a change as an event
abbrev pub event_by : CircuitValue → RecordValue → ℕ × ℕ → Event
event_by c h change = record {
  tick = change.0;
  place = place_of c.deck change.1;
  old = cells_by c h change.1 (change.0 - 1);
  new = cells_by c h change.1 change.0;
}
