-- What the plain run keeps of a deck, and the cells of its devices.
use Rattle.std.specs.Prelude.{◌≡◌, ℕ, true, ℤ, List, map}
use Rattle.semantics.specs.declared.fraction.Fraction.{Fraction}
use Rattle.semantics.specs.Deck.{DeckValue, nodes}
use Rattle.semantics.specs.Run.{run}
use Rattle.semantics.specs.Valid.{is_valid}
use Rattle.circuit_model.specs.Ends.{volts_at}
use Rattle.circuit_model.specs.Wiring.{DeviceValue, devices_of, device_cells, ohmic_grid}

-- the deck is valid; the grid is that of its resistors, and the devices are all of them, by the places of the deck's nodes
pub record IsNetwork (d : DeckValue) (grid : List ℤ) (devices : List DeviceValue) : Type 0 where
  pub valid : is_valid d ≡ true
  pub grid_is : grid ≡ ohmic_grid d.grain
  pub devices_are : devices ≡ devices_of d (nodes d)

-- the voltages of the nodes at a tick of the run, by the places of the nodes
abbrev pub volts_of : DeckValue → ℕ → List Fraction
volts_of d tick = map (run d tick) (nodes d)

-- the cells of each device at a tick of the run
unfoldable pub cells_at : DeckValue → ℕ → List (ℕ × ℕ)
cells_at d tick = map (device_cells d.grain (volts_at (volts_of d tick))) (devices_of d (nodes d))
