-- What a circuit keeps of its deck.
use Rattle.std.specs.Prelude.{◌≡◌, ℕ, true, ℤ, List, map, Option, Some}
use Rattle.semantics.specs.Deck.{DeckValue, nodes}
use Rattle.semantics.specs.Valid.{is_valid}
use Rattle.circuit_model.specs.declared.kept_device.KeptDevice.{KeptDevice}
use Rattle.circuit_model.specs.Ends.{ends_in, number}
use Rattle.circuit_model.specs.Kept.{device_in}
use Rattle.circuit_model.specs.Names.{AreNames, HasNodes}
use Rattle.circuit_model.specs.Numbers.{device_of, near_of}
use Rattle.circuit_model.specs.Wiring.{DeviceValue, devices_of, law_at, ohmic_grid}

-- the deck is valid and its nodes have numbers; the grid is that of its resistors, and what is kept makes all devices;
-- and of each number, the place of its name among the deck's nodes, and the devices at the node
pub record IsCircuit (d : DeckValue) (names : List (List ℕ)) (grid : List ℤ) (kept : List KeptDevice) (places : List (Option ℕ)) (near : List (List ℕ)) : Type 0 where
  pub valid : is_valid d ≡ true
  pub named : AreNames names
  pub has : HasNodes d names
  pub grid_is : grid ≡ ohmic_grid d.grain
  pub devices_are : map (device_in d) kept ≡ map Some (devices_of d names)
  pub places_are : places ≡ map (number (nodes d)) names
  pub near_are : near ≡ map (near_of d) names

-- a device stands for the element of this number
pub record IsNumbered (d : DeckValue) (names : List (List ℕ)) (k : ℕ) (device : DeviceValue) : Type 0 where
  pub ends_is : device.ends ≡ ends_in names (device_of d k)
  pub law_is : law_at d (device_of d k) ≡ Some device.law
