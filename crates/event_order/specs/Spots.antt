-- Where devices stand in lists by place.
use Rattle.std.specs.Prelude.{◌≡◌, ◌≢◌, ℕ, ◌%◌, ◌^◌, ◌<◌, List, map, Option, Some, None, slice_index_or}
use Rattle.std.specs.List.{swap_remove}
use Rattle.event_order.specs.declared.spot.Spot.{Spot}
use Rattle.event_order.specs.Buckets.{bucket, Holds}

-- where a device stands; None past the end of the table
abbrev pub spot_at : List (Option Spot) → ℕ → Option Spot
spot_at spots device = slice_index_or spots device None

-- the tick of a spot
abbrev pub tick_of : Option Spot → Option ℕ
tick_of None = None
tick_of (Some spot) = Some spot.tick

-- the table of ticks
abbrev pub ticks_in : List (Option Spot) → List (Option ℕ)
ticks_in spots = map tick_of spots

-- the list of a spot's place
abbrev pub list_of : List (List ℕ) → Spot → List ℕ
list_of lists spot = bucket lists (spot.tick % 256)

-- the same list without the device of the spot, whose index the last one there has taken
abbrev pub left_of : List (List ℕ) → Spot → List ℕ
left_of lists spot = swap_remove (list_of lists spot) spot.index 0

-- a spot with another index
abbrev pub with_index : Spot → ℕ → Spot
with_index spot index = record { tick = spot.tick; index = index }

-- a device has this index now, and else nothing has changed
pub record SpotOnly (old new : List (Option Spot)) (device index : ℕ) : Type 0 where
  pub changed : (spot : Spot) → spot_at old device ≡ Some spot → spot_at new device ≡ Some (with_index spot index)
  pub others : (other : ℕ) → other ≢ device → spot_at new other ≡ spot_at old other

-- the device that stands at an index of this list has that index now, and else nothing has changed
pub record Reindexed (old new : List (Option Spot)) (list : List ℕ) (index : ℕ) : Type 0 where
  pub changed : (device : ℕ) (spot : Spot) → Holds list index device → spot_at old device ≡ Some spot →
      spot_at new device ≡ Some (with_index spot index)
  pub others : (device : ℕ) → (Holds list index device → ⊥) → spot_at new device ≡ spot_at old device

-- each device stands where its spot says, and each that stands anywhere has that spot
pub record IsPlaced (spots : ℕ → Option Spot) (lists : ℕ → List ℕ) : Type 0 where
  pub stands : (device : ℕ) (spot : Spot) → spots device ≡ Some spot → Holds (lists (spot.tick % 256)) spot.index device
  pub spot : (place index device : ℕ) → Holds (lists place) index device →
      (spot : Spot) × (spots device ≡ Some spot) × (spot.tick % 256 ≡ place) × (spot.index ≡ index)

-- the spots and the lists of devices agree
pub record IsNear (spots : List (Option Spot)) (lists : List (List ℕ)) : Type 0 where
  pub placed : IsPlaced (spot_at spots) (bucket lists)
  pub fits : (device tick : ℕ) → tick_of (spot_at spots device) ≡ Some tick → tick < 2 ^ 64
