-- The lists of devices at 256 places.
use Rattle.std.specs.Prelude.{◌≡◌, ℕ, ◌+◌, ◌%◌, ◌==◌, ◌<◌, min, List, [], length, map, Vec, slice_index, slice_index_or, if◌then◌else◌}
use Rattle.std.specs.declared.alloc.Global.{Global}
use Rattle.event_order.specs.Marks.{mark_at}

-- the lists of devices
abbrev pub lists_of : List (Vec ℕ Global) → List (List ℕ)
lists_of lists = map (λ list. list.items) lists

-- the list at a place; past the end there is none
abbrev pub bucket : List (List ℕ) → ℕ → List ℕ
bucket lists place = slice_index_or lists place []

-- at this place stands this list, and at the others what stood there
abbrev pub ChangesAt : List (List ℕ) → List (List ℕ) → ℕ → List ℕ → Type 0
ChangesAt old new place list = (other : ℕ) →
    bucket new other ≡ (if other == place then list else bucket old other)

-- at each place stands what stood there
abbrev pub SameBuckets : List (List ℕ) → List (List ℕ) → Type 0
SameBuckets old new = (other : ℕ) → bucket new other ≡ bucket old other

-- a place is marked where its list has a device
abbrev pub IsMarked : List ℕ → List (List ℕ) → Type 0
IsMarked marks lists = (place : ℕ) → place < 256 → mark_at marks place ≡ min 1 (length (bucket lists place))

-- the place so far on from this one has a device, and none before it
pub record IsNext (lists : List (List ℕ)) (place ahead : ℕ) : Type 0 where
  pub below : ahead < 256
  pub some : 0 < length (bucket lists ((place + ahead) % 256))
  pub before : (less : ℕ) → less < ahead → bucket lists ((place + less) % 256) ≡ []

-- a device stands at this index of a list
abbrev pub Holds : List ℕ → ℕ → ℕ → Type 0
Holds list index device = (index < length list) × (slice_index list index ≡ device)
