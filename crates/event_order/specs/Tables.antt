-- Tables by device, and the map that a table of ticks is.
use Rattle.std.specs.Prelude.{◌≡◌, ℕ, ◌+◌, List, [], ◌∷◌, Option, Some, None, slice_index_or}
use Rattle.std.specs.BTreeSet.{BTreeSet, contains}
use Rattle.std.specs.FinMap as map
use Rattle.event_order.specs.Ticks.{Ticks, is_tick, by_tick}

-- the tick at a place of the table; None past its end
abbrev pub tick_at : List (Option ℕ) → ℕ → Option ℕ
tick_at table place = slice_index_or table place None

-- the devices with a tick, where the first of the table has this number
abbrev pub entries_from : ℕ → List (Option ℕ) → List (ℕ × ℕ)
entries_from device [] = []
entries_from device (None ∷ xs) = entries_from (device + 1) xs
entries_from device (Some tick ∷ xs) = (device, tick) ∷ entries_from (device + 1) xs

-- the map that a table by device is
unfoldable pub ticks_of : List (Option ℕ) → Ticks
ticks_of table = map.from_sorted (entries_from 0 table)

-- the ordered pairs are those of the table
abbrev pub HasAll : BTreeSet (ℕ × ℕ) → List (Option ℕ) → Type 0
HasAll order table = (p : ℕ × ℕ) → contains by_tick order p ≡ is_tick (tick_at table p.1) p.0

-- two tables have the same at each place
abbrev pub SameAt : {X : Type 0} → List (Option X) → List (Option X) → Type 0
SameAt old new = (place : ℕ) → slice_index_or new place None ≡ slice_index_or old place None
