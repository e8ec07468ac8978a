-- The devices that wait, each with its tick, as a map.
use Rattle.std.specs.Prelude.{◌≡◌, ℕ, ◌==◌, ◌≤◌, Bool, false, not, List, filter, Option, Some, None}
use Rattle.std.specs.declared.cmp.Ordering.{Ordering}
use Rattle.std.specs.Ordering.{nat_cmp, ordering_then}
use Rattle.std.specs.FinMap as map

-- each device that waits, with its tick
abbrev pub Ticks : Type 0
Ticks = map.FinMap nat_cmp ℕ

-- some device waits for this tick, and none for an earlier one
pub record IsFirst (ticks : Ticks) (tick : ℕ) : Type 0 where
  pub waits : (device : ℕ) × (map.get ticks device ≡ Some tick)
  pub least : (device other : ℕ) → map.get ticks device ≡ Some other → tick ≤ other

-- whether it is this tick, where there is one
abbrev pub is_tick : Option ℕ → ℕ → Bool
is_tick None tick = false
is_tick (Some other) tick = other == tick

-- whether a device waits for this tick
abbrev pub is_due : Ticks → ℕ → ℕ → Bool
is_due ticks tick device = is_tick (map.get ticks device) tick

-- the devices that wait for this tick, in rising order
abbrev pub due : Ticks → ℕ → List ℕ
due ticks tick = filter (is_due ticks tick) (map.keys ticks)

-- the map without the devices that wait for this tick
abbrev pub without : Ticks → ℕ → Ticks
without ticks tick = map.retain_keys ticks (λ device. not (is_due ticks tick device))

-- pairs of a tick and a device: by tick, and then by device
abbrev pub by_tick : ℕ × ℕ → ℕ × ℕ → Ordering
by_tick p q = ordering_then (nat_cmp p.0 q.0) (nat_cmp p.1 q.1)
