-- How the two parts of a queue answer, and how they make one map.
use Rattle.std.specs.Prelude.{◌≡◌, ℕ, ◌+◌, ◌<◌, ◌≤◌, ◌++◌, true, false, Option, Some, None, IsSome}
use Rattle.std.specs.FinMap as map
use Rattle.event_order.specs.Ticks.{Ticks, is_due}

-- all devices wait for one of 256 ticks from this one on
abbrev pub IsWithin : ℕ → Ticks → Type 0
IsWithin base ticks = (device tick : ℕ) → map.get ticks device ≡ Some tick → (base ≤ tick) × (tick < base + 256)

-- a device that waited for this tick is taken out; None where none did
abbrev pub Pops : Ticks → Ticks → ℕ → Option ℕ → Type 0
Pops old new tick None = ((device : ℕ) → is_due old tick device ≡ false) × (new ≡ old)
Pops old new tick (Some device) = (is_due old tick device ≡ true) × (new ≡ map.remove old device)

-- the devices of both maps; a device of both has its tick of the first
unfoldable pub joined : Ticks → Ticks → Ticks
joined near far = map.from_entries (map.entries near ++ map.entries far)

-- the first map has ticks of the 256 from this one on, and no device of the second
pub record IsSplit (base : ℕ) (near far : Ticks) : Type 0 where
  pub within : IsWithin base near
  pub apart : (device : ℕ) → IsSome (map.get near device) → map.get far device ≡ None
