-- The points of a source: their ticks rise, and there is one.
use Rattle.std.specs.Prelude.{ℕ, ℤ, nat_lt, Bool, if◌then◌else◌, List, length, drop, ◌==◌, Option, Some, None}
use Rattle.std.specs.List.{list_all, zip}
use Rattle.semantics.specs.declared.wave.WaveRefusal.{WaveRefusal}
use Rattle.semantics.specs.declared.wave.WaveRefusal.TheVariants.{NoPoints, TimesNotRising}

-- the tick of each point is below that of the next
abbrev pub rising_times : List (ℕ × ℤ) → Bool
rising_times points = list_all (λ pair. nat_lt pair.0.0 pair.1.0) (zip points (drop 1 points))

-- why these points are no voltage of a source: there is none, or a tick is not above the one before it
unfoldable pub wave_refusal : List (ℕ × ℤ) → Option WaveRefusal
wave_refusal points = if length points == 0 then Some NoPoints else if rising_times points then None else Some TimesNotRising
