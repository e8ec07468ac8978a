-- Cells: between two neighbouring thresholds of a grid a device's current does not change.
use Rattle.std.specs.Prelude.{ℕ, ◌+◌, ◌*◌, ◌/◌, ℤ, pos, ◌-ℤ◌, ◌*ℤ◌, int_le, List, count_by, map}
use Rattle.std.specs.List.{range_with_len}
use Rattle.semantics.specs.declared.fraction.Fraction.{Fraction}

-- a - b
abbrev pub difference : Fraction → Fraction → Fraction
difference a b = record { num = (a.num *ℤ pos b.den) -ℤ (b.num *ℤ pos a.den); den = a.den * b.den }

-- the cell of a voltage: how many thresholds are at most it
unfoldable pub cell : List ℤ → Fraction → ℕ
cell thresholds v = count_by (λ θ. int_le (θ *ℤ pos v.den) v.num) thresholds

-- the threshold (2k - 1) · grain / 2, where k is i + 1 - half
abbrev pub threshold : ℕ → ℕ → ℕ → ℤ
threshold grain half i = (pos (2 * i + 1) -ℤ pos (2 * half)) *ℤ pos (grain / 2)

-- the thresholds for k from 1 - half to half: each multiple of the grain lies in the middle of a cell
unfoldable pub uniform : ℕ → ℕ → List ℤ
uniform grain half = map (threshold grain half) (range_with_len 0 (2 * half))
