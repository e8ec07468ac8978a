-- The voltage between two lines as one line, and how long it stays in a cell.
use Rattle.std.specs.Prelude.{◌≡◌, ◌↔◌, ℕ, ◌*◌, ◌^◌, ◌<◌, ◌≤◌, ℤ, pos, ◌+ℤ◌, ◌*ℤ◌, ◌≤ℤ◌, unsigned_abs, List, Option, MatchOption}
use Rattle.semantics.specs.declared.fraction.Fraction.{Fraction}
use Rattle.semantics.specs.declared.line.Line.{Line}
use Rattle.semantics.specs.Grid.{cell}
use Rattle.crossing.specs.declared.gap.Gap.{Gap}

-- what a line's voltage gains from one tick to the next
abbrev pub slope : Line → Fraction
slope l = record { num = l.rate; den = l.den }

-- a gap after some ticks
abbrev pub after : Gap → ℕ → Fraction
after gap k = record { num = gap.num +ℤ (gap.rate *ℤ pos k); den = unsigned_abs gap.den }

-- its cell then
abbrev pub cell_after : List ℤ → Gap → ℕ → ℕ
cell_after grid gap k = cell grid (after gap k)

-- the voltage of a line in bounds, or its slope
pub record IsSmallFraction (v : Fraction) : Type 0 where
  pub num : unsigned_abs v.num ≤ 101 * 10 ^ 23
  pub den : v.den ≤ 10 ^ 12

-- the gap of two lines in bounds
pub record IsSmall (gap : Gap) : Type 0 where
  pub num : unsigned_abs gap.num ≤ 202 * 10 ^ 35
  pub rate : unsigned_abs gap.rate ≤ 2 * 10 ^ 30
  pub den_from : pos 1 ≤ℤ gap.den
  pub den_to : gap.den ≤ℤ pos (10 ^ 24)

-- such a gap, and the cell in which it begins
pub record BeginsIn (grid : List ℤ) (gap : Gap) (c : ℕ) : Type 0 where
  pub small : IsSmall gap
  pub cell_is : c ≡ cell_after grid gap 0

-- it is in the cell as long as its numerator has gone at most this far; None where it is there for ever
abbrev pub IsRoom : List ℤ → Gap → ℕ → Option ℕ → Type 0
IsRoom grid gap c answer =
    MatchOption answer ((k : ℕ) → cell_after grid gap k ≡ c)
    (λ room. (0 < unsigned_abs gap.rate) × ((k : ℕ) → (cell_after grid gap k ≡ c) ↔ (unsigned_abs gap.rate * k ≤ room)))

-- it is in the cell for exactly this many ticks; None where it is there for ever
abbrev pub IsStay : List ℤ → Gap → ℕ → Option ℕ → Type 0
IsStay grid gap c answer =
    MatchOption answer ((k : ℕ) → cell_after grid gap k ≡ c)
    (λ ticks. (k : ℕ) → (cell_after grid gap k ≡ c) ↔ (k ≤ ticks))
