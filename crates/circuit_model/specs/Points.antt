-- Where a tick lies among the points of a source.
use Rattle.std.specs.Prelude.{ℕ, ◌+◌, ◌-◌, ◌<◌, ◌≤◌, ◌==◌, ◌||◌, if◌then◌else◌, ℤ, pos, ◌-ℤ◌, List, length, slice_index_or}
use Rattle.circuit_model.specs.declared.source.Span.{Span}
use Rattle.circuit_model.specs.declared.source.Span.TheVariants.{Before, From, Past}

-- the tick of the point at this place
abbrev pub time_at : List (ℕ × ℤ) → ℕ → ℕ
time_at points i = (slice_index_or points i (0, pos 0)).0

-- before the first point; from a point on and before the next; or from the last point on
abbrev pub IsSpan : List (ℕ × ℤ) → ℕ → Span → Type 0
IsSpan points t Before = t < time_at points 0
IsSpan points t (From i) = (i + 1 < length points) × (time_at points i ≤ t) × (t < time_at points (i + 1))
IsSpan points t Past = time_at points (length points - 1) ≤ t

-- the voltage of the point at this place
abbrev pub level_at : List (ℕ × ℤ) → ℕ → ℤ
level_at points i = (slice_index_or points i (0, pos 0)).1

-- what the numerator of a source that has passed so many of its points gains in a tick, and its denominator
unfoldable pub stretch_at : List (ℕ × ℤ) → ℕ → ℤ × ℕ
stretch_at points passed =
    if (passed == 0) || (passed == length points) then (pos 0, 1)
    else (level_at points passed -ℤ level_at points (passed - 1), time_at points passed - time_at points (passed - 1))
