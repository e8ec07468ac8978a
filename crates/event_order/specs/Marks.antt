-- The marks of 256 places, as the bits of two numbers of 128 bits.
use Rattle.std.specs.Prelude.{◌≡◌, ℕ, ◌+◌, ◌/◌, ◌%◌, ◌==◌, ◌<◌, List, slice_index, if◌then◌else◌}
use Rattle.std.specs.Int.{bit_at}

-- 1 where a place is marked, and else 0
unfoldable pub mark_at : List ℕ → ℕ → ℕ
mark_at marks place = bit_at (slice_index marks (place / 128)) (place % 128)

-- a place now has this mark, and the others have theirs
abbrev pub MarksOnly : List ℕ → List ℕ → ℕ → ℕ → Type 0
MarksOnly old new place mark = (other : ℕ) → other < 256 →
    mark_at new other ≡ (if other == place then mark else mark_at old other)

-- the place so far on from this one is marked, and none before it
pub record IsNextMark (marks : List ℕ) (place ahead : ℕ) : Type 0 where
  pub below : ahead < 256
  pub marked : mark_at marks ((place + ahead) % 256) ≡ 1
  pub before : (less : ℕ) → less < ahead → mark_at marks ((place + less) % 256) ≡ 0
