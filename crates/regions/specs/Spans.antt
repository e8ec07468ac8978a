-- A set of ticks as spans one after another.
use Rattle.std.specs.Prelude.{◌≡◌, ℕ, ◌-◌, ◌<◌, ◌≤◌, min, max, nat_le, nat_lt, Bool, true, false, ◌&&◌, ◌||◌, if◌then◌else◌, List, [], ◌∷◌, length, slice_index_or, Option, Some, None}
use Rattle.std.specs.List.{All, list_any}
use Rattle.regions.specs.declared.span.Span.{Span}

-- a tick is from `from` on and before `until`
abbrev pub within : ℕ → ℕ → ℕ → Bool
within from until t = nat_le from t && nat_lt t until

-- a tick is in one of the spans
abbrev pub has : List Span → ℕ → Bool
has spans t = list_any (λ s. within s.from s.until t) spans

-- what stands where there is no span
abbrev pub no_span : Span
no_span = record { from = 0; until = 0 }

abbrev pub span_of : List Span → ℕ → Span
span_of spans k = slice_index_or spans k no_span

-- each has a tick, and between two there is a tick that neither has
pub record IsSpans (spans : List Span) : Type 0 where
  pub some : All (λ s. s.from < s.until) spans
  pub apart : (i j : ℕ) → i < j → j < length spans → (span_of spans i).until < (span_of spans j).from

-- the least tick of the set from a tick on, or that there is none
abbrev pub IsLeastFrom : List Span → ℕ → Option ℕ → Type 0
IsLeastFrom spans tick (Some least) =
    (tick ≤ least) × (has spans least ≡ true) × ((t : ℕ) → tick ≤ t → t < least → has spans t ≡ false)
IsLeastFrom spans tick None = (t : ℕ) → tick ≤ t → has spans t ≡ false

-- ---- what the bodies make

-- a span, where it has a tick
abbrev pub some_span : ℕ → ℕ → List Span
some_span from until = if nat_lt from until then record { from = from; until = until } ∷ [] else []

-- the tick is in the span at this place
abbrev pub IsAt : List Span → ℕ → ℕ → Type 0
IsAt spans k t = ((span_of spans k).from ≤ t) × (t < (span_of spans k).until)

-- from the least to the greatest tick of `from` to `until` and of the spans from the first place on, before the last
abbrev pub IsJoined : List Span → ℕ → ℕ → ℕ → ℕ → Span → Type 0
IsJoined spans first last from until s =
    (first < last →
    (s.from ≡ min from (span_of spans first).from)
    × (s.until ≡ max until (span_of spans (last - 1)).until))
    × (last ≤ first → (s.from ≡ from) × (s.until ≡ until))

-- each begins at the tick or before
abbrev pub BeginBy : ℕ → List Span → Type 0
BeginBy tick spans = All (λ s. s.from ≤ tick) spans

-- these spans have the ticks of the old ones and of one more, and none begins later than that one
pub record IsWith (span : Span) (old new : List Span) : Type 0 where
  pub spans : IsSpans new
  pub order : BeginBy span.from new
  pub ticks : (t : ℕ) → has new t ≡ (has old t || within span.from span.until t)

-- a span is at this place, and the one at this place of the other begins no earlier, where there is one
pub record IsNext (one : List Span) (place : ℕ) (other : List Span) (other_place : ℕ) : Type 0 where
  pub inside : place < length one
  pub first : other_place < length other → (span_of one place).from ≤ (span_of other other_place).from

-- these spans have the ticks of both sets
pub record IsBoth (one other both : List Span) : Type 0 where
  pub spans : IsSpans both
  pub ticks : (t : ℕ) → has both t ≡ (has one t || has other t)
