-- What a shelf and a sink tell of their bytes. None tells nothing.
use Rattle.std.specs.Prelude.{◌≡◌, ◌≢◌, ℕ, ◌<◌, ◌≤◌, List, length, take, drop, Option, IfSome}
use Rattle.std.specs.Io.KnownBytes.{Appends}

-- the first n bytes of buf are the n told bytes from `at` on
abbrev pub GivesFrom : Option (List ℕ) → ℕ → ℕ → List ℕ → Type 0
GivesFrom told at n buf = IfSome told (λ xs. take n buf ≡ take n (drop at xs))

-- where buf has room, no byte comes only at the end of the told bytes
abbrev pub GivesNoneOnlyAtEnd : Option (List ℕ) → ℕ → ℕ → List ℕ → Type 0
GivesNoneOnlyAtEnd told at n buf = IfSome told (λ xs. n ≡ 0 → 0 < length buf → length xs ≤ at)

-- every name has the bytes that it had
abbrev pub SameBytes : (List ℕ → Option (List ℕ)) → (List ℕ → Option (List ℕ)) → Type 0
SameBytes old new = (name : List ℕ) → new name ≡ old name

-- every other name has the count that it had
abbrev pub SameElsewhere : List ℕ → (List ℕ → ℕ) → (List ℕ → ℕ) → Type 0
SameElsewhere name old new = (other : List ℕ) → other ≢ name → new other ≡ old other

-- a front of the text was appended, all of it or less
abbrev pub AppendsFront : Option (List ℕ) → Option (List ℕ) → List ℕ → Type 0
AppendsFront old new text = (n : ℕ) × Appends old new (take n text)
