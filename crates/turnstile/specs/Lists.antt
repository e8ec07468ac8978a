-- Lists of turns: who made which, and what the beginning of a list leaves out.
use Rattle.std.specs.Prelude.{if◌then◌else◌, ◌≡◌, ◌⊎◌, ℕ, ◌<◌, ◌==◌, nat_lt, List, [], ◌∷◌, ◌++◌, length}

-- k stands in the list
abbrev pub Has : List ℕ → ℕ → Type 0
Has [] k = ⊥
Has (x ∷ xs) k = (x ≡ k) ⊎ Has xs k

module _ {E : Type 0} (maker : E → ℕ) where
  -- no entry has one of the numbers
  abbrev pub NoneBy : List ℕ → List E → Type 0
  NoneBy ks [] = Unit {0}
  NoneBy ks (e ∷ es) = (Has ks (maker e) → ⊥) × NoneBy ks es

  -- the list begins with what was seen, and goes on without the numbers
  abbrev pub Begins : List E → List E → List ℕ → Type 0
  Begins list seen ks = (rest : List E) × (list ≡ seen ++ rest) × NoneBy ks rest

  abbrev pub AllBelow : ℕ → List E → Type 0
  AllBelow n [] = Unit {0}
  AllBelow n (e ∷ es) = (maker e < n) × AllBelow n es

  -- the entries of a number, in order
  abbrev pub entries_of : ℕ → List E → List E
  entries_of k [] = []
  entries_of k (e ∷ es) = if maker e == k then e ∷ entries_of k es else entries_of k es

  -- the turns as they were found, or one more, which carries the number
  abbrev pub OneMore : ℕ → List E → List E → Type 0
  OneMore n found turns = (turns ≡ found) ⊎ ((e : E) × (turns ≡ found ++ e ∷ []) × (maker e ≡ n))

abbrev pub longer : {E : Type 0} → List E → List E → List E
longer xs ys = if nat_lt (length xs) (length ys) then ys else xs
