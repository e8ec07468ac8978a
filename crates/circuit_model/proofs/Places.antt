-- Lists by the places of their items.
use Rattle.std.proofs.Common.{◌≡◌, ℕ, zero, suc, ◌<◌, Bool, true, List, [], ◌∷◌, length, get_or, map, Some, sym, subst, ◌∙◌, arith}
use Rattle.std.specs.Prelude.{slice_get}
use Rattle.std.specs.List.{All, list_all}
use Rattle.std.proofs.lemmas.Bool.{and_parts}
use Rattle.std.proofs.lemmas.List.{get_or-map, length-map, ext_get_or}
use Rattle.std.proofs.lemmas.Option.{get_or_from_slice_get, slice_get_within}

-- a list that has the value of each item at its place
pub map_from_places : {X Y : Type 0} (f : X → Y) (xs : List X) (ys : List Y) (d : X) (e : Y) → length ys ≡ length xs → ((i : ℕ) → i < length xs → get_or ys i e ≡ f (get_or xs i d)) → ys ≡ map f xs
map_from_places f xs ys d e size each =
    ext_get_or e ys (map f xs) (size ∙ sym (length-map xs f)) (λ i below. let inside : i < length xs = omega (arith, size) in each i inside ∙ sym (get_or-map f xs i d e inside))

-- a test that all items pass, each passes
pub all_from : {X : Type 0} (p : X → Bool) (xs : List X) → list_all p xs ≡ true → All (λ x. p x ≡ true) xs
all_from p [] all = λ k d below. absurd (omega (arith, below))
all_from {X} p (x ∷ xs) all = at (and_parts (p x) (list_all p xs) all).0 (all_from p xs (and_parts (p x) (list_all p xs) all).1)
  where
    at : p x ≡ true → All (λ y. p y ≡ true) xs → (k : ℕ) (d : X) → k < length (x ∷ xs) → p (get_or (x ∷ xs) k d) ≡ true
    at here rest zero d below = here
    at here rest (suc k) d below = rest k d (omega arith)

pub passes_at : {X : Type 0} (p : X → Bool) (xs : List X) (k : ℕ) (x : X) → list_all p xs ≡ true → slice_get xs k ≡ Some x → p x ≡ true
passes_at p xs k x all at = subst (λ y. p y ≡ true) (get_or_from_slice_get xs k x x at) (all_from p xs all k x (slice_get_within xs k x at))
