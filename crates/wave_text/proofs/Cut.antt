-- What a test keeps of a list whose front passes it and whose rest does not.
use Rattle.std.proofs.Common.{◌≡◌, ℕ, zero, suc, ◌-◌, Bool, true, false, not, ◌&&◌, cond, leb, ltb, List, [], ◌∷◌, length, take, drop, refl, sym, ap, ◌∙◌, arith}
use Rattle.std.specs.List.{All, filter}
use Rattle.std.specs.List.Sorted.{IsPartitionPoint}
use Rattle.std.proofs.lemmas.Bool.Decides.{nat_tests}
use Rattle.std.proofs.lemmas.List.{length-drop, take_all}
use Rattle.std.proofs.lemmas.List.Elements.{All-head, All-tail}

all_pass : {X : Type 0} (p : X → Bool) (xs : List X) → All (λ x. p x ≡ true) xs → filter p xs ≡ xs
all_pass p [] all = refl
all_pass {X} p (x ∷ xs) all =
    let passes : X → Type 0 = λ y. p y ≡ true in
    let here : p x ≡ true = All-head passes x xs all in
    let rest : filter p xs ≡ xs = all_pass p xs (All-tail passes x xs all) in
    rw (here) (ap (λ ys. x ∷ ys) rest)

none_pass : {X : Type 0} (p : X → Bool) (xs : List X) → All (λ x. p x ≡ false) xs → filter p xs ≡ []
none_pass p [] all = refl
none_pass {X} p (x ∷ xs) all =
    let fails : X → Type 0 = λ y. p y ≡ false in
    let here : p x ≡ false = All-head fails x xs all in
    rw (here) (none_pass p xs (All-tail fails x xs all))

abbrev pub IsCut : {X : Type 0} → (X → Bool) → List X → ℕ → Type 0
IsCut p xs i = IsPartitionPoint (λ y. p y ≡ true) (λ y. p y ≡ false) xs i

tail_cut : {X : Type 0} (p : X → Bool) (x : X) (xs : List X) (i : ℕ) → IsCut p (x ∷ xs) (suc i) → IsCut p xs i
tail_cut p x xs i cut = (
  λ k d low below. cut.0 (suc k) d (omega arith) (omega (arith, below)),
  λ k d low below. cut.1 (suc k) d (omega (arith, low)) (omega (arith, below)),
)

-- the test keeps the front
pub front_kept : {X : Type 0} (p : X → Bool) (xs : List X) (i : ℕ) → IsCut p xs i → filter p xs ≡ take i xs
front_kept p [] zero cut = refl
front_kept p [] (suc i) cut = refl
front_kept p (x ∷ xs) zero cut = none_pass p (x ∷ xs) (λ k d below. cut.1 k d (omega arith) below)
front_kept p (x ∷ xs) (suc i) cut =
    let here : p x ≡ true = cut.0 0 x (omega arith) (omega arith) in
    let rest : filter p xs ≡ take i xs = front_kept p xs i (tail_cut p x xs i cut) in
    rw (here) (ap (λ ys. x ∷ ys) rest)

-- its opposite keeps the rest
pub rest_kept : {X : Type 0} (p q : X → Bool) (xs : List X) (i : ℕ) → ((x : X) → q x ≡ not (p x)) → IsCut p xs i → filter q xs ≡ drop i xs
rest_kept p q [] zero turned cut = refl
rest_kept p q [] (suc i) turned cut = refl
rest_kept p q (x ∷ xs) zero turned cut = all_pass q (x ∷ xs) (λ k d below. turned _ ∙ ap not (cut.1 k d (omega arith) below))
rest_kept p q (x ∷ xs) (suc i) turned cut =
    let here : q x ≡ false = turned x ∙ ap not (cut.0 0 x (omega arith) (omega arith)) in
    rw (here) (rest_kept p q xs i turned (tail_cut p x xs i cut))

-- of two tests in a row each keeps its part
pub both_kept : {X : Type 0} (p q : X → Bool) (xs : List X) → filter (λ x. p x && q x) xs ≡ filter q (filter p xs)
both_kept p q [] = refl
both_kept {X} p q (x ∷ xs) = by (p x) (both_kept p q xs)
  where
    by : (b : Bool) → filter (λ y. p y && q y) xs ≡ filter q (filter p xs)
        → cond (b && q x) (x ∷ filter (λ y. p y && q y) xs) (filter (λ y. p y && q y) xs) ≡ filter q (cond b (x ∷ filter p xs) (filter p xs))
    by true same = ap (λ ys. cond (q x) (x ∷ ys) ys) same
    by false same = same

-- later, and not at the tick or before
pub later_is : (t s : ℕ) → ltb t s ≡ not (leb s t)
later_is t s = grind (arith, nat_tests)

pub from_is : (t s : ℕ) → leb t s ≡ not (ltb s t)
from_is t s = grind (arith, nat_tests)

-- first cut where the range begins, and then behind its last
pub between_kept : {X : Type 0} (n : X → ℕ) (first last : ℕ) (xs rest : List X) (i j : ℕ) → IsCut (λ x. ltb (n x) first) xs i → rest ≡ drop i xs → IsCut (λ x. leb (n x) last) rest j
    → take j rest ≡ filter (λ x. leb first (n x) && leb (n x) last) xs
between_kept {X} n first last xs rest i j low is high =
    let by_last : X → Bool = λ x. leb (n x) last in
    let from : X → Bool = λ x. leb first (n x) in
    let later : filter from xs ≡ rest = rest_kept (λ x. ltb (n x) first) from xs i (λ x. from_is first (n x)) low ∙ sym is in
    sym (both_kept from by_last xs ∙ ap (filter by_last) later ∙ front_kept by_last rest j high)

-- what stands behind a place
pub rest_is : {X : Type 0} (i : ℕ) (xs : List X) → take (length xs - i) (drop i xs) ≡ drop i xs
rest_is i xs = take_all (length xs - i) (drop i xs) (omega (arith, length-drop i xs))
