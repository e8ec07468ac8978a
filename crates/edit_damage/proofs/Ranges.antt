-- Tests and filters over the numbers from 0 on.
use Rattle.std.proofs.Common.{◌≡◌, ◌∙◌, ℕ, zero, suc, ◌+◌, ◌<◌, ◌≤◌, Bool, true, false, ◌&&◌, ◌||◌, nat_eq, if◌then◌else◌, cond, List, [], ◌∷◌, ◌++◌, length, get_or, refl, sym, ap, ⊎_elim, Contains, arith, add-one}
use Rattle.std.specs.List.{All, list_any, range_with_len, filter}
use Rattle.std.specs.List.Sorted.{IsStrictlyIncreasing}
use Rattle.std.proofs.lemmas.Bool.{false≢true, and_parts, and_from, cases_eq, or_cases, eqb-true, eq-eqb}
use Rattle.std.proofs.lemmas.List.Elements.{filter-append}
use Rattle.std.proofs.lemmas.List.Folds.{list_any-append, list_any_at}
use Rattle.std.proofs.lemmas.List.FromFn.{fill_by_all, get_or-range_with_len, length-range_with_len}
use Rattle.std.proofs.lemmas.List.Kept.{IsStrictlyIncreasing-filter}
use Rattle.semantics.proofs.Free.{same_test}
use Rattle.deck_cards.proofs.Once.{any_map}
use Rattle.circuit_model.proofs.NearLists.{range_more}

or_false : (b : Bool) → (b || false) ≡ b
or_false true = refl
or_false false = refl

-- ---- one more number

pub any_more : (f : ℕ → Bool) (n : ℕ) → list_any f (range_with_len 0 (n + 1)) ≡ (list_any f (range_with_len 0 n) || f n)
any_more f n =
    let last : 0 + n ≡ n = omega arith in
    ap (λ k. list_any f (range_with_len 0 k)) (add-one n)
    ∙ ap (list_any f) (range_more 0 n ∙ ap (λ k. range_with_len 0 n ++ k ∷ []) last)
    ∙ list_any-append f (range_with_len 0 n) (n ∷ [])
    ∙ ap (λ b. list_any f (range_with_len 0 n) || b) (or_false (f n))

pub filter_next : (f : ℕ → Bool) (n : ℕ) → filter f (range_with_len 0 (n + 1)) ≡ filter f (range_with_len 0 n) ++ (if f n then n ∷ [] else [])
filter_next f n =
    let last : 0 + n ≡ n = omega arith in
    ap (λ k. filter f (range_with_len 0 k)) (add-one n)
    ∙ ap (filter f) (range_more 0 n ∙ ap (λ k. range_with_len 0 n ++ k ∷ []) last)
    ∙ filter-append f (range_with_len 0 n) (n ∷ [])

-- ---- some number

some_from : (f : ℕ → Bool) (a n : ℕ) → list_any f (range_with_len a n) ≡ true → (k : ℕ) × (k < a + n) × (f k ≡ true)
some_from f a zero h = absurd (false≢true h)
some_from f a (suc n) h = ⊎_elim
    (λ (here : f a ≡ true). (a, omega arith, here))
    (λ (later : list_any f (range_with_len (a + 1) n) ≡ true). let at = some_from f (a + 1) n later in (at.0, omega (arith, at.1), at.2))
    (or_cases (f a) (list_any f (range_with_len (a + 1) n)) h)

pub some_below : (f : ℕ → Bool) (n : ℕ) → list_any f (range_with_len 0 n) ≡ true → (k : ℕ) × (k < n) × (f k ≡ true)
some_below f n h = let at = some_from f 0 n h in (at.0, omega (arith, at.1), at.2)

pub any_below : (f : ℕ → Bool) (n k : ℕ) → k < n → f k ≡ true → list_any f (range_with_len 0 n) ≡ true
any_below f n k below h =
    let at : get_or (range_with_len 0 n) k 0 ≡ k = get_or-range_with_len 0 n k 0 below ∙ omega arith in
    list_any_at f (range_with_len 0 n) k 0 (omega (arith, length-range_with_len 0 n)) (ap f at ∙ h)

pub any_same : (f g : ℕ → Bool) (n : ℕ) → ((k : ℕ) → k < n → f k ≡ g k) → list_any f (range_with_len 0 n) ≡ list_any g (range_with_len 0 n)
any_same f g n same = same_test _ _
    (λ h. let at = some_below f n h in any_below g n at.0 at.1 (sym (same at.0 at.1) ∙ at.2))
    (λ h. let at = some_below g n h in any_below f n at.0 at.1 (same at.0 at.1 ∙ at.2))

-- a number that is this one
pub any_itself : (f : ℕ → Bool) (n i : ℕ) → i < n → list_any (λ k. f k && nat_eq i k) (range_with_len 0 n) ≡ f i
any_itself f n i below = same_test _ _
    (λ h. let at = some_below (λ k. f k && nat_eq i k) n h in
    let both = and_parts (f at.0) (nat_eq i at.0) at.2 in
    ap f (eqb-true i at.0 both.1) ∙ both.0)
    (λ h. any_below (λ k. f k && nat_eq i k) n i below (and_from (f i) (nat_eq i i) h (eq-eqb i i refl)))

-- ---- elements by their places

pub any_by_place : {X : Type 0} (f : X → Bool) (xs : List X) (d : X) → list_any (λ k. f (get_or xs k d)) (range_with_len 0 (length xs)) ≡ list_any f xs
any_by_place f xs d =
    sym (any_map f (λ k. get_or xs k d) (range_with_len 0 (length xs)))
    ∙ ap (list_any f) (sym (fill_by_all (λ k. get_or xs k d) xs (length xs) d refl (λ k below. refl)))

pub any_kept : {X : Type 0} (p q : X → Bool) (xs : List X) → list_any q (filter p xs) ≡ list_any (λ x. p x && q x) xs
any_kept p q [] = refl
any_kept p q (x ∷ xs) = by (p x) (any_kept p q xs)
  where
    by : (b : Bool) → list_any q (filter p xs) ≡ list_any (λ y. p y && q y) xs → list_any q (cond b (x ∷ filter p xs) (filter p xs)) ≡ ((b && q x) || list_any (λ y. p y && q y) xs)
    by true rest = ap (λ r. q x || r) rest
    by false rest = rest

-- ---- what passes of the first numbers

rising : (a n : ℕ) → IsStrictlyIncreasing (range_with_len a n)
rising a n = λ k inside.
    let count = length-range_with_len a n in
    let here = get_or-range_with_len a n k 0 (omega (arith, count)) in
    let next = get_or-range_with_len a n (k + 1) 0 (omega (arith, count)) in
    omega (arith, here, next)

pub kept_rising : (f : ℕ → Bool) (n : ℕ) → IsStrictlyIncreasing (filter f (range_with_len 0 n))
kept_rising f n = IsStrictlyIncreasing-filter f (range_with_len 0 n) (rising 0 n)

kept_from : (f : ℕ → Bool) (a n : ℕ) → All (λ i. (i < a + n) × (f i ≡ true)) (filter f (range_with_len a n))
kept_from f a zero = λ k e below. absurd (omega (arith, below))
kept_from f a (suc n) = by (f a) refl (λ k e below. let at = kept_from f (a + 1) n k e below in (omega (arith, at.0), at.1))
  where
    rest : List ℕ
    rest = filter f (range_with_len (a + 1) n)

    at : f a ≡ true → All (λ i. (i < a + suc n) × (f i ≡ true)) rest → All (λ i. (i < a + suc n) × (f i ≡ true)) (a ∷ rest)
    at is all zero e below = (omega arith, is)
    at is all (suc k) e below = all k e (omega (arith, below))

    by : (b : Bool) → f a ≡ b → All (λ i. (i < a + suc n) × (f i ≡ true)) rest → All (λ i. (i < a + suc n) × (f i ≡ true)) (cond b (a ∷ rest) rest)
    by true is all = at is all
    by false is all = all

pub kept_all : (f : ℕ → Bool) (n : ℕ) → All (λ i. (i < n) × (f i ≡ true)) (filter f (range_with_len 0 n))
kept_all f n = λ k e below. let at = kept_from f 0 n k e below in (omega (arith, at.0), at.1)

more : (a x : ℕ) (xs : List ℕ) → Contains xs x → Contains (a ∷ xs) x
more a x xs at = (suc at.0, omega (arith, at.1), at.2)

has_from : (f : ℕ → Bool) (a n i : ℕ) → a ≤ i → i < a + n → f i ≡ true → Contains (filter f (range_with_len a n)) i
has_from f a zero i low high is = absurd (omega arith)
has_from f a (suc n) i low high is = by (f a) refl (λ l h. has_from f (a + 1) n i l h is)
  where
    rest : List ℕ
    rest = filter f (range_with_len (a + 1) n)

    later : (a ≡ i → ⊥) → (a + 1 ≤ i → i < a + 1 + n → Contains rest i) → Contains rest i
    later apart found = found (omega (arith, low, apart)) (omega (arith, high))

    by : (b : Bool) → f a ≡ b → (a + 1 ≤ i → i < a + 1 + n → Contains rest i) → Contains (cond b (a ∷ rest) rest) i
    by true e found = ⊎_elim (λ (same : a ≡ i). (0, omega arith, same)) (λ (apart : a ≡ i → ⊥). more a i rest (later apart found)) (cases_eq a i)
    by false e found = later (λ same. false≢true (sym e ∙ ap f same ∙ is)) found

pub kept_has : (f : ℕ → Bool) (n i : ℕ) → i < n → f i ≡ true → Contains (filter f (range_with_len 0 n)) i
kept_has f n i below is = has_from f 0 n i (omega arith) (omega arith) is
