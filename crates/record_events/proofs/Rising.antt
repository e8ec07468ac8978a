-- Lists in order that have the same elements are the same list.
use Rattle.std.proofs.Common.{◌≡◌, ℕ, zero, suc, ◌+◌, ◌<◌, ◌≤◌, Bool, true, false, List, [], ◌∷◌, ◌++◌, length, get_or, refl, sym, ap, ◌∙◌, arith, ⊎_elim}
use Rattle.std.specs.Prelude.{IsSorted}
use Rattle.std.specs.Cmp.{IsTotalOrder, nat_cmp_total, on_total, then_total}
use Rattle.std.specs.List.{All, sum_by}
use Rattle.std.specs.Ordering.{is_lt, nat_cmp, ordering_reverse, ordering_then}
use Rattle.std.specs.declared.cmp.Ordering.TheVariants.{Less, Equal}
use Rattle.std.proofs.lemmas.Bool.{cases_lt, false≢true, lt-ltb}
use Rattle.std.proofs.lemmas.Cmp.{tied_itself}
use Rattle.std.proofs.lemmas.List.Elements.{All-append, All-cons, All-head, All-tail}
use Rattle.std.proofs.lemmas.List.Sorted.{ranks_by, sorted_far}
use Rattle.std.proofs.lemmas.List.Sums.{sum_by-cons}
use Rattle.event_order.specs.Ticks.{by_tick}

-- ---- lists by any test of what stands before what

module _ {X : Type 0} (lt : X → X → Bool) where
  -- nothing is below what stands before it
  abbrev pub NoneBelow : X → List X → Type 0
  NoneBelow x ys = All (λ y. lt y x ≡ false) ys

  abbrev pub IsRising : List X → Type 0
  IsRising [] = zero ≡ zero
  IsRising (x ∷ xs) = NoneBelow x xs × IsRising xs

  pub rising_append : (xs ys : List X) → IsRising xs → IsRising ys → All (λ x. NoneBelow x ys) xs → IsRising (xs ++ ys)
  rising_append [] ys before after across = after
  rising_append (x ∷ xs) ys before after across = (
    All-append (λ y. lt y x ≡ false) xs ys before.0 (All-head (λ z. NoneBelow z ys) x xs across),
    rising_append xs ys before.1 after (All-tail (λ z. NoneBelow z ys) x xs across),
  )

  -- from a list in which no element is below an earlier one
  pub rising_from : (xs : List X) → ((i j : ℕ) (d : X) → i ≤ j → j < length xs → lt (get_or xs j d) (get_or xs i d) ≡ false) → IsRising xs
  rising_from [] far = refl
  rising_from (x ∷ xs) far = (
    (λ k d below. far 0 (suc k) d (omega arith) (omega (arith, below))),
    rising_from xs (λ i j d order below. far (suc i) (suc j) d (omega (arith, order)) (omega (arith, below))),
  )

  -- ---- equal lists

  abbrev one_if : Bool → ℕ
  one_if true = 1
  one_if false = 0

  -- how many are below an element
  abbrev below : X → List X → ℕ
  below x ys = sum_by (λ y. one_if (lt y x)) ys

  none_below : (x : X) (ys : List X) → NoneBelow x ys → below x ys ≡ 0
  none_below x [] none = refl
  none_below x (y ∷ ys) none =
      let here : one_if (lt y x) ≡ 0 = ap one_if (All-head (λ z. lt z x ≡ false) y ys none) in
      let rest : below x ys ≡ 0 = none_below x ys (All-tail (λ z. lt z x ≡ false) y ys none) in
      omega (arith, sum_by-cons (λ z. one_if (lt z x)) y ys, here, rest)

  module _ (irreflexive : (x : X) → lt x x ≡ false) (tied : (x y : X) → lt x y ≡ false → lt y x ≡ false → x ≡ y) where
    -- a list whose first is below x has one below x, and one that begins with x in order has none
    clash : (x y : X) (xs ys : List X) → lt x y ≡ true → NoneBelow y ys → ((f : X → ℕ) → sum_by f (x ∷ xs) ≡ sum_by f (y ∷ ys)) → ⊥
    clash x y xs ys less none same =
        let here : one_if (lt x y) ≡ 1 = ap one_if less in
        let nothing : below y (y ∷ ys) ≡ 0 = none_below y (y ∷ ys) (All-cons (λ z. lt z y ≡ false) y ys (irreflexive y) none) in
        omega (arith, sum_by-cons (λ z. one_if (lt z y)) x xs, here, nothing, same (λ z. one_if (lt z y)))

    first : (x y : X) (xs ys : List X) → NoneBelow x xs → NoneBelow y ys → ((f : X → ℕ) → sum_by f (x ∷ xs) ≡ sum_by f (y ∷ ys)) → x ≡ y
    first x y xs ys none_x none_y same = by (lt x y) (lt y x) refl refl
      where
        by : (a b : Bool) → lt x y ≡ a → lt y x ≡ b → x ≡ y
        by true b less more = absurd (clash x y xs ys less none_y same)
        by false true less more = absurd (clash y x ys xs more none_x (λ f. sym (same f)))
        by false false less more = tied x y less more

    -- two lists in order that have the same sums are the same
    pub same_rising : (xs ys : List X) → IsRising xs → IsRising ys → ((f : X → ℕ) → sum_by f xs ≡ sum_by f ys) → xs ≡ ys
    same_rising [] [] up_x up_y same = refl
    same_rising [] (y ∷ ys) up_x up_y same =
        let one : X → ℕ = λ z. 1 in
        let none : sum_by one [] ≡ 0 = refl in
        let some : sum_by one (y ∷ ys) ≡ 1 + sum_by one ys = sum_by-cons one y ys in
        absurd (omega (arith, none, some, same one))
    same_rising (x ∷ xs) [] up_x up_y same =
        let one : X → ℕ = λ z. 1 in
        let none : sum_by one [] ≡ 0 = refl in
        let some : sum_by one (x ∷ xs) ≡ 1 + sum_by one xs = sum_by-cons one x xs in
        absurd (omega (arith, none, some, same one))
    same_rising (x ∷ xs) (y ∷ ys) up_x up_y same =
        let one : x ≡ y = first x y xs ys up_x.0 up_y.0 same in
        let rest : (f : X → ℕ) → sum_by f xs ≡ sum_by f ys = λ f. let equal : f x ≡ f y = ap f one in omega (arith, same f, equal, sum_by-cons f x xs, sum_by-cons f y ys) in
        let more : xs ≡ ys = same_rising xs ys up_x.1 up_y.1 rest in
        λ i. one i ∷ more i

-- ---- pairs of a tick and a device

abbrev pub earlier : ℕ × ℕ → ℕ × ℕ → Bool
earlier p q = is_lt (by_tick p q)

by_tick_total : IsTotalOrder by_tick
by_tick_total = then_total (on_total (λ (p : ℕ × ℕ). p.0) nat_cmp_total) (on_total (λ (p : ℕ × ℕ). p.1) nat_cmp_total)

less_is : (x y : ℕ) → x < y → nat_cmp x y ≡ Less
less_is x y h = rw (lt-ltb x y h) refl

by_ticks : (p q : ℕ × ℕ) → p.0 < q.0 → by_tick p q ≡ Less
by_ticks p q h = ap (λ o. ordering_then o (nat_cmp p.1 q.1)) (less_is p.0 q.0 h)

by_devices : (p q : ℕ × ℕ) → p.0 ≡ q.0 → p.1 < q.1 → by_tick p q ≡ Less
by_devices p q same h =
    let tied : nat_cmp p.0 q.0 ≡ Equal = ap (λ t. nat_cmp p.0 t) (sym same) ∙ tied_itself nat_cmp_total p.0 in
    ap (λ o. ordering_then o (nat_cmp p.1 q.1)) tied ∙ less_is p.1 q.1 h

not_back : (p q : ℕ × ℕ) → by_tick p q ≡ Less → earlier q p ≡ false
not_back p q less = ap is_lt (by_tick_total.antisymm q p ∙ ap ordering_reverse less)

-- a pair of a later tick, or of a larger device at the tick, is not earlier
pub later_tick : (p q : ℕ × ℕ) → p.0 < q.0 → earlier q p ≡ false
later_tick p q h = not_back p q (by_ticks p q h)

pub later_device : (p q : ℕ × ℕ) → p.0 ≡ q.0 → p.1 < q.1 → earlier q p ≡ false
later_device p q same h = not_back p q (by_devices p q same h)

pub not_earlier : (p : ℕ × ℕ) → earlier p p ≡ false
not_earlier p = ap is_lt (tied_itself by_tick_total p)

is_less : (p q : ℕ × ℕ) → by_tick p q ≡ Less → earlier p q ≡ false → ⊥
is_less p q less none = false≢true (sym none ∙ ap is_lt less)

-- of two pairs one is earlier, or they are the same
pub same_pair : (p q : ℕ × ℕ) → earlier p q ≡ false → earlier q p ≡ false → p ≡ q
same_pair p q one two = ⊎_elim
    (λ (h : p.0 < q.0). absurd (is_less p q (by_ticks p q h) one))
    (λ (h : q.0 ≤ p.0). ⊎_elim
    (λ (k : q.0 < p.0). absurd (is_less q p (by_ticks q p k) two))
    (λ (k : p.0 ≤ q.0). let tick : p.0 ≡ q.0 = omega (arith, h, k) in ⊎_elim
    (λ (m : p.1 < q.1). absurd (is_less p q (by_devices p q tick m) one))
    (λ (m : q.1 ≤ p.1). ⊎_elim
    (λ (n : q.1 < p.1). absurd (is_less q p (by_devices q p (sym tick) n) two))
    (λ (n : p.1 ≤ q.1). let device : p.1 ≡ q.1 = omega (arith, m, n) in λ i. (tick i, device i))
    (cases_lt q.1 p.1))
    (cases_lt p.1 q.1))
    (cases_lt q.0 p.0))
    (cases_lt p.0 q.0)

-- a sorted list is in order
pub rising_sorted : (xs : List (ℕ × ℕ)) → IsSorted by_tick xs → IsRising earlier xs
rising_sorted xs sorted = rising_from earlier xs (sorted_far earlier (ranks_by by_tick_total (λ (p : ℕ × ℕ). p)) xs sorted)
