-- The devices of a tick in rising order, and the map without them.
use Rattle.std.proofs.Common.{◌≡◌, ℕ, suc, ◌≤◌, take, drop, Bool, true, false, cond, not, ◌&&◌, ◌||◌, T, List, [], ◌∷◌, ◌++◌, length, ◌+◌, ◌-◌, map as list_map, Option, Some, None, refl, sym, ap, subst, ◌∙◌, arith, ⊎_elim, Less, Equal, Greater}
use Rattle.std.proofs.Math.Dec.{eqb}
use Rattle.std.proofs.lemmas.Bool.{false≢true, eqb-true, eq-eqb, ne_eqb, cases_eq, and_parts}
use Rattle.std.proofs.lemmas.List.{length-map, length-take, drop-append-le, append_assoc, append-nil, take-append-drop}
use Rattle.std.proofs.lemmas.List.Sums.{length-filter, count_by-le-length}
use Rattle.std.proofs.lemmas.List.Sorted.{length_permutation, IsPermutation-trans, IsPermutation-append_right, IsPermutation-sym, IsPermutation-filter_both, IsNonDecreasingBy-from_sort, list_any-IsPermutation}
use Rattle.std.proofs.lemmas.Map.Keys.{IsDistinct-IsPermutation, IsDistinct-from_sorted, IsStrictlyIncreasing-from_distinct, sorted_from_strictly_increasing}
use Rattle.std.proofs.lemmas.List.Kept.{IsStrictlySortedBy-filter}
use Rattle.std.proofs.lemmas.Map.Views.{any-filter_same}
use Rattle.std.proofs.lemmas.Map.Lookups.{btree_set_from_contains, exact_unsigned}
use Rattle.std.specs.Ordering.{nat_cmp, is_lt, eq_by_cmp}
use Rattle.std.specs.Cmp.{eq_by_cmp_equiv, nat_cmp_total, unsigned_tied}
use Rattle.std.specs.List.{list_any, filter, AllByRecursion, IsDistinct}
use Rattle.std.specs.List.Sorted.{IsStrictlySortedBy, IsPermutation, IsSorted}
use Rattle.std.specs.Option.{is_some}
use Rattle.std.specs.FinMap as map
use Rattle.std.specs.FinMap.{gets, is_sorted, entries_sorted, contains_key-keys, get-remove, get-retain_keys, same_map, nat_cmp-IsAntisymmetric}
use Rattle.std.specs.FinMap.Entries.{below_all}
use Rattle.event_order.specs.Ticks.{Ticks, is_tick, is_due, due, without}

abbrev pub has : List ℕ → ℕ → Bool
has xs q = list_any (eq_by_cmp nat_cmp q) xs

is_lt-less : (a b : ℕ) → is_lt (nat_cmp a b) ≡ true → nat_cmp a b ≡ Less
is_lt-less a b h = elim (nat_cmp a b) as (λ o. is_lt o ≡ true → o ≡ Less) [ Less ↦ λ _. refl | Equal ↦ λ e. absurd (false≢true e) | Greater ↦ λ e. absurd (false≢true e) ] h

all_above : (x : ℕ) (es : List (ℕ × ℕ)) → below_all nat_cmp x es ≡ true → AllByRecursion (λ y. nat_cmp x y ≡ Less) (list_map (λ e. e.0) es)
all_above x [] h = tt
all_above x (e ∷ es) h = let both = and_parts (is_lt (nat_cmp x e.0)) (below_all nat_cmp x es) h in (is_lt-less x e.0 both.0, all_above x es both.1)

rising_keys : (es : List (ℕ × ℕ)) → is_sorted nat_cmp es ≡ true → IsStrictlySortedBy nat_cmp (list_map (λ e. e.0) es)
unfolding IsStrictlySortedBy
rising_keys [] h = tt
rising_keys (e ∷ es) h = let both = and_parts (below_all nat_cmp e.0 es) (is_sorted nat_cmp es) h in (all_above e.0 es both.0, rising_keys es both.1)

true_from : (b : Bool) → T b → b ≡ true
true_from true h = refl
true_from false h = absurd h

-- the devices of a map stand in rising order
pub keys_sorted : (m : Ticks) → IsStrictlySortedBy nat_cmp (map.keys m)
keys_sorted m = rising_keys (map.entries m) (true_from _ (entries_sorted m))

pub due_sorted : (m : Ticks) (tick : ℕ) → IsStrictlySortedBy nat_cmp (due m tick)
due_sorted m tick = IsStrictlySortedBy-filter nat_cmp (is_due m tick) (map.keys m) (keys_sorted m)

tied : (a b : ℕ) → eq_by_cmp nat_cmp a b ≡ true → a ≡ b
tied a b h = eqb-true a b (sym (unsigned_tied a b) ∙ h)

some_due : (o : Option ℕ) (tick : ℕ) → (is_tick o tick && is_some o) ≡ is_tick o tick
some_due None tick = refl
some_due (Some t) tick = elim (eqb t tick) as (λ b. (b && true) ≡ b) [ true ↦ refl | false ↦ refl ]

-- which devices are due
pub due_has : (m : Ticks) (tick q : ℕ) → has (due m tick) q ≡ is_due m tick q
due_has m tick q =
    any-filter_same (eq_by_cmp nat_cmp q) (is_due m tick) (is_due m tick q) (λ k h. ap (is_due m tick) (sym (tied q k h))) (map.keys m)
    ∙ ap (λ b. is_due m tick q && b) (sym (contains_key-keys m q))
    ∙ some_due (map.get m q) tick

-- a list in rising order of just the devices that are due
pub rising_due : (m : Ticks) (tick : ℕ) (xs : List ℕ) → IsStrictlySortedBy nat_cmp xs → ((q : ℕ) → has xs q ≡ is_due m tick q) → xs ≡ due m tick
rising_due m tick xs rising same =
    btree_set_from_contains nat_cmp_total (record { keys = xs }) (record { keys = due m tick }) rising (due_sorted m tick) (λ q. same q ∙ sym (due_has m tick q)) exact_unsigned

-- the map without the devices of a tick
pub get-without : (m : Ticks) (tick q : ℕ) → map.get (without m tick) q ≡ cond (not (is_due m tick q)) (map.get m q) None
get-without m tick q = get-retain_keys m (λ d. not (is_due m tick d)) q (λ x t. ap (λ d. not (is_due m tick d)) (sym (nat_cmp-IsAntisymmetric q x t)))

rising_nil : IsStrictlySortedBy nat_cmp []
unfolding IsStrictlySortedBy
rising_nil = tt

rising_cons : (x : ℕ) (xs : List ℕ) → AllByRecursion (λ y. nat_cmp x y ≡ Less) xs → IsStrictlySortedBy nat_cmp xs → IsStrictlySortedBy nat_cmp (x ∷ xs)
unfolding IsStrictlySortedBy
rising_cons x xs above rising = (above, rising)

pub due_none : (m : Ticks) (tick : ℕ) → ((q : ℕ) → is_due m tick q ≡ false) → due m tick ≡ []
due_none m tick none = sym (rising_due m tick [] rising_nil (λ q. sym (none q)))

pub without_none : (m : Ticks) (tick : ℕ) → ((q : ℕ) → is_due m tick q ≡ false) → without m tick ≡ m
without_none m tick none = same_map nat_cmp_total nat_cmp-IsAntisymmetric _ _ (λ q. get-without m tick q ∙ ap (λ b. cond (not b) (map.get m q) None) (none q))

-- a device is no more due once it is taken out
due_less : (m : Ticks) (tick device q : ℕ) → is_due (map.remove m device) tick q ≡ cond (eqb q device) false (is_due m tick q)
due_less m tick device q = rw (get-remove nat_cmp_total m device q, unsigned_tied q device)
    (elim (eqb q device) as (λ b. is_tick (cond b None (map.get m q)) tick ≡ cond b false (is_tick (map.get m q) tick)) [ true ↦ refl | false ↦ refl ])

rest_at : (m : Ticks) (tick device q : ℕ) → is_due m tick device ≡ true →
    cond (not (cond (eqb q device) false (is_due m tick q))) (cond (eqb q device) None (map.get m q)) None ≡ cond (not (is_due m tick q)) (map.get m q) None
rest_at m tick device q waits = ⊎_elim
    (λ e. rw (eq-eqb q device e, e, waits) refl)
    (λ ne. rw (ne_eqb q device ne) refl)
    (cases_eq q device)

pub without_less : (m : Ticks) (tick device : ℕ) → is_due m tick device ≡ true → without (map.remove m device) tick ≡ without m tick
without_less m tick device waits = same_map nat_cmp_total nat_cmp-IsAntisymmetric _ _ (λ q.
    get-without (map.remove m device) tick q
    ∙ (λ i. cond (not (due_less m tick device q i)) ((get-remove nat_cmp_total m device q ∙ ap (λ b. cond b None (map.get m q)) (unsigned_tied q device)) i) None)
    ∙ rest_at m tick device q waits ∙ sym (get-without m tick q))

-- no more devices wait for a tick than wait at all
pub due_at_most : (m : Ticks) (tick : ℕ) → length (due m tick) ≤ map.len m
due_at_most m tick = rw (map.len-entries m) (omega (arith, length-filter (is_due m tick) (map.keys m), count_by-le-length (is_due m tick) (map.keys m), length-map (map.entries m) (λ (e : ℕ × ℕ). e.0)))

at_most : (b : Bool) (n k : ℕ) → n ≤ k → cond b n (n + 1) ≤ k + 1
at_most true n k h = omega arith
at_most false n k h = omega arith

-- one more device waits at most
pub put_at_most : (m new : Ticks) (device tick k : ℕ) → new ≡ map.insert m device tick → map.len m ≤ k → map.len new ≤ k + 1
put_at_most m new device tick k is h = rw (is, map.len-insert nat_cmp_total m device tick) (at_most (map.contains_key m device) (map.len m) k h)

no_more : (b : Bool) (n k : ℕ) → n ≤ k → cond b (n - 1) n ≤ k
no_more true n k h = omega arith
no_more false n k h = omega arith

-- no more devices wait
pub remove_at_most : (m new : Ticks) (device k : ℕ) → new ≡ map.remove m device → map.len m ≤ k → map.len new ≤ k
remove_at_most m new device k is h = rw (is, map.len-remove nat_cmp_total m device) (no_more (map.contains_key m device) (map.len m) k h)

-- the map at a device after calls of a queue
pub ruleset steps = (gets)

-- two lists in rising order with the same members are one
pub same_rising : (xs ys : List ℕ) → IsStrictlySortedBy nat_cmp xs → IsStrictlySortedBy nat_cmp ys → ((q : ℕ) → has xs q ≡ has ys q) → xs ≡ ys
same_rising xs ys rising others same = btree_set_from_contains nat_cmp_total (record { keys = xs }) (record { keys = ys }) rising others same exact_unsigned

test_at : (d q k : ℕ) → eq_by_cmp nat_cmp q k ≡ true → eqb k d ≡ eqb q d
test_at d q k h = ap (λ x. eqb x d) (sym (tied q k h))

only_due : (b c : Bool) → (b ≡ true → c ≡ true) → (b && c) ≡ b
only_due true c h = h refl
only_due false c h = refl

no_other : (b c : Bool) → (not b && c) ≡ cond b false c
no_other true c = refl
no_other false c = refl

one_has : (d q : ℕ) → has (d ∷ []) q ≡ eqb q d
one_has d q = elim (eqb q d) as (λ b. eq_by_cmp nat_cmp q d ≡ b → (eq_by_cmp nat_cmp q d || false) ≡ b) [
  | true ↦ λ e. ap (λ b. b || false) e
  | false ↦ λ e. ap (λ b. b || false) e
] (unsigned_tied q d)

-- a device that is due, and the others that are
due_one : (m : Ticks) (tick d : ℕ) → is_due m tick d ≡ true → filter (λ x. eqb x d) (due m tick) ≡ d ∷ []
due_one m tick d waits = same_rising _ _ (IsStrictlySortedBy-filter nat_cmp (λ x. eqb x d) (due m tick) (due_sorted m tick)) (rising_cons d [] tt rising_nil) (λ q.
    any-filter_same (eq_by_cmp nat_cmp q) (λ x. eqb x d) (eqb q d) (test_at d q) (due m tick)
    ∙ ap (λ b. eqb q d && b) (due_has m tick q)
    ∙ only_due (eqb q d) (is_due m tick q) (λ e. ap (is_due m tick) (eqb-true q d e) ∙ waits) ∙ sym (one_has d q))

due_others : (m : Ticks) (tick d : ℕ) → filter (λ x. not (eqb x d)) (due m tick) ≡ due (map.remove m d) tick
due_others m tick d = rising_due (map.remove m d) tick _ (IsStrictlySortedBy-filter nat_cmp (λ x. not (eqb x d)) (due m tick) (due_sorted m tick)) (λ q.
    any-filter_same (eq_by_cmp nat_cmp q) (λ x. not (eqb x d)) (not (eqb q d)) (λ k h. ap not (test_at d q k h)) (due m tick)
    ∙ ap (λ b. not (eqb q d) && b) (due_has m tick q) ∙ no_other (eqb q d) (is_due m tick q) ∙ sym (due_less m tick d q))

pub due_taken : (m : Ticks) (tick d : ℕ) → is_due m tick d ≡ true → IsPermutation (due m tick) (d ∷ due (map.remove m d) tick)
due_taken m tick d waits =
    subst (IsPermutation (due m tick)) (λ i. due_one m tick d waits i ++ due_others m tick d i)
    (IsPermutation-filter_both (λ x. eqb x d) (λ x. not (eqb x d)) (λ x. refl) (due m tick))

eq_same : (λ (x y : ℕ). eq_by_cmp nat_cmp x y) ≡ eqb
eq_same = λ i x y. unsigned_tied x y i

-- what is sorted and has just the devices that are due is the list of them
pub sorted_due : (m : Ticks) (tick : ℕ) (xs : List ℕ) → IsPermutation (due m tick) xs → IsSorted nat_cmp xs → xs ≡ due m tick
sorted_due m tick xs moved sorted =
    let distinct : IsDistinct (λ x y. eq_by_cmp nat_cmp x y) xs = IsDistinct-IsPermutation _ (λ x y. (eq_by_cmp_equiv nat_cmp_total).symm x y) (due m tick) xs moved (IsDistinct-from_sorted nat_cmp (due m tick) (due_sorted m tick)) in
    rising_due m tick xs
    (sorted_from_strictly_increasing xs (IsStrictlyIncreasing-from_distinct xs (IsNonDecreasingBy-from_sort (λ x. x) xs sorted) (subst (λ e. IsDistinct e xs) eq_same distinct)))
    (λ q. sym (list_any-IsPermutation (eq_by_cmp nat_cmp q) (due m tick) xs moved) ∙ due_has m tick q)

-- ---- the loop that takes them
pub fewer_due : (m : Ticks) (tick d : ℕ) → is_due m tick d ≡ true → length (due (map.remove m d) tick) + 1 ≡ length (due m tick)
fewer_due m tick d waits = let same : suc (length (due (map.remove m d) tick)) ≡ length (due m tick) = length_permutation (due m tick) (d ∷ due (map.remove m d) tick) (due_taken m tick d waits) in omega arith

pub one_more_taken : (m n : Ticks) (tick d start : ℕ) (out items all : List ℕ) → is_due m tick d ≡ true → n ≡ map.remove m d → items ≡ out ++ d ∷ [] → start ≤ length out →
    IsPermutation (drop start out ++ due m tick) all → IsPermutation (drop start items ++ due n tick) all
one_more_taken m n tick d start out items all waits gone more within so_far =
    let shape : drop start items ++ due n tick ≡ drop start out ++ (d ∷ due (map.remove m d) tick) =
    (λ i. drop start (more i) ++ due (gone i) tick) ∙ ap (λ xs. xs ++ due (map.remove m d) tick) (drop-append-le start out (d ∷ []) within) ∙ append_assoc (drop start out) (d ∷ []) (due (map.remove m d) tick) in
    subst (λ xs. IsPermutation xs all) (sym shape)
    (IsPermutation-trans (drop start out ++ (d ∷ due (map.remove m d) tick)) (drop start out ++ due m tick) all
    (IsPermutation-append_right (drop start out) (d ∷ due (map.remove m d) tick) (due m tick) (IsPermutation-sym (due m tick) (d ∷ due (map.remove m d) tick) (due_taken m tick d waits))) so_far)

pub all_taken : (m : Ticks) (cur : Ticks) (tick start : ℕ) (before out items : List ℕ) → ((d : ℕ) → is_due cur tick d ≡ false) →
    take start out ≡ before → IsPermutation (drop start out ++ due cur tick) (due m tick) →
    take start items ≡ take start out → IsPermutation (drop start out) (drop start items) → IsSorted nat_cmp (drop start items) → items ≡ before ++ due m tick
all_taken m cur tick start before out items none front so_far same moved sorted =
    let end : drop start out ++ due cur tick ≡ drop start out = ap (λ xs. drop start out ++ xs) (due_none cur tick none) ∙ append-nil (drop start out) in
    let all : IsPermutation (due m tick) (drop start out) = IsPermutation-sym (drop start out) (due m tick) (subst (λ xs. IsPermutation xs (due m tick)) end so_far) in
    sym (take-append-drop start items) ∙ (λ i. (same ∙ front) i ++ sorted_due m tick (drop start items) (IsPermutation-trans (due m tick) (drop start out) (drop start items) all moved) sorted i)

pub start_within : (start : ℕ) (out before : List ℕ) → take start out ≡ before → start ≡ length before → start ≤ length out
start_within start out before front is = omega (arith, length-take start out, ap length front)
