-- How many thresholds are at most a voltage: the front of a rising list, and in a uniform grid what one division gives.
use Rattle.std.proofs.Common.{◌≡◌, ℕ, zero, suc, ◌+◌, ◌*◌, ◌/◌, ◌<◌, ◌≤◌, Bool, true, false, cond, ◌&&◌, leb, List, [], ◌∷◌, length, get_or, map, count_by, IsTrue, ℤ, pos, negsuc, ◌+ℤ◌, ◌-ℤ◌, ◌*ℤ◌, ◌≤ℤ◌, unsigned_abs, int_le, int_lt, inl, inr, refl, sym, ap, ◌∙◌, arith, rules}
use Rattle.std.specs.List.{range_with_len, list_all}
use Rattle.std.specs.Int.{int_div_euclid, int_max, int_min}
use Rattle.std.proofs.lemmas.Int.{ints, clamps}
use Rattle.std.proofs.lemmas.Nat.{le-div, div_below}
use Rattle.std.proofs.lemmas.Bool.{and_parts, leb-true, le-leb, lt-leb}
use Rattle.std.proofs.lemmas.Bool.Decides.{leb_tells}
use Rattle.std.proofs.lemmas.List.Sums.{sum_by-cons}
use Rattle.std.proofs.lemmas.List.FromFn.{length-map-range_with_len, get_or-map-range_with_len}
use Rattle.std.proofs.Math.Nat.{mul-suc}
use borrow.Author.Differences.{up, down, abs_is, product_is, true_is_le, false_is_le}
use Rattle.semantics.proofs.Products.{times_times}
use Rattle.semantics.specs.Grid.{cell, threshold, uniform}
use Rattle.semantics.specs.Valid.{some_grain, small_volts, rising, is_grid}

-- where the first k items pass a test and no other does, k pass
pub count_front : {X : Type 0} (p : X → Bool) (xs : List X) (k : ℕ) → k ≤ length xs → ((i : ℕ) (d : X) → i < k → p (get_or xs i d) ≡ true) → ((i : ℕ) (d : X) → k ≤ i → i < length xs → p (get_or xs i d) ≡ false) → count_by p xs ≡ k
count_front p [] k few front back = omega arith
count_front p (x ∷ xs) zero few front back =
    sum_by-cons (λ y. cond (p y) 1 0) x xs ∙ rw (back 0 x (omega arith) (omega arith)) (omega (arith, count_front p xs 0 (omega arith) (λ i d h. absurd (omega arith)) (λ i d h l. back (suc i) d (omega arith) (omega arith))))
count_front p (x ∷ xs) (suc k) few front back =
    sum_by-cons (λ y. cond (p y) 1 0) x xs ∙ rw (front 0 x (omega arith)) (omega (arith, count_front p xs k (omega arith) (λ i d h. front (suc i) d (omega arith)) (λ i d h l. back (suc i) d (omega arith) (omega arith))))

leb_floor : (x a n : ℕ) → 0 < n → int_le (pos (x * n)) (pos a) ≡ int_le (pos x) (pos (a / n))
leb_floor x a n n0 = elim (leb_tells (x * n) a) [
  | inl h ↦ h.0 ∙ sym (le-leb x (a / n) (le-div x a n n0 h.1))
  | inr h ↦ h.0 ∙ sym (lt-leb x (a / n) (div_below a n x n0 h.1))
]

-- x times n is at most z where x is at most z / n, towards minus infinity
pub int_le-floor : (x z : ℤ) (n : ℕ) → 0 < n → int_le (x *ℤ pos n) z ≡ int_le x (int_div_euclid z (pos n))
int_le-floor (pos x) (pos a) n n0 = leb_floor x a n n0
int_le-floor (pos x) (negsuc a) n n0 = refl
int_le-floor (negsuc x) (pos a) n n0 = sym (true_is_le (negsuc x *ℤ pos n) (pos a) (omega (arith, product_is (negsuc x) (pos n))))
int_le-floor (negsuc x) (negsuc a) n n0 = elim (leb_tells (suc x * n) a) [
  | inl h ↦ sym (false_is_le (negsuc x *ℤ pos n) (negsuc a) (omega (arith, product_is (negsuc x) (pos n), h.1))) ∙ sym (lt-leb (a / n) x (le-div (suc x) a n n0 h.1))
  | inr h ↦ sym (true_is_le (negsuc x *ℤ pos n) (negsuc a) (omega (arith, product_is (negsuc x) (pos n), h.1))) ∙ sym (le-leb (a / n) x (omega (arith, div_below a n (suc x) n0 h.1)))
]

le_like : (a b c d : ℤ) → (up b + down a) + (up c + down d) ≡ (up d + down c) + (up a + down b) → int_le a b ≡ int_le c d
le_like a b c d e = elim (leb_tells (up a + down b) (up b + down a)) [
  | inl h ↦ sym (true_is_le a b h.1) ∙ true_is_le c d (omega (arith, h.1, e))
  | inr h ↦ sym (false_is_le a b h.1) ∙ false_is_le c d (omega (arith, h.1, e))
]

spread : (u b w i c m : ℕ) → u + 2 * b ≡ w + (2 * i + c) → u * m + 2 * (b * m) ≡ w * m + (2 * (i * m) + c * m)
spread u b w i c zero e = omega arith
spread u b w i c (suc m) e = omega (arith, spread u b w i c m e, mul-suc u m, mul-suc b m, mul-suc w m, mul-suc i m, mul-suc c m)

shifted : (t b num : ℤ) (half i m : ℕ) → up t + 2 * half ≡ down t + (2 * i + 1) → up b + half ≡ down b + (i + 1) → 0 < m → int_le (t *ℤ pos m) num ≡ int_le b (int_div_euclid (num +ℤ pos m) (pos (2 * m)))
shifted t b num half i m t_is b_is m0 =
    le_like (t *ℤ pos m) num (b *ℤ pos (2 * m)) (num +ℤ pos m)
    (omega (arith, ints, product_is t (pos m), product_is b (pos (2 * m)), spread (up t) half (down t) i 1 m t_is, spread (2 * up b) half (2 * down b) i 2 m (omega (arith, b_is))))
    ∙ int_le-floor b (num +ℤ pos m) (2 * m) (omega arith)

-- the threshold at place i of a uniform grid is at most a voltage where i lies below half plus the voltage in grains, rounded
threshold_test : (h half i den : ℕ) (num : ℤ) → 0 < h * den → int_le (((pos (2 * i + 1) -ℤ pos (2 * half)) *ℤ pos h) *ℤ pos den) num ≡ int_le (pos (i + 1) -ℤ pos half) (int_div_euclid (num +ℤ pos (h * den)) (pos (2 * (h * den))))
threshold_test h half i den num m0 =
    ap (λ z. int_le z num) (times_times (pos (2 * i + 1) -ℤ pos (2 * half)) h den)
    ∙ shifted (pos (2 * i + 1) -ℤ pos (2 * half)) (pos (i + 1) -ℤ pos half) num half i (h * den) (omega (arith, ints)) (omega (arith, ints)) m0

-- the cell in a uniform grid: the voltage in grains, rounded to the nearest, and half, from 0 to twice half
pub uniform_cell_is : (grain half den : ℕ) (num q : ℤ) (c : ℕ) → 0 < grain / 2 * den → q ≡ int_div_euclid (num +ℤ pos (grain / 2 * den)) (pos (2 * (grain / 2 * den))) → pos c ≡ int_max (pos 0) (int_min (q +ℤ pos half) (pos (2 * half))) → cell (uniform grain half) (record { num = num; den = den }) ≡ c
unfolding cell uniform
uniform_cell_is grain half den num q c m0 q_is c_is =
    let test : (i : ℕ) → int_le (threshold grain half i *ℤ pos den) num ≡ int_le (pos (i + 1) -ℤ pos half) q = λ i. threshold_test (grain / 2) half i den num m0 ∙ ap (int_le (pos (i + 1) -ℤ pos half)) (sym q_is) in
    let long : length (map (threshold grain half) (range_with_len 0 (2 * half))) ≡ 2 * half = length-map-range_with_len (threshold grain half) 0 (2 * half) in
    let few : c ≤ 2 * half = omega (arith, ints, clamps, c_is) in
    count_front (λ θ. int_le (θ *ℤ pos den) num) (map (threshold grain half) (range_with_len 0 (2 * half))) c (omega arith)
    (λ i d h. ap (λ θ. int_le (θ *ℤ pos den) num) (get_or-map-range_with_len (threshold grain half) 0 (2 * half) i i d (omega arith) (omega arith)) ∙ test i ∙ sym (true_is_le (pos (i + 1) -ℤ pos half) q (omega (arith, ints, clamps, c_is, h))))
    (λ i d h l. ap (λ θ. int_le (θ *ℤ pos den) num) (get_or-map-range_with_len (threshold grain half) 0 (2 * half) i i d (omega arith) (omega arith)) ∙ test i ∙ sym (false_is_le (pos (i + 1) -ℤ pos half) q (omega (arith, ints, clamps, c_is, h, l, long))))

-- what `some_grain` tests
pub record IsGrain (grain : ℕ) : Type 0 where
  pub even : grain ≡ 2 * (grain / 2)
  pub low : 2 ≤ grain
  pub high : grain ≤ 1000000

pub grain_tested : (grain : ℕ) → IsTrue (some_grain grain) → IsGrain grain
grain_tested grain t = record { even = search rules; low = search rules; high = search rules }

pub from_natural : (z : ℤ) → pos 0 ≤ℤ z → z ≡ pos (unsigned_abs z)
from_natural (pos n) h = refl
from_natural (negsuc n) h = absurd (omega (arith, ints, h))

pub abs_positive : (z : ℤ) → pos 1 ≤ℤ z → 0 < unsigned_abs z
abs_positive z h = omega (arith, ints, abs_is z)

-- ---- listed thresholds

tail_rises : (a : ℤ) (zs : List ℤ) → rising (a ∷ zs) ≡ true → rising zs ≡ true
tail_rises a [] r = refl
tail_rises a (b ∷ zs) r = (and_parts (int_lt a b) (rising (b ∷ zs)) r).1

first_step : (a b : ℤ) (zs : List ℤ) → rising (a ∷ b ∷ zs) ≡ true → a ≤ℤ b
first_step a b zs r = let t = (and_parts (int_lt a b) (rising (b ∷ zs)) r).0 in grind (arith, ints)

above_head : (a : ℤ) (zs : List ℤ) (j : ℕ) (d : ℤ) → rising (a ∷ zs) ≡ true → j < length zs → a ≤ℤ get_or zs j d
above_head a [] j d r h = absurd (omega arith)
above_head a (b ∷ zs) zero d r h = first_step a b zs r
above_head a (b ∷ zs) (suc j) d r h = omega (arith, ints, above_head b zs j d (tail_rises a (b ∷ zs) r) (omega arith), first_step a b zs r)

pub rising_by_place : (zs : List ℤ) (i j : ℕ) (d : ℤ) → rising zs ≡ true → i ≤ j → j < length zs → get_or zs i d ≤ℤ get_or zs j d
rising_by_place [] i j d r le h = absurd (omega arith)
rising_by_place (a ∷ zs) zero zero d r le h = omega (arith, ints)
rising_by_place (a ∷ zs) zero (suc j) d r le h = above_head a zs j d r (omega arith)
rising_by_place (a ∷ zs) (suc i) zero d r le h = absurd (omega arith)
rising_by_place (a ∷ zs) (suc i) (suc j) d r le h = rising_by_place zs i j d (tail_rises a zs r) (omega arith) (omega arith)

-- what is at most a bound stands in front
pub front_of_rising : (zs : List ℤ) (w : ℤ) → rising zs ≡ true → (i j : ℕ) (d : ℤ) → i ≤ j → j < length zs → int_le (get_or zs j d) w ≡ true → int_le (get_or zs i d) w ≡ true
front_of_rising zs w r i j d le h e = grind (arith, ints, rising_by_place zs i j d r le h)

-- what `is_grid` tests
pub record IsGrid (thresholds : List ℤ) : Type 0 where
  pub few : length thresholds ≤ 256
  pub small : list_all small_volts thresholds ≡ true
  pub rises : rising thresholds ≡ true

pub grid_tested : (thresholds : List ℤ) → IsTrue (is_grid thresholds) → IsGrid thresholds
grid_tested zs t =
    let outer = and_parts (leb (length zs) 256) (list_all small_volts zs && rising zs) t in
    let inner = and_parts (list_all small_volts zs) (rising zs) outer.1 in
    record { few = leb-true (length zs) 256 outer.0; small = inner.0; rises = inner.1 }

-- a binary search for the floor finds the count
pub listed_cell_is : (zs : List ℤ) (num : ℤ) (den : ℕ) (c : ℕ) → 0 < den → c ≤ length zs →
    ((i : ℕ) (d : ℤ) → i < c → int_le (get_or zs i d) (int_div_euclid num (pos den)) ≡ true) →
    ((i : ℕ) (d : ℤ) → c ≤ i → i < length zs → int_le (get_or zs i d) (int_div_euclid num (pos den)) ≡ false) →
    c ≡ cell zs (record { num = num; den = den })
unfolding cell
listed_cell_is zs num den c den0 few front back =
    sym (count_front (λ θ. int_le (θ *ℤ pos den) num) zs c few
    (λ i d h. int_le-floor (get_or zs i d) num den den0 ∙ front i d h)
    (λ i d h l. int_le-floor (get_or zs i d) num den den0 ∙ back i d h l))
