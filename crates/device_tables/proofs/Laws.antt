-- What cells tell: the laws that a search for a crossing stands on.
use Rattle.std.proofs.Common.{◌≡◌, ◌↔◌, ℕ, zero, suc, ◌+◌, ◌*◌, ◌/◌, ◌^◌, ◌<◌, ◌≤◌, Bool, true, false, cond, ◌&&◌, leb, List, [], ◌∷◌, length, get_or, map, Some, IfSome, IsTrue, ℤ, pos, ◌-ℤ◌, ◌*ℤ◌, ◌≤ℤ◌, ◌<ℤ◌, int_le, int_lt, unsigned_abs, inl, inr, refl, sym, subst, ap, ◌∙◌, arith}
use Rattle.std.specs.List.{range_with_len, slice_get, prefix_len, list_all}
use Rattle.std.specs.Int.{int_div_euclid}
use Rattle.std.proofs.lemmas.Int.{ints, unsigned_abs-mul}
use Rattle.std.proofs.lemmas.Nat.{mul-le}
use Rattle.std.proofs.lemmas.Bool.{and_from, and_parts, le-leb, leb-true, both_ways, false≢true}
use Rattle.std.proofs.lemmas.Bool.Decides.{leb_tells}
use Rattle.std.proofs.lemmas.List.Sums.{sum_by-le-sum_by, count_by-le-length, prefix_len_passes, prefix_len_stops, prefix_len-le-length}
use Rattle.std.proofs.lemmas.List.FromFn.{length-map-range_with_len}
use Rattle.std.proofs.Math.Nat.{mul-suc}
use borrow.Author.Differences.{up, down, product_is, abs_is, true_is_le, true_is_lt}
use Rattle.semantics.specs.declared.fraction.Fraction.{Fraction}
use Rattle.semantics.specs.Grid.{cell, threshold, uniform}
use Rattle.semantics.specs.Valid.{some_grain, small_volts, rising, is_grid}
use Rattle.device_tables.specs.Ends.{threshold_below, LiesIn}
use Rattle.device_tables.specs.Kept.{thresholds_of, is_kept}
use Rattle.device_tables.specs.declared.grid.Thresholds.{Thresholds}
use Rattle.device_tables.specs.declared.grid.Thresholds.TheVariants.{Uniform, Listed}
use Rattle.semantics.proofs.Products.{other_order}
use Rattle.device_tables.proofs.Counts.{count_front, int_le-floor, front_of_rising, IsGrain, grain_tested, grid_tested}

-- ---- a uniform grid by place

pub uniform_length : (grain half : ℕ) → length (uniform grain half) ≡ 2 * half
unfolding uniform
uniform_length grain half = length-map-range_with_len (threshold grain half) 0 (2 * half)

get_map_range : {X : Type 0} (f : ℕ → X) (a n i : ℕ) → i < n → slice_get (map f (range_with_len a n)) i ≡ Some (f (a + i))
get_map_range f a zero i h = absurd (omega arith)
get_map_range f a (suc n) zero h = ap (λ j. Some (f j)) (omega arith)
get_map_range f a (suc n) (suc i) h = get_map_range f (a + 1) n i (omega arith) ∙ ap (λ j. Some (f j)) (omega arith)

pub uniform_at : (grain half i : ℕ) → i < 2 * half → slice_get (uniform grain half) i ≡ Some (threshold grain half i)
unfolding uniform
uniform_at grain half i h = get_map_range (threshold grain half) 0 (2 * half) i h ∙ ap (λ j. Some (threshold grain half j)) (omega arith)

wider : (a b c e k m : ℕ) → a + b + k ≤ c + e → a * m + b * m + k * m ≤ c * m + e * m
wider a b c e k zero h = omega arith
wider a b c e k (suc m) h = omega (arith, wider a b c e k m h, mul-suc a m, mul-suc b m, mul-suc c m, mul-suc e m, mul-suc k m)

next_rises : (t u : ℤ) (h : ℕ) → 0 < h → up u + down t ≡ down u + up t + 2 → int_lt (t *ℤ pos h) (u *ℤ pos h) ≡ true
next_rises t u h h0 e = sym (true_is_lt (t *ℤ pos h) (u *ℤ pos h) (omega (arith, product_is t (pos h), product_is u (pos h), wider (up t) (down u) (up u) (down t) 2 h (omega arith))))

rising_range : (f : ℕ → ℤ) (a n : ℕ) → ((i : ℕ) → int_lt (f i) (f (i + 1)) ≡ true) → rising (map f (range_with_len a n)) ≡ true
rising_range f a zero step = refl
rising_range f a (suc zero) step = refl
rising_range f a (suc (suc n)) step = and_from (int_lt (f a) (f (a + 1))) (rising (map f (range_with_len (a + 1) (suc n)))) (step a) (rising_range f (a + 1) (suc n) step)

-- the thresholds of a uniform grid rise
pub uniform_rises : (grain half : ℕ) → 0 < grain / 2 → rising (uniform grain half) ≡ true
unfolding uniform
uniform_rises grain half h0 = rising_range (threshold grain half) 0 (2 * half) (λ i. next_rises (pos (2 * i + 1) -ℤ pos (2 * half)) (pos (2 * (i + 1) + 1) -ℤ pos (2 * half)) (grain / 2) h0 (omega (arith, ints)))

all_in_range : (p : ℤ → Bool) (f : ℕ → ℤ) (a n m : ℕ) → a + n ≤ m → ((i : ℕ) → i < m → p (f i) ≡ true) → list_all p (map f (range_with_len a n)) ≡ true
all_in_range p f a zero m le each = refl
all_in_range p f a (suc n) m le each = and_from (p (f a)) (list_all p (map f (range_with_len (a + 1) n))) (each a (omega arith)) (all_in_range p f (a + 1) n m (omega arith) each)

threshold_small : (t : ℤ) (h : ℕ) → h ≤ 500000 → unsigned_abs t ≤ 256 → small_volts (t *ℤ pos h) ≡ true
threshold_small t h h_small t_small = le-leb (unsigned_abs (t *ℤ pos h)) (10 ^ 9) (subst_le (sym (unsigned_abs-mul t (pos h))) (omega (arith, mul-le (unsigned_abs t) h 256 500000 t_small h_small)))
  where
    subst_le : {a b : ℕ} → b ≡ a → b ≤ 10 ^ 9 → a ≤ 10 ^ 9
    subst_le e l = omega (arith, e, l)

uniform_small : (grain half : ℕ) → IsGrain grain → half ≤ 128 → list_all small_volts (uniform grain half) ≡ true
unfolding uniform
uniform_small grain half facts few =
    all_in_range small_volts (threshold grain half) 0 (2 * half) (2 * half) (omega arith)
    (λ i h. threshold_small (pos (2 * i + 1) -ℤ pos (2 * half)) (grain / 2) (omega (arith, facts.even, facts.high)) (omega (arith, ints, abs_is (pos (2 * i + 1) -ℤ pos (2 * half)), h, few)))

-- a uniform grid of at most 256 thresholds may stand in a table
pub uniform_is_grid : (grain half : ℕ) → IsTrue (some_grain grain) → half ≤ 128 → IsTrue (is_grid (uniform grain half))
uniform_is_grid grain half g few =
    let facts = grain_tested grain g in
    and_from (leb (length (uniform grain half)) 256) (list_all small_volts (uniform grain half) && rising (uniform grain half))
    (le-leb (length (uniform grain half)) 256 (omega (arith, uniform_length grain half)))
    (and_from (list_all small_volts (uniform grain half)) (rising (uniform grain half)) (uniform_small grain half facts few) (uniform_rises grain half (omega (arith, facts.even, facts.low))))

-- ---- what a grid keeps

-- thresholds rise
pub kept_rises : (kept : Thresholds) → IsTrue (is_kept kept) → rising (thresholds_of kept) ≡ true
kept_rises (Uniform grain half) t =
    let facts = grain_tested grain (and_parts (some_grain grain) (leb 1 half && leb half 4096) t).0 in
    uniform_rises grain half (omega (arith, facts.even, facts.low))
kept_rises (Listed thresholds) t = (grid_tested thresholds.items t).rises

small_at : (zs : List ℤ) (i : ℕ) (θ : ℤ) → list_all small_volts zs ≡ true → slice_get zs i ≡ Some θ → unsigned_abs θ ≤ 5 * 10 ^ 9
small_at [] i θ s e = cc
small_at (z ∷ zs) zero θ s e =
    let here = leb-true (unsigned_abs z) (10 ^ 9) (and_parts (small_volts z) (list_all small_volts zs) s).0 in
    let same : z ≡ θ = cc in
    rw (← same) (omega (arith, here))
small_at (z ∷ zs) (suc i) θ s e = small_at zs i θ (and_parts (small_volts z) (list_all small_volts zs) s).1 e

threshold_size : (grain half i : ℕ) → IsGrain grain → half ≤ 4096 → i < 2 * half → unsigned_abs (threshold grain half i) ≤ 5 * 10 ^ 9
threshold_size grain half i facts few h =
    rw (unsigned_abs-mul (pos (2 * i + 1) -ℤ pos (2 * half)) (pos (grain / 2)))
    (omega (arith, mul-le (unsigned_abs (pos (2 * i + 1) -ℤ pos (2 * half))) (grain / 2) 8192 500000 (omega (arith, ints, abs_is (pos (2 * i + 1) -ℤ pos (2 * half)), h, few)) (omega (arith, facts.even, facts.high))))

-- no threshold is over 5,000 V in size
pub kept_small : (kept : Thresholds) (i : ℕ) (θ : ℤ) → IsTrue (is_kept kept) → i < length (thresholds_of kept) → slice_get (thresholds_of kept) i ≡ Some θ → unsigned_abs θ ≤ 5 * 10 ^ 9
kept_small (Uniform grain half) i θ t h e =
    let parts = and_parts (some_grain grain) (leb 1 half && leb half 4096) t in
    let few = leb-true half 4096 (and_parts (leb 1 half) (leb half 4096) parts.1).1 in
    let inside : i < 2 * half = omega (arith, h, uniform_length grain half) in
    let at : Some (threshold grain half i) ≡ Some θ = sym (uniform_at grain half i inside) ∙ e in
    let same : threshold grain half i ≡ θ = cc in
    rw (← same) (threshold_size grain half i (grain_tested grain parts.0) few inside)
kept_small (Listed thresholds) i θ t h e = small_at thresholds.items i θ (grid_tested thresholds.items t).small e

-- ---- the cell of a voltage

-- there is one more cell than thresholds
pub cell_within : (zs : List ℤ) (v : Fraction) → cell zs v ≤ length zs
unfolding cell
cell_within zs v = count_by-le-length (λ θ. int_le (θ *ℤ pos v.den) v.num) zs

times_le : (x y : ℤ) (d : ℕ) → x ≤ℤ y → (x *ℤ pos d) ≤ℤ (y *ℤ pos d)
times_le x y d h = omega (arith, ints, product_is x (pos d), product_is y (pos d), wider (up x) (down y) (up y) (down x) 0 d (omega (arith, ints)))

cancel_le : (x y : ℤ) (d : ℕ) → 0 < d → (x *ℤ pos d) ≤ℤ (y *ℤ pos d) → x ≤ℤ y
cancel_le x y d d0 h = elim (leb_tells (up x + down y) (up y + down x)) [
  | inl l ↦ omega (arith, ints, l.1)
  | inr l ↦ absurd (omega (arith, ints, h, product_is x (pos d), product_is y (pos d), wider (up y) (down x) (up x) (down y) 1 d (omega (arith, l.1))))
]

-- what is at most a is at most b, where a is at most b
also_at_most : (x : ℤ) (a b : Fraction) → 0 < a.den → (a.num *ℤ pos b.den) ≤ℤ (b.num *ℤ pos a.den) → int_le (x *ℤ pos a.den) a.num ≡ true → int_le (x *ℤ pos b.den) b.num ≡ true
also_at_most x a b a0 h e =
    let at_a : (x *ℤ pos a.den) ≤ℤ a.num = omega (arith, ints, e) in
    let turned : (x *ℤ pos b.den) *ℤ pos a.den ≡ (x *ℤ pos a.den) *ℤ pos b.den = other_order x b.den a.den in
    let at_b : (x *ℤ pos b.den) ≤ℤ b.num = cancel_le (x *ℤ pos b.den) b.num a.den a0 (rw turned (omega (arith, ints, times_le (x *ℤ pos a.den) a.num b.den at_a, h))) in
    sym (true_is_le (x *ℤ pos b.den) b.num (omega (arith, ints, at_b)))

cond_le : (b c : Bool) → (b ≡ true → c ≡ true) → cond b 1 0 ≤ cond c 1 0
cond_le true true h = omega arith
cond_le true false h = absurd (false≢true (h refl))
cond_le false c h = omega arith

-- a cell grows with the value
pub cell_grows : (zs : List ℤ) (a b : Fraction) → 0 < a.den → (a.num *ℤ pos b.den) ≤ℤ (b.num *ℤ pos a.den) → cell zs a ≤ cell zs b
unfolding cell
cell_grows zs a b a0 h =
    sum_by-le-sum_by (λ x. cond (int_le (x *ℤ pos a.den) a.num) 1 0) (λ x. cond (int_le (x *ℤ pos b.den) b.num) 1 0) zs
    (λ x. cond_le (int_le (x *ℤ pos a.den) a.num) (int_le (x *ℤ pos b.den) b.num) (also_at_most x a b a0 h))

-- ---- the ends of a cell

front_passes : (zs : List ℤ) (v : Fraction) → rising zs ≡ true → 0 < v.den → (i j : ℕ) (d : ℤ) → i ≤ j → j < length zs →
    int_le (get_or zs j d *ℤ pos v.den) v.num ≡ true → int_le (get_or zs i d *ℤ pos v.den) v.num ≡ true
front_passes zs v r v0 i j d le h e =
    int_le-floor (get_or zs i d) v.num v.den v0 ∙ front_of_rising zs (int_div_euclid v.num (pos v.den)) r i j d le h (sym (int_le-floor (get_or zs j d) v.num v.den v0) ∙ e)

not_true : (b : Bool) → (b ≡ true → ⊥) → b ≡ false
not_true true n = absurd (n refl)
not_true false n = refl

-- the cell is the place of the first threshold above the voltage
cell_is_front : (zs : List ℤ) (v : Fraction) → rising zs ≡ true → 0 < v.den → cell zs v ≡ prefix_len (λ θ. int_le (θ *ℤ pos v.den) v.num) zs
unfolding cell
cell_is_front zs v r v0 =
    let p : ℤ → Bool = λ θ. int_le (θ *ℤ pos v.den) v.num in
    count_front p zs (prefix_len p zs) (prefix_len-le-length p zs) (λ i d h. prefix_len_passes p zs i d h)
    (λ i d h l. not_true (p (get_or zs i d)) (λ e. both_ways (p (get_or zs (prefix_len p zs) d)) (prefix_len_stops p zs d (omega (arith, h, l))) (front_passes zs v r v0 (prefix_len p zs) i d h l e)))

some_at : (zs : List ℤ) (i : ℕ) (d : ℤ) (P : ℤ → Type 0) → (i < length zs → P (get_or zs i d)) → IfSome (slice_get zs i) P
some_at [] i d P h = tt
some_at (z ∷ zs) zero d P h = h (omega arith)
some_at (z ∷ zs) (suc i) d P h = some_at zs i d P (λ l. h (omega arith))

at_some : (zs : List ℤ) (i : ℕ) (d : ℤ) (P : ℤ → Type 0) → i < length zs → IfSome (slice_get zs i) P → P (get_or zs i d)
at_some [] i d P l h = absurd (omega arith)
at_some (z ∷ zs) zero d P l h = h
at_some (z ∷ zs) (suc i) d P l h = at_some zs i d P (omega arith) h

lies_below : (zs : List ℤ) (v : Fraction) (c : ℕ) → c ≤ prefix_len (λ θ. int_le (θ *ℤ pos v.den) v.num) zs → IfSome (threshold_below zs c) (λ θ. (θ *ℤ pos v.den) ≤ℤ v.num)
lies_below zs v zero few = tt
lies_below zs v (suc c) few =
    some_at zs c (pos 0) (λ θ. (θ *ℤ pos v.den) ≤ℤ v.num) (λ l. omega (arith, ints, prefix_len_passes (λ θ. int_le (θ *ℤ pos v.den) v.num) zs c (pos 0) few))

lies_in_cell : (zs : List ℤ) (v : Fraction) → rising zs ≡ true → 0 < v.den → LiesIn zs (cell zs v) v
lies_in_cell zs v r v0 =
    let p : ℤ → Bool = λ θ. int_le (θ *ℤ pos v.den) v.num in
    subst (λ c. LiesIn zs c v) (sym (cell_is_front zs v r v0)) (record {
      above = lies_below zs v (prefix_len p zs) (omega arith);
      under = some_at zs (prefix_len p zs) (pos 0) (λ θ. v.num <ℤ (θ *ℤ pos v.den)) (λ l. omega (arith, ints, prefix_len_stops p zs (pos 0) l));
    })

passes_below : (zs : List ℤ) (v : Fraction) (c i : ℕ) → rising zs ≡ true → 0 < v.den → c ≤ length zs → i < c → IfSome (threshold_below zs c) (λ θ. (θ *ℤ pos v.den) ≤ℤ v.num) → (d : ℤ) → int_le (get_or zs i d *ℤ pos v.den) v.num ≡ true
passes_below zs v zero i r v0 few h above d = absurd (omega arith)
passes_below zs v (suc c) i r v0 few h above d =
    let at_c = at_some zs c d (λ θ. (θ *ℤ pos v.den) ≤ℤ v.num) (omega arith) above in
    front_passes zs v r v0 i c d (omega arith) (omega arith) (sym (true_is_le (get_or zs c d *ℤ pos v.den) v.num (omega (arith, ints, at_c))))

cell_from_ends : (zs : List ℤ) (v : Fraction) (c : ℕ) → rising zs ≡ true → 0 < v.den → c ≤ length zs → LiesIn zs c v → cell zs v ≡ c
unfolding cell
cell_from_ends zs v c r v0 few lies =
    let p : ℤ → Bool = λ θ. int_le (θ *ℤ pos v.den) v.num in
    count_front p zs c few (λ i d h. passes_below zs v c i r v0 few h lies.above d)
    (λ i d h l. not_true (p (get_or zs i d)) (λ e.
    let at_c = at_some zs c d (λ θ. v.num <ℤ (θ *ℤ pos v.den)) (omega arith) lies.under in
    let t = front_passes zs v r v0 c i d h l e in
    omega (arith, ints, at_c, t)))

-- a voltage lies between the ends of its cell, and of no other
pub in_cell : (zs : List ℤ) (v : Fraction) (c : ℕ) → rising zs ≡ true → 0 < v.den → c ≤ length zs → (cell zs v ≡ c) ↔ LiesIn zs c v
in_cell zs v c r v0 few = (λ e. subst (λ k. LiesIn zs k v) e (lies_in_cell zs v r v0), cell_from_ends zs v c r v0 few)
