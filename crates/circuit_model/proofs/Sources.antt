-- What a source gives at a tick, from where the tick lies among its points.
use Rattle.std.proofs.Common.{◌≡◌, ℕ, suc, zero, ◌+◌, ◌-◌, ◌^◌, ◌<◌, ◌≤◌, true, false, not, ◌&&◌, List, [], ◌∷◌, length, get_or, refl, ◌∙◌, ap, arith, ℤ, pos, ◌-ℤ◌, ◌*ℤ◌, to_z, of_z, FitsSigned, lit<, add-one}
use mir.Syntax.{w128}
use Rattle.std.specs.Prelude.{neg_ℤ, unsigned_abs, nat_lt, ◌==◌}
use Rattle.std.specs.List.{list_all}
use Rattle.std.specs.List.Sorted.{IsNonDecreasingBy}
use Rattle.std.proofs.lemmas.Bool.{and_parts, cond-true, cond-false, le-ltb, lt-ltb, leb-true, ltb-true}
use Rattle.std.proofs.lemmas.Bool.Decides.{nat_tests}
use Rattle.std.proofs.lemmas.Int.{ints, unsigned_abs-mul}
use Rattle.std.proofs.lemmas.Nat.{mul-le}
use Rattle.semantics.specs.Points.{rising_times}
use Rattle.semantics.specs.Source.{between, level, pair_at, pair_from, slope_at, slope_from}
use Rattle.semantics.specs.Valid.{is_source, short_time, small_volts}
use Rattle.circuit_model.specs.Points.{time_at}
use Rattle.circuit_model.proofs.Products.{product_kept, fits_small}

-- a point that no list has
abbrev pub none : ℕ × ℤ
none = (0, pos 0)

-- ---- rising ticks

-- the tick of the first point is below that of the second, and the rest rises too
pub rising_two : (p q : ℕ × ℤ) (ps : List (ℕ × ℤ)) → rising_times (p ∷ q ∷ ps) ≡ true → (p.0 < q.0) × (rising_times (q ∷ ps) ≡ true)
rising_two p q ps up = let both = and_parts (nat_lt p.0 q.0) (rising_times (q ∷ ps)) up in (ltb-true p.0 q.0 both.0, both.1)

-- the first point is the earliest
first_earliest : (p : ℕ × ℤ) (ps : List (ℕ × ℤ)) (i : ℕ) (d : ℕ × ℤ) → rising_times (p ∷ ps) ≡ true → i < length (p ∷ ps) → p.0 ≤ (get_or (p ∷ ps) i d).0
first_earliest p ps zero d up below = omega arith
first_earliest p [] (suc i) d up below = absurd (omega arith)
first_earliest p (q ∷ ps) (suc i) d up below =
    let two = rising_two p q ps up in
    let later : q.0 ≤ (get_or (q ∷ ps) i d).0 = first_earliest q ps i d two.1 (omega arith) in omega (arith, two.0, later)

rising_tail : (p : ℕ × ℤ) (ps : List (ℕ × ℤ)) → rising_times (p ∷ ps) ≡ true → rising_times ps ≡ true
rising_tail p [] up = refl
rising_tail p (q ∷ ps) up = (rising_two p q ps up).1

-- the ticks of later points are later
pub in_order : (ps : List (ℕ × ℤ)) → rising_times ps ≡ true → IsNonDecreasingBy (λ p. p.0) ps
in_order [] up = λ i j d i_j below. absurd (omega arith)
in_order (p ∷ ps) up = at (in_order ps (rising_tail p ps up))
  where
    at : IsNonDecreasingBy (λ q. q.0) ps → (i j : ℕ) (d : ℕ × ℤ) → i ≤ j → j < length (p ∷ ps) → (get_or (p ∷ ps) i d).0 ≤ (get_or (p ∷ ps) j d).0
    at rest zero j d i_j below = first_earliest p ps j d up below
    at rest (suc i) zero d i_j below = absurd (omega arith)
    at rest (suc i) (suc j) d i_j below = rest i j d (omega arith) (omega arith)

-- ---- the voltage

-- what the code computes of a point and the time to or from it
pub weight_kept : (z x : ℤ) (n : ℕ) → unsigned_abs z ≤ 10 ^ 9 → n ≤ 10 ^ 10 → x ≡ pos n → to_z w128 (of_z w128 (to_z w128 (of_z w128 z) *ℤ to_z w128 (of_z w128 x))) ≡ z *ℤ pos n
weight_kept z x n small short is = product_kept z x n (omega (arith, small)) (omega (arith, short)) is

weight_small : (z : ℤ) (n : ℕ) → unsigned_abs z ≤ 10 ^ 9 → n ≤ 10 ^ 10 → unsigned_abs (z *ℤ pos n) ≤ 10 ^ 19
weight_small z n small short = rw (unsigned_abs-mul z (pos n)) (omega (arith, mul-le (unsigned_abs z) n (10 ^ 9) (10 ^ 10) small short))

pub line_fits : (p q : ℕ × ℤ) (t : ℕ) → q.0 ≤ 10 ^ 10 → t < q.0 → unsigned_abs p.1 ≤ 10 ^ 9 → unsigned_abs q.1 ≤ 10 ^ 9 → FitsSigned w128 (between p q t).num
line_fits p q t short ahead low high =
    let rise : unsigned_abs (p.1 *ℤ pos (q.0 - t)) ≤ 10 ^ 19 = weight_small p.1 (q.0 - t) low (omega arith) in
    let fall : unsigned_abs (q.1 *ℤ pos (t - p.0)) ≤ 10 ^ 19 = weight_small q.1 (t - p.0) high (omega arith) in
    fits_small (between p q t).num (10 ^ 20) (omega (arith, ints, rise, fall)) (lit< tt)

-- what the code computes of a number whose sign it turns
pub turned_kept : (z : ℤ) → unsigned_abs z ≤ 10 ^ 19 → to_z w128 (of_z w128 (pos 0 -ℤ to_z w128 (of_z w128 z))) ≡ neg_ℤ z
turned_kept z small = omega (arith, ints)

-- before the first point the source is level
pub pair_before : (ps : List (ℕ × ℤ)) (t : ℕ) → 0 < length ps → t < time_at ps 0 → pair_at ps t ≡ level (get_or ps 0 none).1
unfolding pair_at
pair_before [] t some before = absurd (omega arith)
pair_before (p ∷ ps) t some before = cond-true (nat_lt t p.0) (level p.1) (pair_from p ps t) (lt-ltb t p.0 before)

pub slope_before : (ps : List (ℕ × ℤ)) (t : ℕ) → 0 < length ps → t < time_at ps 0 → slope_at ps t ≡ pos 0
unfolding slope_at
slope_before [] t some before = refl
slope_before (p ∷ ps) t some before = cond-true (nat_lt t p.0) (pos 0) (slope_from p ps t) (lt-ltb t p.0 before)

-- from the last point on too
past_from : (p : ℕ × ℤ) (qs : List (ℕ × ℤ)) (t : ℕ) → rising_times (p ∷ qs) ≡ true → time_at (p ∷ qs) (length qs) ≤ t → (pair_from p qs t ≡ level (get_or (p ∷ qs) (length qs) none).1) × (slope_from p qs t ≡ pos 0)
past_from p [] t up past = (refl, refl)
past_from p (q ∷ qs) t up past =
    let two = rising_two p q qs up in
    let here : q.0 ≤ (get_or (q ∷ qs) (length qs) none).0 = first_earliest q qs (length qs) none two.1 (omega arith) in
    let later : nat_lt t q.0 ≡ false = le-ltb t q.0 (omega (arith, here, past)) in
    let rest = past_from q qs t two.1 past in
    (cond-false (nat_lt t q.0) (between p q t) (pair_from q qs t) later ∙ rest.0, cond-false (nat_lt t q.0) (q.1 -ℤ p.1) (slope_from q qs t) later ∙ rest.1)

last_place : (p : ℕ × ℤ) (ps : List (ℕ × ℤ)) → length (p ∷ ps) - 1 ≡ length ps
last_place p ps = omega arith

pub pair_past : (ps : List (ℕ × ℤ)) (t : ℕ) → 0 < length ps → rising_times ps ≡ true → time_at ps (length ps - 1) ≤ t → (pair_at ps t ≡ level (get_or ps (length ps - 1) none).1) × (slope_at ps t ≡ pos 0)
unfolding pair_at slope_at
pair_past [] t some up past = absurd (omega arith)
pair_past (p ∷ ps) t some up past =
    let at_last : time_at (p ∷ ps) (length ps) ≤ t = rw (last_place p ps) at past in
    let first : p.0 ≤ time_at (p ∷ ps) (length ps) = first_earliest p ps (length ps) none up (omega arith) in
    let later : nat_lt t p.0 ≡ false = le-ltb t p.0 (omega (arith, first, at_last)) in
    let rest = past_from p ps t up at_last in
    rw (last_place p ps) (cond-false (nat_lt t p.0) (level p.1) (pair_from p ps t) later ∙ rest.0, cond-false (nat_lt t p.0) (pos 0) (slope_from p ps t) later ∙ rest.1)

-- between two neighbours it is on the line between them
from_between : (p : ℕ × ℤ) (qs : List (ℕ × ℤ)) (t i : ℕ) → rising_times (p ∷ qs) ≡ true → i < length qs → time_at (p ∷ qs) i ≤ t → t < time_at qs i
    → (pair_from p qs t ≡ between (get_or (p ∷ qs) i none) (get_or qs i none) t) × (slope_from p qs t ≡ (get_or qs i none).1 -ℤ (get_or (p ∷ qs) i none).1)
from_between p [] t i up inside passed ahead = absurd (omega arith)
from_between p (q ∷ qs) t zero up inside passed ahead =
    let here : nat_lt t q.0 ≡ true = lt-ltb t q.0 ahead in
    (cond-true (nat_lt t q.0) (between p q t) (pair_from q qs t) here, cond-true (nat_lt t q.0) (q.1 -ℤ p.1) (slope_from q qs t) here)
from_between p (q ∷ qs) t (suc i) up inside passed ahead =
    let two = rising_two p q qs up in
    let first : q.0 ≤ time_at (q ∷ qs) i = first_earliest q qs i none two.1 (omega arith) in
    let later : nat_lt t q.0 ≡ false = le-ltb t q.0 (omega (arith, first, passed)) in
    let rest = from_between q qs t i two.1 (omega arith) passed ahead in
    (cond-false (nat_lt t q.0) (between p q t) (pair_from q qs t) later ∙ rest.0, cond-false (nat_lt t q.0) (q.1 -ℤ p.1) (slope_from q qs t) later ∙ rest.1)

next_place : (p : ℕ × ℤ) (ps : List (ℕ × ℤ)) (i : ℕ) → get_or (p ∷ ps) (i + 1) none ≡ get_or ps i none
next_place p ps i = rw (add-one i) refl

next_time : (p : ℕ × ℤ) (ps : List (ℕ × ℤ)) (i : ℕ) → time_at (p ∷ ps) (i + 1) ≡ time_at ps i
next_time p ps i = ap (λ (q : ℕ × ℤ). q.0) (next_place p ps i)

pub pair_inside : (ps : List (ℕ × ℤ)) (t i : ℕ) → rising_times ps ≡ true → i + 1 < length ps → time_at ps i ≤ t → t < time_at ps (i + 1)
    → (pair_at ps t ≡ between (get_or ps i none) (get_or ps (i + 1) none) t) × (slope_at ps t ≡ (get_or ps (i + 1) none).1 -ℤ (get_or ps i none).1)
unfolding pair_at slope_at
pair_inside [] t i up inside passed ahead = absurd (omega arith)
pair_inside (p ∷ ps) t i up inside passed ahead =
    let soon : t < time_at ps i = omega (arith, ahead, next_time p ps i) in
    let first : p.0 ≤ time_at (p ∷ ps) i = first_earliest p ps i none up (omega arith) in
    let later : nat_lt t p.0 ≡ false = le-ltb t p.0 (omega (arith, first, passed)) in
    let rest = from_between p ps t i up (omega arith) passed soon in
    rw (next_place p ps i) (cond-false (nat_lt t p.0) (level p.1) (pair_from p ps t) later ∙ rest.0, cond-false (nat_lt t p.0) (pos 0) (slope_from p ps t) later ∙ rest.1)

-- ---- what the limits of a source say

pub record IsLimited (ps : List (ℕ × ℤ)) : Type 0 where
  pub some : 0 < length ps
  pub rising : rising_times ps ≡ true
  pub short : (i : ℕ) → i < length ps → time_at ps i ≤ 10 ^ 10
  pub small : (i : ℕ) → i < length ps → unsigned_abs (get_or ps i none).1 ≤ 10 ^ 9

each_limited : (ps : List (ℕ × ℤ)) (i : ℕ) → list_all (λ p. short_time p.0 && small_volts p.1) ps ≡ true → i < length ps → (time_at ps i ≤ 10 ^ 10) × (unsigned_abs (get_or ps i none).1 ≤ 10 ^ 9)
each_limited [] i all below = absurd (omega arith)
each_limited (p ∷ ps) zero all below =
    let both = and_parts (short_time p.0) (small_volts p.1) (and_parts _ _ all).0 in (leb-true _ _ both.0, leb-true _ _ both.1)
each_limited (p ∷ ps) (suc i) all below = each_limited ps i (and_parts (short_time p.0 && small_volts p.1) (list_all (λ p. short_time p.0 && small_volts p.1) ps) all).1 (omega arith)

pub limited : (ps : List (ℕ × ℤ)) → is_source ps ≡ true → IsLimited ps
limited ps good =
    let parts = and_parts (not (length ps == 0)) (rising_times ps && list_all (λ p. short_time p.0 && small_volts p.1) ps) good in
    let rest = and_parts (rising_times ps) (list_all (λ p. short_time p.0 && small_volts p.1) ps) parts.1 in
    record {
      some = grind (arith, nat_tests, parts.0);
      rising = rest.0;
      short = λ i below. (each_limited ps i rest.1 below).0;
      small = λ i below. (each_limited ps i rest.1 below).1;
    }
