-- Where the line of a source turns: between two of its points, and before and after them, it goes straight on.
use Rattle.std.proofs.Common.{◌≡◌, ◌≢◌, ℕ, zero, suc, ◌+◌, ◌-◌, ◌*◌, ◌^◌, ◌<◌, ◌≤◌, Bool, true, false, not, ◌&&◌, ◌||◌, List, [], ◌∷◌, Option, Some, None, length, get_or, refl, sym, ◌∙◌, ap, arith, ℤ, pos, ◌+ℤ◌, ◌-ℤ◌, ◌*ℤ◌, ⊎_elim}
use Rattle.std.specs.Prelude.{◌==◌, neg_ℤ, unsigned_abs}
use Rattle.std.specs.Ordering.{int_eq}
use Rattle.std.proofs.Math.IntN.{*ℤ-zero}
use Rattle.std.proofs.lemmas.Bool.{and_from, and_parts, cases_eq, cases_lt, cond-true, eq-eqb, eqb-true, false_from_ne_true, false≢true, ne_eqb, or_right}
use Rattle.std.proofs.lemmas.Bool.Decides.{Decides-int_eq}
use Rattle.std.proofs.lemmas.Int.{ints, unsigned_abs-mul}
use Rattle.std.proofs.lemmas.Nat.{mul-le}
use Rattle.semantics.specs.declared.line.Line.{Line}
use Rattle.semantics.specs.Points.{rising_times}
use Rattle.semantics.specs.Deck.{DeckValue, driver}
use Rattle.semantics.specs.Source.{pair_at, signed, slope_at}
use Rattle.semantics.specs.Valid.{is_source}
use Rattle.semantics.specs.Wave.{goes_on}
use Rattle.semantics.proofs.Limits.{neg_small, pair_between, slope_small}
use Rattle.node_ramps.specs.Lines.{InBounds}
use Rattle.circuit_model.specs.Drive.{course, drive_of, signed_line, IsNextTurn, StaysTo}
use Rattle.circuit_model.specs.Points.{stretch_at, time_at}
use Rattle.circuit_model.proofs.Slopes.{follows_at, gained, one_more}
use Rattle.circuit_model.proofs.Sources.{IsLimited, in_order, none, pair_before, pair_inside, pair_past, rising_two, slope_before}

-- what a source gains in a tick, and its denominator
abbrev pub gait : List (ℕ × ℤ) → ℕ → ℤ × ℕ
gait ps t = (slope_at ps t, (pair_at ps t).den)

-- a tick has passed so many points
pub record HasPassed (ps : List (ℕ × ℤ)) (t passed : ℕ) : Type 0 where
  pub bound : passed ≤ length ps
  pub passed_all : (i : ℕ) → i < passed → time_at ps i ≤ t
  pub ahead : (i : ℕ) → passed ≤ i → i < length ps → t < time_at ps i

-- ---- by the number of points that are passed

pub stretch_inside : (ps : List (ℕ × ℤ)) (i : ℕ) → suc i ≢ length ps → stretch_at ps (suc i) ≡ ((get_or ps (suc i) none).1 -ℤ (get_or ps i none).1, time_at ps (suc i) - time_at ps i)
unfolding stretch_at
stretch_inside ps i apart =
    let before : suc i - 1 ≡ i = omega arith in
    let some : suc i ≢ 0 = omega arith in
    rw (ne_eqb (suc i) 0 some, ne_eqb (suc i) (length ps) apart, before) refl

pub stretch_last : (ps : List (ℕ × ℤ)) (k : ℕ) → k ≡ length ps → stretch_at ps k ≡ (pos 0, 1)
unfolding stretch_at
stretch_last ps k last =
    let level : ℤ × ℕ = (pos 0, 1) in
    cond-true ((k == 0) || (k == length ps)) level ((get_or ps k none).1 -ℤ (get_or ps (k - 1) none).1, time_at ps k - time_at ps (k - 1)) (or_right _ _ (eq-eqb k (length ps) last))

pub stretch_first : (ps : List (ℕ × ℤ)) → stretch_at ps 0 ≡ (pos 0, 1)
unfolding stretch_at
stretch_first ps = refl

pub gait_is : (ps : List (ℕ × ℤ)) (t passed : ℕ) → IsLimited ps → HasPassed ps t passed → gait ps t ≡ stretch_at ps passed
gait_is ps t zero l at =
    let before : t < time_at ps 0 = at.ahead 0 (omega arith) l.some in
    (λ i. (slope_before ps t l.some before i, (pair_before ps t l.some before i).den)) ∙ sym (stretch_first ps)
gait_is ps t (suc i) l at = ⊎_elim
    (λ (last : suc i ≡ length ps).
    let place : length ps - 1 ≡ i = omega arith in
    let past : time_at ps (length ps - 1) ≤ t = rw place (at.passed_all i (omega arith)) in
    let is = pair_past ps t l.some l.rising past in
    (λ j. (is.1 j, (is.0 j).den)) ∙ sym (stretch_last ps (suc i) last))
    (λ (apart : suc i ≢ length ps).
    let inside : i + 1 < length ps = omega (arith, apart, at.bound) in
    let one : i + 1 ≡ suc i = omega arith in
    let soon : t < time_at ps (i + 1) = rw one (at.ahead (suc i) (omega arith) (omega (arith, inside))) in
    let is = pair_inside ps t i l.rising inside (at.passed_all i (omega arith)) soon in
    (λ j. (is.1 j, (is.0 j).den)) ∙ (rw one (sym (stretch_inside ps i apart))))
    (cases_eq (suc i) (length ps))

-- ---- straight on

no_time : (z x : ℤ) → z ≡ z +ℤ (x *ℤ pos 0)
no_time z x = omega (arith, ints, *ℤ-zero x)

longer : (z x : ℤ) (k : ℕ) → (z +ℤ (x *ℤ pos k)) +ℤ x ≡ z +ℤ (x *ℤ pos (suc k))
longer z x k = omega (arith, ints, one_more x k)

-- where slope and denominator stay, the numerator gains the slope each tick
num_after : (ps : List (ℕ × ℤ)) (t k : ℕ) → rising_times ps ≡ true → ((j : ℕ) → j ≤ k → gait ps (t + j) ≡ gait ps t) → (pair_at ps (t + k)).num ≡ (pair_at ps t).num +ℤ (slope_at ps t *ℤ pos k)
num_after ps t zero up same =
    let here : t + 0 ≡ t = omega arith in
    ap (λ u. (pair_at ps u).num) here ∙ no_time (pair_at ps t).num (slope_at ps t)
num_after ps t (suc k) up same =
    let before = num_after ps t k up (λ j below. same j (omega arith)) in
    let next : t + suc k ≡ suc (t + k) = omega arith in
    let now = same k (omega arith) in
    let then : gait ps (suc (t + k)) ≡ gait ps t = ap (gait ps) (sym next) ∙ same (suc k) (omega arith) in
    let dens : (pair_at ps (suc (t + k))).den ≡ (pair_at ps (t + k)).den = ap (λ (g : ℤ × ℕ). g.1) (then ∙ sym now) in
    ap (λ u. (pair_at ps u).num) next
    ∙ gained (pair_at ps (t + k)) (slope_at ps (t + k)) (pair_at ps (suc (t + k))) (follows_at ps (t + k) up) dens
    ∙ (λ i. before i +ℤ (now i).0)
    ∙ longer (pair_at ps t).num (slope_at ps t) k

pub stays : (ps : List (ℕ × ℤ)) (t s : ℕ) → rising_times ps ≡ true → t ≤ s → ((u : ℕ) → t ≤ u → u ≤ s → gait ps u ≡ gait ps t) → StaysTo (course ps) t s
unfolding course
stays ps t s up after same =
    let there : t + (s - t) ≡ s = omega arith in
    let num : (pair_at ps s).num ≡ (pair_at ps t).num +ℤ (slope_at ps t *ℤ pos (s - t)) =
    ap (λ u. (pair_at ps u).num) (sym there) ∙ num_after ps t (s - t) up (λ j below. same (t + j) (omega arith) (omega arith)) in
    let one = same s after (omega arith) in
    (λ i. record { start = s; num = num i; rate = (one i).0; den = (one i).1 })

-- ---- the search

-- up to before a point, or for ever behind the last, the gait is that of the tick
abbrev pub GoesOn : List (ℕ × ℤ) → ℕ → ℕ → Type 0
GoesOn ps t place = (s : ℕ) → t ≤ s → (place < length ps → s < time_at ps place) → gait ps s ≡ gait ps t

-- the points from this place on are ahead of a tick before it
later_points : (ps : List (ℕ × ℤ)) (place s i : ℕ) → rising_times ps ≡ true → (place < length ps → s < time_at ps place) → place ≤ i → i < length ps → s < time_at ps i
later_points ps place s i up ahead from inside =
    let first : s < time_at ps place = ahead (omega arith) in
    let order : time_at ps place ≤ time_at ps i = in_order ps up place i none from inside in
    omega (arith, first, order)

pub goes_first : (ps : List (ℕ × ℤ)) (t passed : ℕ) → IsLimited ps → HasPassed ps t passed → GoesOn ps t passed
goes_first ps t passed l at = λ s after before.
    gait_is ps s passed l (record { bound = at.bound; passed_all = λ i below. omega (arith, at.passed_all i below, after); ahead = λ i from inside. later_points ps passed s i l.rising before from inside })
    ∙ sym (gait_is ps t passed l at)

-- behind a point at which the next stretch has the gait of the tick it goes on to the next point
pub goes_next : (ps : List (ℕ × ℤ)) (t place : ℕ) → IsLimited ps → place < length ps → stretch_at ps (place + 1) ≡ gait ps t → GoesOn ps t place → GoesOn ps t (place + 1)
goes_next ps t place l inside same before = λ s after ahead. ⊎_elim
    (λ (early : s < time_at ps place). before s after (λ _. early))
    (λ (late : time_at ps place ≤ s). gait_is ps s (place + 1) l (passed s late ahead) ∙ same)
    (cases_lt s (time_at ps place))
  where
    passed : (s : ℕ) → time_at ps place ≤ s → (place + 1 < length ps → s < time_at ps (place + 1)) → HasPassed ps s (place + 1)
    passed s late ahead = record {
      bound = omega arith;
      passed_all = λ i below. let order : time_at ps i ≤ time_at ps place = in_order ps l.rising i place none (omega arith) inside in omega (arith, order, late);
      ahead = λ i from within. later_points ps (place + 1) s i l.rising ahead from within;
    }

-- the ticks of points rise
rising_on : (ps : List (ℕ × ℤ)) (i j : ℕ) → rising_times ps ≡ true → i < j → j < length ps → time_at ps i < time_at ps j
rising_on [] i j up below inside = absurd (omega arith)
rising_on (p ∷ []) i j up below inside = absurd (omega arith)
rising_on (p ∷ q ∷ ps) i zero up below inside = absurd (omega arith)
rising_on (p ∷ q ∷ ps) zero (suc j) up below inside =
    let two = rising_two p q ps up in
    let order : q.0 ≤ time_at (q ∷ ps) j = in_order (q ∷ ps) two.1 0 j none (omega arith) (omega arith) in
    omega (arith, two.0, order)
rising_on (p ∷ q ∷ ps) (suc i) (suc j) up below inside = rising_on (q ∷ ps) i j (rising_two p q ps up).1 (omega arith) (omega arith)

-- at the point itself the gait is that of the next stretch
pub gait_there : (ps : List (ℕ × ℤ)) (place : ℕ) → IsLimited ps → place < length ps → gait ps (time_at ps place) ≡ stretch_at ps (place + 1)
gait_there ps place l inside = gait_is ps (time_at ps place) (place + 1) l (record {
  bound = omega arith;
  passed_all = λ i below. in_order ps l.rising i place none (omega arith) inside;
  ahead = λ i from within. rising_on ps place i l.rising (omega arith) within;
})

-- what a comparison of two of them says
negated : (b : Bool) → not b ≡ false → b ≡ true
negated true h = refl
negated false h = absurd (cc)

pub pair_same : (a b : ℤ × ℕ) (r : Bool) → r ≡ not (int_eq a.0 b.0 && (a.1 == b.1)) → r ≡ false → a ≡ b
pair_same a b r is off =
    let both = and_parts (int_eq a.0 b.0) (a.1 == b.1) (negated (int_eq a.0 b.0 && (a.1 == b.1)) (sym is ∙ off)) in
    let rates : a.0 ≡ b.0 = (Decides-int_eq a.0 b.0).0 both.0 in
    let dens : a.1 ≡ b.1 = eqb-true a.1 b.1 both.1 in
    (λ i. (rates i, dens i))

pub pair_apart : (a b : ℤ × ℕ) (r : Bool) → r ≡ not (int_eq a.0 b.0 && (a.1 == b.1)) → r ≡ true → a ≡ b → ⊥
pair_apart a b r is on same =
    let rates : int_eq a.0 b.0 ≡ true = (Decides-int_eq a.0 b.0).1 (ap (λ (p : ℤ × ℕ). p.0) same) in
    let dens : (a.1 == b.1) ≡ true = eq-eqb a.1 b.1 (ap (λ (p : ℤ × ℕ). p.1) same) in
    let both : (int_eq a.0 b.0 && (a.1 == b.1)) ≡ true = and_from _ _ rates dens in
    false≢true (ap not (sym both) ∙ sym is ∙ on)

-- where the gaits differ the line turns
pub turns_there : (ps : List (ℕ × ℤ)) (t next : ℕ) → (gait ps next ≡ gait ps t → ⊥) → goes_on (course ps t) (course ps next) ≡ false
unfolding course
turns_there ps t next apart = false_from_ne_true (goes_on (course ps t) (course ps next)) (λ on.
    let both = and_parts (int_eq (slope_at ps next) (slope_at ps t)) ((pair_at ps next).den == (pair_at ps t).den) on in
    let rates : slope_at ps next ≡ slope_at ps t = (Decides-int_eq (slope_at ps next) (slope_at ps t)).0 both.0 in
    let dens : (pair_at ps next).den ≡ (pair_at ps t).den = eqb-true (pair_at ps next).den (pair_at ps t).den both.1 in
    apart (λ i. (rates i, dens i)))

-- ---- the node that a source drives

neg_num : (z x : ℤ) (k : ℕ) → neg_ℤ (z +ℤ (x *ℤ pos k)) ≡ neg_ℤ z +ℤ (neg_ℤ x *ℤ pos k)
neg_num z x zero = omega (arith, ints, *ℤ-zero x, *ℤ-zero (neg_ℤ x))
neg_num z x (suc k) = omega (arith, ints, one_more x k, one_more (neg_ℤ x) k, neg_num z x k)

-- a line whose sign is turned goes on as the line does
signed_stays : (line : ℕ → Line) (second : Bool) (t s : ℕ) → StaysTo line t s → StaysTo (λ u. signed_line second (line u)) t s
signed_stays line false t s is = is
signed_stays line true t s is =
    let num : neg_ℤ (line s).num ≡ neg_ℤ (line t).num +ℤ (neg_ℤ (line t).rate *ℤ pos (s - (line t).start)) =
    ap (λ (l : Line). neg_ℤ l.num) is ∙ neg_num (line t).num (line t).rate (s - (line t).start) in
    (λ i. record { start = (is i).start; num = num i; rate = neg_ℤ (is i).rate; den = (is i).den })

signed_same : (second : Bool) (x y : ℤ) → signed second x ≡ signed second y → x ≡ y
signed_same false x y is = is
signed_same true x y is = omega (arith, ints, is)

signed_turns : (line : ℕ → Line) (second : Bool) (t next : ℕ) → goes_on (line t) (line next) ≡ false → goes_on (signed_line second (line t)) (signed_line second (line next)) ≡ false
signed_turns line second t next off = false_from_ne_true (goes_on (signed_line second (line t)) (signed_line second (line next))) (λ on.
    let both = and_parts (int_eq (signed second (line next).rate) (signed second (line t).rate)) ((line next).den == (line t).den) on in
    let rates : (line next).rate ≡ (line t).rate = signed_same second (line next).rate (line t).rate ((Decides-int_eq (signed second (line next).rate) (signed second (line t).rate)).0 both.0) in
    let same : int_eq (line next).rate (line t).rate ≡ true = (Decides-int_eq (line next).rate (line t).rate).1 rates in
    false≢true (sym off ∙ and_from _ _ same both.1))

pub drive_is : (d : DeckValue) (n : List ℕ) (t : ℕ) (s : List (ℕ × ℤ) × Bool) → driver d n ≡ Some s → drive_of d n t ≡ signed_line s.1 (course s.0 t)
unfolding drive_of
drive_is d n t s is = rw (is, drive_of) refl

-- a driven node turns where its source does
pub drive_turns : (d : DeckValue) (n : List ℕ) (s : List (ℕ × ℤ) × Bool) (stop t : ℕ) (next : Option ℕ) → driver d n ≡ Some s → IsNextTurn (course s.0) stop t next → IsNextTurn (drive_of d n) stop t next
drive_turns d n s stop t None is never = λ u after up_to. moved u (never u after up_to)
  where
    moved : (u : ℕ) → StaysTo (course s.0) t u → StaysTo (drive_of d n) t u
    moved u on = rw (drive_is d n u s is, drive_is d n t s is) (signed_stays (course s.0) s.1 t u on)
drive_turns d n s stop t (Some next) is turn = record {
  later = turn.later;
  up_to = turn.up_to;
  stays = λ u after before. moved u (turn.stays u after before);
  turns = rw (drive_is d n t s is, drive_is d n next s is) (signed_turns (course s.0) s.1 t next turn.turns);
}
  where
    moved : (u : ℕ) → StaysTo (course s.0) t u → StaysTo (drive_of d n) t u
    moved u on = rw (drive_is d n u s is, drive_is d n t s is) (signed_stays (course s.0) s.1 t u on)

-- its line is in bounds as long as a run may last
pub drive_bounds : (ps : List (ℕ × ℤ)) (second : Bool) (t later : ℕ) → is_source ps ≡ true → t ≤ later → later ≤ 10 ^ 10 → InBounds (signed_line second (course ps t)) later
unfolding course
drive_bounds ps second t later good after short =
    let v = pair_between ps t good in
    let slope = slope_small ps t good in
    let first : unsigned_abs (signed second (pair_at ps t).num) ≤ 10 ^ 19 = sized second (pair_at ps t).num (10 ^ 19) v.0 in
    let rate : unsigned_abs (signed second (slope_at ps t)) ≤ 2 * 10 ^ 9 = sized second (slope_at ps t) (2 * 10 ^ 9) slope in
    let gain : unsigned_abs (signed second (slope_at ps t) *ℤ pos (later - t)) ≤ 2 * 10 ^ 19 =
    rw (unsigned_abs-mul (signed second (slope_at ps t)) (pos (later - t))) (omega (arith, mul-le (unsigned_abs (signed second (slope_at ps t))) (later - t) (2 * 10 ^ 9) (10 ^ 10) rate (omega arith))) in
    record {
      started = after;
      den_from = v.1;
      den_to = omega (arith, v.2);
      num_first = omega (arith, first);
      num_last = omega (arith, ints, first, gain);
      rate = omega (arith, rate);
    }
  where
    sized : (b : Bool) (z : ℤ) (n : ℕ) → unsigned_abs z ≤ n → unsigned_abs (signed b z) ≤ n
    sized true z n h = neg_small z n h
    sized false z n h = h
