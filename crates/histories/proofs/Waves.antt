-- From a tick to where its line ends no line begins, and there one does.
use Rattle.std.proofs.Common.{◌≡◌, ◌≢◌, ℕ, zero, suc, ◌+◌, ◌-◌, ◌^◌, ◌<◌, ◌≤◌, true, false, [], ◌∷◌, ◌++◌, refl, sym, ap, ◌∙◌, arith, ℤ, pos, ◌+ℤ◌, ◌-ℤ◌, unsigned_abs, ⊎_elim}
use Rattle.std.specs.Prelude.{◌==◌, max}
use Rattle.std.specs.Ordering.{int_eq}
use Rattle.std.proofs.lemmas.Int.{ints}
use Rattle.std.proofs.lemmas.List.{append-nil}
use Rattle.std.proofs.lemmas.Bool.{cases_eq, and_from, and_parts, eq-eqb, le-leb, lt-ltb, le-ltb, false_from_ne_true}
use Rattle.std.proofs.lemmas.Bool.Decides.{Decides-int_eq}
use Rattle.semantics.specs.declared.fraction.Fraction.{Fraction}
use Rattle.semantics.specs.declared.line.Line.{Line}
use Rattle.semantics.specs.Wave.{goes_on}
use Rattle.node_ramps.specs.Lines.{num_at, voltage}
use Rattle.histories.specs.Track.{IsBounded}
use Rattle.histories.specs.Pairs.{IsEnd, IsJoined, IsSmooth, begins, line_at, lines_below, rate_at, step_between, wave_of}
use Rattle.histories.proofs.Follows.{fractions, gains, none_gained}

-- a step that can be
pub step_is : (a b : Fraction) → b.den ≡ a.den → unsigned_abs (b.num -ℤ a.num) ≤ 10 ^ 15 → step_between a b ≡ b.num -ℤ a.num
step_is a b den small = rw (eq-eqb a.den b.den (sym den), le-leb (unsigned_abs (b.num -ℤ a.num)) (10 ^ 15) small) refl

pub difference : (x y r : ℤ) → y ≡ x +ℤ r → y -ℤ x ≡ r
difference x y r e = omega (arith, ints, e)

pub rate_below : (p : ℕ → Fraction) (stop t : ℕ) → t < stop → rate_at p stop t ≡ step_between (p t) (p (t + 1))
unfolding rate_at
rate_below p stop t h = rw (lt-ltb t stop h) refl

pub rate_stop : (p : ℕ → Fraction) (stop t : ℕ) → stop ≤ t → rate_at p stop t ≡ pos 0
unfolding rate_at
rate_stop p stop t h = rw (le-ltb t stop h) refl

line_rate : (p : ℕ → Fraction) (stop t : ℕ) → (line_at p stop t).rate ≡ rate_at p stop t
unfolding line_at
line_rate p stop t = refl

-- where a line has the pairs of a tick and of the next, the line of the tick has its rate
rate_within : (p : ℕ → Fraction) (stop s : ℕ) (l : Line) → IsBounded l → s < stop → l.start ≤ s → p s ≡ voltage l s → p (s + 1) ≡ voltage l (s + 1) → (line_at p stop s).rate ≡ l.rate
rate_within p stop s l b below h here next =
    let gain : num_at l (s + 1) -ℤ num_at l s ≡ l.rate = difference (num_at l s) (num_at l (s + 1)) l.rate (gains l s h) in
    line_rate p stop s ∙ rate_below p stop s below ∙ rw (here, next, step_is (voltage l s) (voltage l (s + 1)) refl (rw gain b.rate)) gain

den_at : (p : ℕ → Fraction) (stop s : ℕ) → (line_at p stop s).den ≡ (p s).den
unfolding line_at
den_at p stop s = refl

smooth_rate : (p : ℕ → Fraction) (stop s : ℕ) → IsSmooth p stop → s < stop → (line_at p stop s).rate ≡ (p (s + 1)).num -ℤ (p s).num
smooth_rate p stop s smooth h = line_rate p stop s ∙ rate_below p stop s h ∙ step_is (p s) (p (s + 1)) (smooth.den s h) (smooth.step s h)

on : (a b : Line) → b.rate ≡ a.rate → b.den ≡ a.den → goes_on a b ≡ true
on a b rate den = and_from (int_eq b.rate a.rate) (b.den == a.den) ((Decides-int_eq b.rate a.rate).1 rate) (eq-eqb b.den a.den den)

next_is : (s : ℕ) → s + 1 ≡ suc s
next_is s = omega arith

-- inside none begins
none_inside : (p : ℕ → Fraction) (stop u s : ℕ) (l : Line) → IsBounded l → IsEnd p stop l u → l.start ≤ s → s + 1 < u → begins p stop (suc s) ≡ false
unfolding begins
none_inside p stop u s l b end h k =
    let here = end.has s h (omega (arith, k)) in
    let next = end.has (s + 1) (omega (arith, h)) (omega (arith, k)) in
    let after = end.has ((s + 1) + 1) (omega (arith, h)) (omega (arith, k)) in
    let one : (line_at p stop s).rate ≡ l.rate = rate_within p stop s l b (omega (arith, k, end.by_stop)) h here next in
    let two : (line_at p stop (s + 1)).rate ≡ l.rate = rate_within p stop (s + 1) l b (omega (arith, k, end.by_stop)) (omega (arith, h)) next after in
    let dens : (line_at p stop (s + 1)).den ≡ (line_at p stop s).den = den_at p stop (s + 1) ∙ ap (λ (v : Fraction). v.den) next ∙ sym (ap (λ (v : Fraction). v.den) here) ∙ sym (den_at p stop s) in
    let goes : goes_on (line_at p stop s) (line_at p stop (s + 1)) ≡ true = on (line_at p stop s) (line_at p stop (s + 1)) (two ∙ sym one) dens in
    rw (rw (next_is s) at goes) refl

-- so the lines below any tick up to the end are those up to the first
covered : (p : ℕ → Fraction) (stop u t n : ℕ) (l : Line) → IsBounded l → IsEnd p stop l u → l.start ≤ t → t + suc n ≤ u → lines_below p stop (t + suc n) ≡ lines_below p stop (t + 1)
unfolding lines_below
covered p stop u t zero l b end h k = let same : t + suc zero ≡ t + 1 = omega arith in ap (λ m. lines_below p stop m) same
covered p stop u t (suc n) l b end h k =
    let last : t + suc (suc n) ≡ suc (suc (t + n)) = omega arith in
    let before : t + suc n ≡ suc (t + n) = omega arith in
    let none : begins p stop (suc (t + n)) ≡ false = none_inside p stop u (t + n) l b end (omega (arith, h)) (omega (arith, k)) in
    let same : lines_below p stop (suc (t + n)) ≡ lines_below p stop (t + 1) = ap (λ m. lines_below p stop m) (sym before) ∙ covered p stop u t n l b end h (omega (arith, k)) in
    rw (last, none) (append-nil (lines_below p stop (suc (t + n))) ∙ same)

-- ---- where the rate stays, the line goes on

adds : (x y z r : ℤ) → r ≡ y -ℤ x → z ≡ x +ℤ r → y ≡ z
adds x y z r e f = omega (arith, ints, e, f)

-- one step on
steps : (p : ℕ → Fraction) (u : ℕ) (l : Line) → l.start ≤ u → p u ≡ voltage l u → l.rate ≡ (p (u + 1)).num -ℤ (p u).num → (p (u + 1)).den ≡ (p u).den → p (u + 1) ≡ voltage l (u + 1)
steps p u l start here step den =
    let num : (p u).num ≡ num_at l u = ap (λ (v : Fraction). v.num) here in
    let gain : num_at l (u + 1) ≡ (p u).num +ℤ l.rate = gains l u start ∙ ap (λ z. z +ℤ l.rate) (sym num) in
    fractions (p (u + 1)).num (num_at l (u + 1)) (p (u + 1)).den l.den (adds (p u).num (p (u + 1)).num (num_at l (u + 1)) l.rate step gain) (den ∙ ap (λ (v : Fraction). v.den) here)

continues : (p : ℕ → Fraction) (stop u : ℕ) (l : Line) → IsSmooth p stop → u < stop → l.start ≤ u → p u ≡ voltage l u → (line_at p stop u).rate ≡ l.rate → p (u + 1) ≡ voltage l (u + 1)
continues p stop u l smooth h start here rate = steps p u l start here (sym rate ∙ smooth_rate p stop u smooth h) (smooth.den u h)

pub starts_there : (p : ℕ → Fraction) (stop t : ℕ) → p t ≡ voltage (line_at p stop t) t
unfolding line_at
starts_there p stop t = fractions (p t).num (num_at (line_at p stop t) t) (p t).den (p t).den (none_gained (p t).num (line_at p stop t).rate (t - t) (omega arith)) refl

pub line_starts : (p : ℕ → Fraction) (stop t : ℕ) (l : Line) → l ≡ line_at p stop t → p l.start ≡ voltage l l.start
unfolding line_at
line_starts p stop t l e = rw e (starts_there p stop t)

pub starts_at : (p : ℕ → Fraction) (stop t : ℕ) → (line_at p stop t).start ≡ t
unfolding line_at
starts_at p stop t = refl

-- the line goes on past its tick where it has the next pair
past_if : (p : ℕ → Fraction) (stop t u : ℕ) → IsEnd p stop (line_at p stop t) u → t < stop → p (t + 1) ≡ voltage (line_at p stop t) (t + 1) → t < u
past_if p stop t u end h next = ⊎_elim
    (λ (e : u ≡ t). absurd (rw e at (end.greatest (rw e h)) next))
    (λ (n : u ≢ t). let from = rw (starts_at p stop t) at end.from_start in omega (arith, from, n))
    (cases_eq u t)

-- and it has that where some line in its limits has both
pub goes_past : (p : ℕ → Fraction) (stop t u : ℕ) → IsEnd p stop (line_at p stop t) u → t < stop → IsJoined p t → t < u
goes_past p stop t u end h joined =
    let l : Line = joined.0 in
    let rate : (line_at p stop t).rate ≡ l.rate = rate_within p stop t l joined.1 h joined.2 joined.3 joined.4 in
    let gain : num_at l (t + 1) -ℤ num_at l t ≡ l.rate = difference (num_at l t) (num_at l (t + 1)) l.rate (gains l t joined.2) in
    let here : (p t).num ≡ num_at l t = ap (λ (v : Fraction). v.num) joined.3 in
    let next : (p (t + 1)).num ≡ num_at l (t + 1) = ap (λ (v : Fraction). v.num) joined.4 in
    let step : (line_at p stop t).rate ≡ (p (t + 1)).num -ℤ (p t).num = rate ∙ rw (here, next) (sym gain) in
    let dens : (p (t + 1)).den ≡ (p t).den = ap (λ (v : Fraction). v.den) joined.4 ∙ sym (ap (λ (v : Fraction). v.den) joined.3) in
    past_if p stop t u end h (steps p t (line_at p stop t) (rw (starts_at p stop t) (omega arith)) (starts_there p stop t) step dens)

pub progress : (p : ℕ → Fraction) (stop t u : ℕ) → IsSmooth p stop → t < stop → IsEnd p stop (line_at p stop t) u → t < u
progress p stop t u smooth h end = past_if p stop t u end h (continues p stop t (line_at p stop t) smooth h (rw (starts_at p stop t) (omega arith)) (starts_there p stop t) refl)

-- one line more
pub wave_more : (p : ℕ → Fraction) (stop t u : ℕ) → IsSmooth p stop → t < stop → IsBounded (line_at p stop t) → IsEnd p stop (line_at p stop t) u → begins p stop t ≡ true → t < u → lines_below p stop u ≡ lines_below p stop t ++ line_at p stop t ∷ []
unfolding lines_below line_at
wave_more p stop t u smooth h b end first more =
    let size : t + suc (u - (t + 1)) ≡ u = omega (arith, more) in
    let all : lines_below p stop (t + suc (u - (t + 1))) ≡ lines_below p stop (t + 1) = covered p stop u t (u - (t + 1)) (line_at p stop t) b end (omega arith) (omega (arith, more)) in
    let one : lines_below p stop (t + 1) ≡ lines_below p stop (suc t) = ap (λ m. lines_below p stop m) (next_is t) in
    ap (λ m. lines_below p stop m) (sym size) ∙ all ∙ one ∙ rw first refl

-- and at its end another begins
pub begins_next : (p : ℕ → Fraction) (stop t u : ℕ) → IsSmooth p stop → t < stop → IsBounded (line_at p stop t) → IsEnd p stop (line_at p stop t) u → t < u → u < stop → begins p stop u ≡ true
unfolding begins
begins_next p stop t zero smooth h b end more below = absurd (omega (arith, more))
begins_next p stop t (suc v) smooth h b end more below =
    let l : Line = line_at p stop t in
    let start : l.start ≤ v = rw (starts_at p stop t) (omega (arith, more)) in
    let here : p v ≡ voltage l v = end.has v start (omega arith) in
    let next : p (v + 1) ≡ voltage l (v + 1) = end.has (v + 1) (omega (arith, start)) (omega arith) in
    let at_end : p (suc v) ≡ voltage l (suc v) = end.has (suc v) (omega (arith, start)) (omega arith) in
    let one : (line_at p stop v).rate ≡ l.rate = rate_within p stop v l b (omega (arith, below)) start here next in
    let stops : goes_on (line_at p stop v) (line_at p stop (suc v)) ≡ false =
    false_from_ne_true (goes_on (line_at p stop v) (line_at p stop (suc v))) (λ goes.
    let parts = and_parts (int_eq (line_at p stop (suc v)).rate (line_at p stop v).rate) ((line_at p stop (suc v)).den == (line_at p stop v).den) goes in
    let rates : (line_at p stop (suc v)).rate ≡ l.rate = (Decides-int_eq (line_at p stop (suc v)).rate (line_at p stop v).rate).0 parts.0 ∙ one in
    end.greatest below (continues p stop (suc v) l smooth below (omega (arith, start)) at_end rates)) in
    rw stops refl

-- ---- the whole wave

pub wave_begun : (p : ℕ → Fraction) (stop : ℕ) → begins p stop 0 ≡ true
unfolding begins
wave_begun p stop = refl

pub wave_none : (p : ℕ → Fraction) (stop : ℕ) → [] ≡ lines_below p stop 0
unfolding lines_below
wave_none p stop = refl

pub wave_long : (p : ℕ → Fraction) (stop : ℕ) → 0 < stop → wave_of p stop ≡ lines_below p stop stop
unfolding wave_of
wave_long p stop h = let e : max 1 stop ≡ stop = omega (arith, h) in ap (λ m. lines_below p stop m) e

pub wave_short : (p : ℕ → Fraction) → wave_of p 0 ≡ line_at p 0 0 ∷ []
unfolding wave_of lines_below begins
wave_short p = refl
