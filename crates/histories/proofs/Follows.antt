-- How far a line follows the lines of a track.
use Rattle.std.specs.Prelude.{◌⊎◌}
use Rattle.std.proofs.Common.{⊎_elim, inl, inr, ◌≡◌, ◌≢◌, ℕ, zero, suc, ◌+◌, ◌-◌, ◌<◌, ◌≤◌, List, refl, sym, ap, ◌∙◌, arith, ℤ, pos, negsuc, ◌+ℤ◌, ◌*ℤ◌}
use Rattle.std.proofs.lemmas.Int.{ints}
use Rattle.semantics.specs.declared.fraction.Fraction.{Fraction}
use Rattle.semantics.specs.declared.line.Line.{Line}
use Rattle.node_ramps.specs.Lines.{num_at, voltage}
use Rattle.node_ramps.proofs.Sums.{same_line}
use Rattle.histories.specs.Track.{line_of, pair}
use Rattle.histories.specs.Place.{IsPlace}
use Rattle.histories.proofs.Places.{Rising, pair_at_place}

pub fractions : (x y : ℤ) (m n : ℕ) → x ≡ y → m ≡ n → ◌≡◌ {A = Fraction} (record { num = x; den = m }) (record { num = y; den = n })
fractions x y m n e f = rw (e, f) refl

pub none_gained : (x r : ℤ) (n : ℕ) → n ≡ 0 → x ≡ x +ℤ (r *ℤ pos n)
none_gained x (pos r) n e = rw e (omega (arith, ints))
none_gained x (negsuc r) n e = rw e (omega (arith, ints))

-- two lines with one rate that meet stay together
pub together : (a b : Line) (t s : ℕ) → voltage a t ≡ voltage b t → a.rate ≡ b.rate → a.start ≤ t → b.start ≤ t → t ≤ s → voltage a s ≡ voltage b s
together a b t s meet rates ha hb h =
    let num : num_at a t ≡ num_at b t = ap (λ (v : Fraction). v.num) meet in
    let den : a.den ≡ b.den = ap (λ (v : Fraction). v.den) meet in
    let same : num_at a s ≡ num_at b s = sym (same_line a t s a.rate refl ha h) ∙ ap (λ z. z +ℤ (a.rate *ℤ pos (s - t))) num ∙ ap (λ r. num_at b t +ℤ (r *ℤ pos (s - t))) rates ∙ same_line b t s b.rate refl hb h in
    fractions (num_at a s) (num_at b s) a.den b.den same den

one : (r : ℤ) (n : ℕ) → n ≡ 1 → r *ℤ pos n ≡ r
one (pos r) n e = rw e (omega (arith, ints))
one (negsuc r) n e = rw e (omega (arith, ints))

pub gains : (l : Line) (t : ℕ) → l.start ≤ t → num_at l (t + 1) ≡ num_at l t +ℤ l.rate
gains l t h = sym (same_line l t (t + 1) l.rate refl h (omega arith)) ∙ ap (λ z. num_at l t +ℤ z) (one l.rate ((t + 1) - t) (omega arith))

-- and with other rates they part at once
pub apart : (a b : Line) (t : ℕ) → voltage a t ≡ voltage b t → a.rate ≢ b.rate → a.start ≤ t → b.start ≤ t → voltage a (t + 1) ≢ voltage b (t + 1)
apart a b t meet rates ha hb e =
    let num : num_at a t ≡ num_at b t = ap (λ (v : Fraction). v.num) meet in
    let next : num_at a (t + 1) ≡ num_at b (t + 1) = ap (λ (v : Fraction). v.num) e in
    let x : num_at a (t + 1) ≡ num_at a t +ℤ a.rate = gains a t ha in
    let y : num_at b (t + 1) ≡ num_at b t +ℤ b.rate = gains b t hb in
    rates (cancel (num_at a t) a.rate b.rate (sym x ∙ next ∙ y ∙ ap (λ z. z +ℤ b.rate) (sym num)))
  where
    cancel : (z p q : ℤ) → z +ℤ p ≡ z +ℤ q → p ≡ q
    cancel z p q e = omega (arith, ints, e)

pub le_or_lt : (a b : ℕ) → (a ≤ b) ⊎ (b < a)
le_or_lt zero b = inl (omega arith)
le_or_lt (suc a) zero = inr (omega arith)
le_or_lt (suc a) (suc b) = ⊎_elim (λ (h : a ≤ b). inl (omega (arith, h))) (λ (h : b < a). inr (omega (arith, h))) (le_or_lt a b)

-- a line that meets the line in force, with the same rate, has its pairs as long as that is in force
pub has_more : (ls : List Line) (l : Line) (k at last : ℕ) → Rising ls → IsPlace ls at k → ((s : ℕ) → at ≤ s → s ≤ last → IsPlace ls s k) → l.start ≤ at → l.rate ≡ (line_of ls k).rate →
    ((s : ℕ) → l.start ≤ s → s ≤ at → pair ls s ≡ voltage l s) → (s : ℕ) → l.start ≤ s → s ≤ last → pair ls s ≡ voltage l s
has_more ls l k at last track p stays begun rates has = λ s from upto. ⊎_elim
    (λ (h : s ≤ at). has s from h)
    (λ (h : at < s).
    let meet : voltage l at ≡ voltage (line_of ls k) at = sym (has at begun (omega arith)) ∙ pair_at_place ls at k track p in
    pair_at_place ls s k track (stays s (omega (arith, h)) upto) ∙ sym (together l (line_of ls k) at s meet rates begun p.started (omega (arith, h))))
    (le_or_lt s at)

-- and with another rate it leaves them at the next tick
pub leaves : (ls : List Line) (l : Line) (k at : ℕ) → Rising ls → IsPlace ls at k → IsPlace ls (at + 1) k → l.start ≤ at → l.rate ≢ (line_of ls k).rate → pair ls at ≡ voltage l at → pair ls (at + 1) ≢ voltage l (at + 1)
leaves ls l k at track p next begun rates here e =
    apart l (line_of ls k) at (sym here ∙ pair_at_place ls at k track p) rates begun p.started (sym e ∙ pair_at_place ls (at + 1) k track next)
