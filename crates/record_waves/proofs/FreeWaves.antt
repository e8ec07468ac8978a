-- The lines through a free node's voltages of the run are its wave.
use Rattle.std.proofs.Common.{◌≡◌, ℕ, zero, suc, ◌+◌, ◌^◌, ◌<◌, ◌≤◌, max, false, ◌&&◌, nat_le, List, None, ℤ, pos, ◌+ℤ◌, ◌-ℤ◌, unsigned_abs, refl, sym, ap, ◌∙◌, arith}
use Rattle.std.specs.Prelude.{◌==◌}
use Rattle.std.proofs.lemmas.Bool.{and_from, cond-true, eq-eqb, le-leb, lt-ltb}
use Rattle.std.proofs.lemmas.Int.{ints}
use borrow.Author.Differences.{same_in}
use Rattle.semantics.specs.declared.fraction.Fraction.{Fraction}
use Rattle.semantics.specs.Ground.{is_ground}
use Rattle.semantics.specs.Deck.{DeckValue, driver}
use Rattle.semantics.specs.Run.{run}
use Rattle.semantics.specs.Wave.{begins, entries_below, entry, rate, wave}
use Rattle.semantics.proofs.Limits.{Held, Limits, node_current_small}
use Rattle.semantics.proofs.Steps.{moved, rate_free, run_next_free}
use Rattle.histories.specs.Pairs as pairs

-- a free node of the deck whose pairs are its voltages in the run
pub record IsRunOf (d : DeckValue) (n : List ℕ) (p : ℕ → Fraction) (stop : ℕ) : Type 0 where
  pub limits : Limits d
  pub held : Held d n
  pub real : is_ground n ≡ false
  pub free : driver d n ≡ None
  pub run : (t : ℕ) → t ≤ stop → p t ≡ run d t n

added : (a r : ℤ) → (a +ℤ r) -ℤ a ≡ r
added a r = same_in ((a +ℤ r) -ℤ a) r (omega (arith, ints))

rate_small : (d : DeckValue) (n : List ℕ) (p : ℕ → Fraction) (stop t : ℕ) → IsRunOf d n p stop → unsigned_abs (rate d t n) ≤ 10 ^ 15
rate_small d n p stop t is = rw (rate_free d t n is.free) (omega (arith, node_current_small d (run d t) n is.limits, is.held.ends))

moved_step : (v : Fraction) (r : ℤ) → unsigned_abs r ≤ 10 ^ 15 → pairs.step_between v (moved v r) ≡ r
moved_step v r small =
    cond-true ((v.den == v.den) && nat_le (unsigned_abs ((v.num +ℤ r) -ℤ v.num)) (10 ^ 15)) ((v.num +ℤ r) -ℤ v.num) (pos 0)
    (and_from (v.den == v.den) _ (eq-eqb v.den v.den refl) (le-leb (unsigned_abs ((v.num +ℤ r) -ℤ v.num)) (10 ^ 15) (rw (added v.num r) small)))
    ∙ added v.num r

next_is : (d : DeckValue) (n : List ℕ) (p : ℕ → Fraction) (stop t : ℕ) → IsRunOf d n p stop → t < stop → p (t + 1) ≡ moved (p t) (rate d t n)
next_is d n p stop t is h =
    is.run (t + 1) (omega arith) ∙ ap (λ k. run d k n) (omega arith) ∙ run_next_free d t n is.real is.free ∙ ap (λ v. moved v (rate d t n)) (sym (is.run t (omega arith)))

line_is : (d : DeckValue) (n : List ℕ) (p : ℕ → Fraction) (stop t : ℕ) → IsRunOf d n p stop → t < stop → pairs.line_at p stop t ≡ entry d t n
unfolding pairs.line_at pairs.rate_at entry
line_is d n p stop t is h =
    let step : pairs.step_between (p t) (p (t + 1)) ≡ rate d t n = ap (pairs.step_between (p t)) (next_is d n p stop t is h) ∙ moved_step (p t) (rate d t n) (rate_small d n p stop t is) in
    rw (lt-ltb t stop h, step, is.run t (omega arith)) refl

begins_is : (d : DeckValue) (n : List ℕ) (p : ℕ → Fraction) (stop t : ℕ) → IsRunOf d n p stop → t < stop → pairs.begins p stop t ≡ begins d t n
unfolding pairs.begins begins
begins_is d n p stop zero is h = refl
begins_is d n p stop (suc t) is h = rw (line_is d n p stop t is (omega arith), line_is d n p stop (suc t) is h) refl

lines_are : (d : DeckValue) (n : List ℕ) (p : ℕ → Fraction) (stop t : ℕ) → IsRunOf d n p stop → t ≤ stop → pairs.lines_below p stop t ≡ entries_below d t n
unfolding pairs.lines_below entries_below
lines_are d n p stop zero is h = refl
lines_are d n p stop (suc t) is h =
    rw (lines_are d n p stop t is (omega arith), begins_is d n p stop t is (omega arith), line_is d n p stop t is (omega arith)) refl

pub free_wave : (d : DeckValue) (n : List ℕ) (p : ℕ → Fraction) → IsRunOf d n p d.stop → 0 < d.stop → pairs.wave_of p d.stop ≡ wave d n
unfolding pairs.wave_of wave
free_wave d n p is some =
    let whole : max 1 d.stop ≡ d.stop = omega arith in
    rw (whole) (lines_are d n p d.stop d.stop is (omega arith))

-- one denominator, and no step that a line could not have
pub free_smooth : (d : DeckValue) (n : List ℕ) (p : ℕ → Fraction) → IsRunOf d n p d.stop → pairs.IsSmooth p d.stop
free_smooth d n p is = record {
  den = λ t h. rw (next_is d n p d.stop t is h) refl;
  step = λ t h. rw (next_is d n p d.stop t is h, added (p t).num (rate d t n)) (rate_small d n p d.stop t is);
}
