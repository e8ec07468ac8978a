-- The lines of a driven node, one where its source turns, are its wave.
use Rattle.std.proofs.Common.{◌≡◌, ℕ, zero, suc, ◌+◌, ◌-◌, ◌<◌, ◌≤◌, max, Bool, true, false, List, [], ◌∷◌, ◌++◌, Some, ℤ, pos, ◌+ℤ◌, ◌*ℤ◌, inl, inr, refl, sym, ap, ◌∙◌, arith}
use Rattle.std.specs.Prelude.{◌==◌}
use Rattle.std.specs.Ordering.{int_eq}
use Rattle.std.proofs.lemmas.Bool.{and_from, cases_lt, eq-eqb}
use Rattle.std.proofs.lemmas.Cmp.{int_eq_equiv}
use Rattle.std.proofs.lemmas.Int.{ints}
use Rattle.std.proofs.lemmas.List.{append-nil}
use borrow.Author.Differences.{product_is, same_in}
use Rattle.semantics.specs.declared.line.Line.{Line}
use Rattle.semantics.specs.Ground.{is_ground}
use Rattle.semantics.specs.Deck.{DeckValue, driver}
use Rattle.semantics.specs.Wave.{begins, entries_below, entry, goes_on, wave}
use Rattle.semantics.proofs.Limits.{run_driven}
use Rattle.semantics.proofs.Steps.{rate_driven}
use Rattle.circuit_model.specs.Drive.{course, drive_of, signed_line, StaysTo, TurnsAt}

-- a node that this source drives
pub record IsDriven (d : DeckValue) (n : List ℕ) (s : List (ℕ × ℤ) × Bool) : Type 0 where
  pub real : is_ground n ≡ false
  pub driven : driver d n ≡ Some s

drive_is : (d : DeckValue) (n : List ℕ) (s : List (ℕ × ℤ) × Bool) (t : ℕ) → driver d n ≡ Some s → drive_of d n t ≡ signed_line s.1 (course s.0 t)
unfolding drive_of
drive_is d n s t driven = rw (driven, drive_of) refl

pub entry_is : (d : DeckValue) (n : List ℕ) (s : List (ℕ × ℤ) × Bool) (t : ℕ) → IsDriven d n s → entry d t n ≡ drive_of d n t
unfolding entry course
entry_is d n s t is = rw (run_driven d t n s is.real is.driven, rate_driven d t n s is.driven, drive_is d n s t is.driven) refl

same_goes : (a b : Line) → b.rate ≡ a.rate → b.den ≡ a.den → goes_on a b ≡ true
same_goes a b r e = rw (r, e) (and_from (int_eq a.rate a.rate) (a.den == a.den) (int_eq_equiv.refl a.rate) (eq-eqb a.den a.den refl))

stays_on : (line : ℕ → Line) (t s : ℕ) → StaysTo line t s → StaysTo line t (suc s) → goes_on (line s) (line (suc s)) ≡ true
stays_on line t s here next = same_goes (line s) (line (suc s)) (ap (λ (l : Line). l.rate) next ∙ sym (ap (λ (l : Line). l.rate) here)) (ap (λ (l : Line). l.den) next ∙ sym (ap (λ (l : Line). l.den) here))

none_begins : (d : DeckValue) (n : List ℕ) (s : List (ℕ × ℤ) × Bool) (t k : ℕ) → IsDriven d n s → StaysTo (drive_of d n) t k → StaysTo (drive_of d n) t (suc k) → begins d (suc k) n ≡ false
unfolding begins
none_begins d n s t k is here next = rw (entry_is d n s k is, entry_is d n s (suc k) is, stays_on (drive_of d n) t k here next) refl

unbegun : (d : DeckValue) (n : List ℕ) (k : ℕ) → begins d k n ≡ false → entries_below d (suc k) n ≡ entries_below d k n
unfolding entries_below
unbegun d n k e = rw (e) (append-nil (entries_below d k n))

-- while the line of a tick stays in force, no line begins
pub skipped : (d : DeckValue) (n : List ℕ) (s : List (ℕ × ℤ) × Bool) (t k : ℕ) → IsDriven d n s → ((j : ℕ) → t ≤ j → j ≤ t + k → StaysTo (drive_of d n) t j) → entries_below d (suc (t + k)) n ≡ entries_below d (suc t) n
skipped d n s t zero is stays = let same : t + 0 ≡ t = omega arith in rw (same) refl
skipped d n s t (suc k) is stays =
    let same : t + suc k ≡ suc (t + k) = omega arith in
    let quiet = none_begins d n s t (t + k) is (stays (t + k) (omega arith) (omega arith)) (stays (suc (t + k)) (omega arith) (omega arith)) in
    rw (same) (unbegun d n (suc (t + k)) quiet ∙ skipped d n s t k is (λ j low high. stays j low (omega (arith, high))))

goes_like : (a b c : Line) → a.rate ≡ b.rate → a.den ≡ b.den → goes_on a c ≡ goes_on b c
goes_like a b c r e = rw (r, e) refl

turn_begins : (d : DeckValue) (n : List ℕ) (s : List (ℕ × ℤ) × Bool) (t k : ℕ) → IsDriven d n s → StaysTo (drive_of d n) t k → goes_on (drive_of d n t) (drive_of d n (suc k)) ≡ false → begins d (suc k) n ≡ true
unfolding begins
turn_begins d n s t k is here turns =
    let breaks = goes_like (drive_of d n k) (drive_of d n t) (drive_of d n (suc k)) (ap (λ (l : Line). l.rate) here) (ap (λ (l : Line). l.den) here) ∙ turns in
    rw (entry_is d n s k is, entry_is d n s (suc k) is, breaks) refl

one_more : (d : DeckValue) (n : List ℕ) (k : ℕ) → begins d k n ≡ true → entries_below d (suc k) n ≡ entries_below d k n ++ entry d k n ∷ []
unfolding entries_below
one_more d n k e = rw (e) refl

-- where it turns, one line begins
pub turned_once : (d : DeckValue) (n : List ℕ) (s : List (ℕ × ℤ) × Bool) (stop t next : ℕ) → IsDriven d n s → TurnsAt (drive_of d n) stop t next → entries_below d (suc next) n ≡ entries_below d (suc t) n ++ drive_of d n next ∷ []
turned_once d n s stop t next is turn =
    let k : ℕ = next - suc t in
    let next_is : next ≡ suc (t + k) = omega (arith, turn.later) in
    let quiet = skipped d n s t k is (λ j low high. turn.stays j low (omega (arith, turn.later))) in
    let opens = turn_begins d n s t (t + k) is (turn.stays (t + k) (omega arith) (omega (arith, turn.later))) (rw (next_is) at turn.turns) in
    let before : entries_below d next n ≡ entries_below d (suc t) n = rw (next_is) quiet in
    one_more d n next (rw (next_is) opens) ∙ rw (before, entry_is d n s next is) refl

no_gain : (x r : ℤ) (t : ℕ) → x ≡ x +ℤ (r *ℤ pos (t - t))
no_gain x r t =
    let none : t - t ≡ 0 = omega arith in
    rw (none) (same_in x (x +ℤ (r *ℤ pos 0)) (omega (arith, ints, product_is r (pos 0))))

stays_here : (d : DeckValue) (n : List ℕ) (s : List (ℕ × ℤ) × Bool) (t : ℕ) → IsDriven d n s → StaysTo (drive_of d n) t t
unfolding course
stays_here d n s t is =
    let l : Line = signed_line s.1 (course s.0 t) in
    rw (drive_is d n s t is.driven) (λ i. record { start = t; num = no_gain l.num l.rate t i; rate = l.rate; den = l.den })

-- where it stays to the stop, these lines are the wave
pub stays_to_stop : (d : DeckValue) (n : List ℕ) (s : List (ℕ × ℤ) × Bool) (t : ℕ) → IsDriven d n s → t < max 1 d.stop → ((j : ℕ) → t ≤ j → j < d.stop → StaysTo (drive_of d n) t j) → entries_below d (suc t) n ≡ wave d n
unfolding wave
stays_to_stop d n s t is low stays =
    let k : ℕ = max 1 d.stop - suc t in
    let top : max 1 d.stop ≡ suc (t + k) = omega (arith, low) in
    rw (top) (sym (skipped d n s t k is (λ j at_least up_to. elim (cases_lt j d.stop) [ inl h ↦ stays j at_least h | inr h ↦ rw (at_start d.stop t j low at_least up_to h) (stays_here d n s t is) ])))
  where
    -- beyond the stop there is tick 0 alone
    at_start : (stop t j : ℕ) → t < max 1 stop → t ≤ j → j ≤ t + (max 1 stop - suc t) → stop ≤ j → j ≡ t
    at_start stop t j low at_least up_to h = omega arith

pub first_line : (d : DeckValue) (n : List ℕ) (s : List (ℕ × ℤ) × Bool) → IsDriven d n s → drive_of d n 0 ∷ [] ≡ entries_below d 1 n
unfolding entries_below begins
first_line d n s is = rw (entry_is d n s 0 is) refl
