-- The lines of the nodes: one more is replaced, time goes on, and what is still to do.
use Rattle.std.proofs.Common.{◌≡◌, ◌≢◌, ℕ, zero, suc, ◌+◌, ◌-◌, ◌*◌, ◌^◌, ◌<◌, ◌≤◌, Bool, true, false, List, [], ◌∷◌, ◌++◌, length, get_or, set, drop, refl, sym, ap, ◌∙◌, arith, ⊎_elim, inl, inr, ℤ, pos, negsuc, ◌+ℤ◌, ◌*ℤ◌, unsigned_abs, Option, Some, None}
use Rattle.std.specs.Prelude.{◌⊎◌}
use Rattle.std.specs.List.{Contains}
use Rattle.std.specs.FinMap as map
use Rattle.std.proofs.lemmas.Int.{ints, unsigned_abs-mul}
use Rattle.std.proofs.lemmas.Nat.{mul-le}
use Rattle.std.proofs.lemmas.List.{drop_all, drop_more, get_or-set_same, get_or-set_other, length-set}
use Rattle.std.proofs.lemmas.List.Elements.{Contains-append_left, Contains-append_right, Contains-append_cases}
use Rattle.std.proofs.lemmas.Bool.{cases_eq, false≢true}
use Rattle.semantics.specs.declared.line.Line.{Line}
use Rattle.node_ramps.specs.Lines.{num_at, turned, voltage, InBounds}
use Rattle.node_ramps.proofs.Sums.{same_line}
use Rattle.event_order.specs.Ticks.{Ticks}
use Rattle.window_run.specs.Net.{IsNet, Net}
use Rattle.histories.specs.Track.{line_of, no_line}
use Rattle.window_run.specs.Stage.{AreBounded, AreLines, AreSlow, BendsBut, Before, IsFrom, IsTrusted, LineSameOrNear, LinesBut, RateSameOrNoted, SameDriven, SameFree, SameVolts, Takes}
use Rattle.window_run.proofs.Waiting.{Scheduled, not_taken, scheduled_there, scheduled_other}

-- ---- what is still to do

pub contains_cons : (x y : ℕ) (xs : List ℕ) → Contains (x ∷ xs) y → (x ≡ y) ⊎ Contains xs y
contains_cons x y xs (zero, inside, is) = inl is
contains_cons x y xs (suc k, inside, is) = inr (k, omega (arith, inside), is)

-- the item at the front is done
pub less : (todo : List ℕ) (j k i : ℕ) → j < length todo → k ≡ get_or todo j 0 → k ≢ i → Contains (drop j todo) i → Contains (drop (j + 1) todo) i
less todo j k i inside is other has =
    let split : drop j todo ≡ k ∷ drop (j + 1) todo = rw is (drop_more todo j 0 inside) in
    ⊎_elim (λ (e : k ≡ i). absurd (other e)) (λ rest. rest) (contains_cons k i (drop (j + 1) todo) (rw split at has))

-- nothing is left past the end, or in no list
pub nothing_left : (todo : List ℕ) (j i : ℕ) → length todo ≤ j → Contains (drop j todo) i → ⊥
nothing_left todo j i past has = let empty : drop j todo ≡ [] = drop_all j todo past in let h = rw empty at has in omega (arith, h.1)

pub nothing : (i : ℕ) → Contains [] i → ⊥
nothing i has = omega (arith, has.1)

-- a property that has each that is not still to do
pub all_done : (P : ℕ → Type 0) (Q : ℕ → Type 0) (todo : List ℕ) (j : ℕ) → length todo ≤ j → ((i : ℕ) → Q i → P i ⊎ Contains (drop j todo) i) → (i : ℕ) → Q i → P i ⊎ Contains [] i
all_done P Q todo j past some i q = ⊎_elim (λ (p : P i). inl p) (λ (has : Contains (drop j todo) i). absurd (nothing_left todo j i past has)) (some i q)

pub of_none : (P : Type 0) (i : ℕ) → P ⊎ Contains [] i → P
of_none P i some = ⊎_elim (λ (p : P). p) (λ (has : Contains [] i). absurd (nothing i has)) some

-- ---- one line is replaced

-- a property of each node's line that the new one has too
pub each : (P : ℕ → Line → Type 0) (ls : List Line) (k : ℕ) (l : Line) → k < length ls → P k l → ((i : ℕ) → P i (line_of ls i)) → (i : ℕ) → P i (line_of (set ls k l) i)
each P ls k l inside new old i = ⊎_elim
    (λ (e : i ≡ k). rw (e, get_or-set_same ls k l no_line inside) new)
    (λ (n : i ≢ k). rw (get_or-set_other ls k i l no_line n) (old i))
    (cases_eq i k)

pub lines_more : (ls : List Line) (now end k : ℕ) (l : Line) → k < length ls → l.start ≤ now → InBounds l end → AreLines ls now end → AreLines (set ls k l) now end
lines_more ls now end k l inside start bounds lines = record {
  started = each (λ i m. i < length (set ls k l) → m.start ≤ now) ls k l inside (λ _. omega (arith, start)) (λ i h. lines.started i (omega (arith, h, length-set ls k l)));
  bounds = each (λ i m. i < length (set ls k l) → InBounds m end) ls k l inside (λ _. bounds) (λ i h. lines.bounds i (omega (arith, h, length-set ls k l)));
  in_time = lines.in_time;
}

pub nums_more : (net : Net) (ls : List Line) (now k : ℕ) (l : Line) → k < length ls → unsigned_abs (num_at l now) ≤ 10 ^ 21 + 10 ^ 15 * now → AreBounded net ls now → AreBounded net (set ls k l) now
nums_more net ls now k l inside small nums = each (λ i m. i < net.nodes → net.free i ≡ true → unsigned_abs (num_at m now) ≤ 10 ^ 21 + 10 ^ 15 * now) ls k l inside (λ _ _. small) nums

pub slow_more : (net : Net) (ls : List Line) (k : ℕ) (l : Line) → k < length ls → unsigned_abs l.rate ≤ 10 ^ 15 → AreSlow net ls → AreSlow net (set ls k l)
slow_more net ls k l inside small slow = each (λ i m. i < net.nodes → net.free i ≡ true → unsigned_abs m.rate ≤ 10 ^ 15) ls k l inside (λ _ _. small) slow

pub volts_more : (first ls : List Line) (now k : ℕ) (l : Line) → k < length ls → voltage l now ≡ voltage (line_of ls k) now → SameVolts first ls now → SameVolts first (set ls k l) now
volts_more first ls now k l inside meets same = each (λ i m. i < length first → voltage m now ≡ voltage (line_of first i) now) ls k l inside (λ h. meets ∙ same k h) same

pub looks_more : (net : Net) (first ls : List Line) (looks : List ℕ) (k : ℕ) (l : Line) → LineSameOrNear net first ls looks → LineSameOrNear net first (set ls k l) (looks ++ net.near k)
looks_more net first ls looks k l old = λ i. ⊎_elim
    (λ (e : k ≡ i). inr (rw (← e) (λ x h. Contains-append_right looks (net.near k) x h)))
    (λ (n : k ≢ i). ⊎_elim
    (λ (keeps : line_of ls i ≡ line_of first i). inl (get_or-set_other ls k i l no_line (λ e. n (sym e)) ∙ keeps))
    (λ (noted : (x : ℕ) → Contains (net.near i) x → Contains looks x). inr (λ x h. Contains-append_left looks (net.near k) x (noted x h)))
    (old i))
    (cases_eq k i)

pub from_more : (net : Net) (first looks : List ℕ) (k : ℕ) → IsFrom net first looks → IsFrom net first (looks ++ net.near k)
from_more net first looks k old = λ x has. ⊎_elim (λ (h : Contains looks x). old x h) (λ (h : Contains (net.near k) x). inr (k, h)) (Contains-append_cases looks (net.near k) x has)

-- a free node that turns leaves the driven ones as they were, and a driven one that bends the free ones
pub driven_same : (net : Net) (first ls : List Line) (k : ℕ) (l : Line) → net.driven k ≡ false → SameDriven net first ls → SameDriven net first (set ls k l)
driven_same net first ls k l free same = λ i driven. get_or-set_other ls k i l no_line (λ (e : i ≡ k). false≢true (sym free ∙ ap net.driven (sym e) ∙ driven)) ∙ same i driven

pub free_same : (net : Net) (first ls : List Line) (k : ℕ) (l : Line) → net.free k ≡ false → SameFree net first ls → SameFree net first (set ls k l)
free_same net first ls k l driven same = λ i free. get_or-set_other ls k i l no_line (λ (e : i ≡ k). false≢true (sym driven ∙ ap net.free (sym e) ∙ free)) ∙ same i free

-- ---- one free node turns

pub todo_more : (net : Net) (ls : List Line) (rates : List ℤ) (todo : List ℕ) (j k : ℕ) (l : Line) → j < length todo → k ≡ get_or todo j 0 → k < length ls → l.rate ≡ get_or rates k (pos 0) → LinesBut (drop j todo) net ls rates → LinesBut (drop (j + 1) todo) net (set ls k l) rates
todo_more net ls rates todo j k l inside is within goes old = λ i below free. ⊎_elim
    (λ (e : k ≡ i). inl (rw (← e, get_or-set_same ls k l no_line within) goes))
    (λ (n : k ≢ i). ⊎_elim
    (λ (keeps : (line_of ls i).rate ≡ get_or rates i (pos 0)). inl (rw (get_or-set_other ls k i l no_line (λ e. n (sym e))) keeps))
    (λ (has : Contains (drop j todo) i). inr (less todo j k i inside is n has))
    (old i below free))
    (cases_eq k i)

-- one that has its rate, or is not free, need not turn
pub todo_same : (net : Net) (ls : List Line) (rates : List ℤ) (todo : List ℕ) (j k : ℕ) → j < length todo → k ≡ get_or todo j 0 → (net.free k ≡ true → (line_of ls k).rate ≡ get_or rates k (pos 0)) → LinesBut (drop j todo) net ls rates → LinesBut (drop (j + 1) todo) net ls rates
todo_same net ls rates todo j k inside is fine old = λ i below free. ⊎_elim
    (λ (e : k ≡ i). inl (rw (← e) (fine (rw e free))))
    (λ (n : k ≢ i). ⊎_elim (λ (keeps : (line_of ls i).rate ≡ get_or rates i (pos 0)). inl keeps) (λ (has : Contains (drop j todo) i). inr (less todo j k i inside is n has)) (old i below free))
    (cases_eq k i)

-- the nodes that are not noted go on as they did
pub goes_but : (net : Net) (ls : List Line) (old new : List ℤ) (turned : List ℕ) → LinesBut [] net ls old → RateSameOrNoted old new turned → LinesBut turned net ls new
goes_but net ls old new turned goes same = λ i below free. ⊎_elim
    (λ (e : get_or new i (pos 0) ≡ get_or old i (pos 0)). inl (of_none _ i (goes i below free) ∙ sym e))
    (λ (has : Contains turned i). inr has)
    (same i)

-- ---- one driven node bends

pub bends_more : (net : Net) (ls : List Line) (now end : ℕ) (old new : Ticks) (todo : List ℕ) (j k : ℕ) (l : Line) (next : Option ℕ) →
    j < length todo → k ≡ get_or todo j 0 → k < length ls → Scheduled old new k next → IsTrusted (net.drive k) l now end next → BendsBut (drop j todo) net ls now end old → BendsBut (drop (j + 1) todo) net (set ls k l) now end new
bends_more net ls now end old new todo j k l next inside is within set_to trusted was = λ i below driven. ⊎_elim
    (λ (e : k ≡ i). inl (rw (← e, get_or-set_same ls k l no_line within, scheduled_there old new k next set_to) trusted))
    (λ (n : k ≢ i). ⊎_elim
    (λ (keeps : IsTrusted (net.drive i) (line_of ls i) now end (map.get old i)). inl (rw (get_or-set_other ls k i l no_line (λ e. n (sym e)), scheduled_other old new k i next set_to (λ e. n (sym e))) keeps))
    (λ (has : Contains (drop j todo) i). inr (less todo j k i inside is n has))
    (was i below driven))
    (cases_eq k i)

pub trust_kept : (net : Net) (old new : List Line) (now end : ℕ) (bends : Ticks) → SameDriven net old new → BendsBut [] net old now end bends → BendsBut [] net new now end bends
trust_kept net old new now end bends same trust = λ i below driven. rw (same i driven) (trust i below driven)

pub trust_later : (net : Net) (ls : List Line) (before now end : ℕ) (bends : Ticks) (bent : List ℕ) → before ≤ now → BendsBut bent net ls before end bends → BendsBut bent net ls now end bends
trust_later net ls before now end bends bent h trust = λ i below driven. ⊎_elim
    (λ (is : IsTrusted (net.drive i) (line_of ls i) before end (map.get bends i)). inl (record { has = λ s (at : now ≤ s) upto early. is.has s (omega (arith, h, at)) upto early; bends = is.bends }))
    (λ (has : Contains bent i). inr has)
    (trust i below driven)

-- ---- over the bends of a tick

pub free_nums : (net : Net) (old new : List Line) (now : ℕ) → SameFree net old new → AreBounded net old now → AreBounded net new now
free_nums net old new now same nums = λ i below free. rw (same i free) (nums i below free)

pub free_slow : (net : Net) (old new : List Line) → SameFree net old new → AreSlow net old → AreSlow net new
free_slow net old new same slow = λ i below free. rw (same i free) (slow i below free)

pub free_goes : (net : Net) (old new : List Line) (rates : List ℤ) → SameFree net old new → LinesBut [] net old rates → LinesBut [] net new rates
free_goes net old new rates same goes = λ i below free. rw (same i free) (goes i below free)

-- ---- time goes on

pub lines_later : (ls : List Line) (before now end : ℕ) → before ≤ now → now ≤ end → AreLines ls before end → AreLines ls now end
lines_later ls before now end h k lines = record { started = λ i below. omega (arith, h, lines.started i below); bounds = lines.bounds; in_time = k }

sum_later : (x y : ℤ) (s t n : ℕ) → s + n ≡ t → unsigned_abs x ≤ 10 ^ 21 + 10 ^ 15 * s → unsigned_abs y ≤ 10 ^ 15 * n → unsigned_abs (x +ℤ y) ≤ 10 ^ 21 + 10 ^ 15 * t
sum_later x y s t n e hx hy = omega (arith, ints, e, hx, hy)

product_small : (r : ℤ) (n : ℕ) → unsigned_abs r ≤ 10 ^ 15 → unsigned_abs (r *ℤ pos n) ≤ 10 ^ 15 * n
product_small r n h = rw (unsigned_abs-mul r (pos n)) (mul-le (unsigned_abs r) n (10 ^ 15) n h (omega arith))

pub nums_later : (net : Net) (ls : List Line) (before now end : ℕ) → length ls ≡ net.nodes → before ≤ now → AreLines ls before end → AreSlow net ls → AreBounded net ls before → AreBounded net ls now
nums_later net ls before now end count h lines slow nums = λ i below free.
    let l : Line = line_of ls i in
    let later : num_at (turned l before l.rate) now ≡ num_at l now = same_line l before now l.rate refl (lines.started i (omega (arith, below, count))) h in
    rw (← later) (sum_later (num_at l before) (l.rate *ℤ pos (now - before)) before now (now - before) (omega (arith, h)) (nums i below free) (product_small l.rate (now - before) (slow i below free)))

-- ---- one line

-- a line that turns is where it was
pub turned_there : (l : Line) (now : ℕ) (rate : ℤ) → num_at (turned l now rate) now ≡ num_at l now
turned_there l now rate = at (num_at l now) rate (now - now) (omega arith)
  where
    none : (r : ℤ) (n : ℕ) → n ≡ 0 → r *ℤ pos n ≡ pos 0
    none (pos r) n e = rw e (omega (arith, ints))
    none (negsuc r) n e = rw e (omega (arith, ints))

    at : (x r : ℤ) (n : ℕ) → n ≡ 0 → x +ℤ (r *ℤ pos n) ≡ x
    at x r n e = rw (none r n e) (omega (arith, ints))

pub meets : (l : Line) (now : ℕ) (rate : ℤ) → voltage (turned l now rate) now ≡ voltage l now
meets l now rate = ap (λ z. record { num = z; den = l.den }) (turned_there l now rate)

-- a line that turns stays in bounds
pub turned_in_bounds : (l : Line) (now end : ℕ) (rate : ℤ) → InBounds l end → now ≤ end → end ≤ 10 ^ 10 → unsigned_abs (num_at l now) ≤ 10 ^ 21 + 10 ^ 15 * now → unsigned_abs rate ≤ 10 ^ 15 → InBounds (turned l now rate) end
turned_in_bounds l now end rate b order short num small =
    let size : unsigned_abs (rate *ℤ pos (end - now)) ≤ 10 ^ 15 * (end - now) = rw (unsigned_abs-mul rate (pos (end - now))) (mul-le (unsigned_abs rate) (end - now) (10 ^ 15) (end - now) small (omega arith)) in
    record {
      started = order;
      den_from = b.den_from;
      den_to = b.den_to;
      num_first = omega (arith, num, order, short);
      num_last = last (num_at l now) (rate *ℤ pos (end - now)) num size;
      rate = omega (arith, small);
    }
  where
    last : (x y : ℤ) → unsigned_abs x ≤ 10 ^ 21 + 10 ^ 15 * now → unsigned_abs y ≤ 10 ^ 15 * (end - now) → unsigned_abs (x +ℤ y) ≤ 101 * 10 ^ 23
    last x y hx hy = omega (arith, ints, hx, hy, order, short)

-- a line's numerator gains its rate
times_one : (r : ℤ) (n : ℕ) → n ≡ 1 → r *ℤ pos n ≡ r
times_one (pos r) n e = rw e (omega (arith, ints))
times_one (negsuc r) n e = rw e (omega (arith, ints))

pub gains_rate : (l : Line) (s : ℕ) → l.start ≤ s → num_at l (s + 1) ≡ num_at l s +ℤ l.rate
gains_rate l s h = sym (same_line l s (s + 1) l.rate refl h (omega arith)) ∙ ap (λ z. num_at l s +ℤ z) (times_one l.rate ((s + 1) - s) (omega arith))

pub le_of : (a b : ℕ) → a ≡ b → a ≤ b
le_of a b e = omega (arith, e)

-- a free node is not driven
pub not_driven : (net : Net) (k : ℕ) → IsNet net → net.free k ≡ true → net.driven k ≡ false
not_driven net k is free = by (net.driven k) refl
  where
    by : (b : Bool) → net.driven k ≡ b → net.driven k ≡ false
    by true e = absurd (false≢true (sym (is.apart k e) ∙ free))
    by false e = e

-- what bends is taken from the queue
pub bends_taken : (net : Net) (ls : List Line) (before now end : ℕ) (old new : Ticks) (bent : List ℕ) → Takes now old new bent → BendsBut [] net ls before end old → BendsBut bent net ls before end new
bends_taken net ls before now end old new bent takes trust = λ i below driven. ⊎_elim
    (λ (e : map.get new i ≡ map.get old i). inl (rw e (of_none (IsTrusted (net.drive i) (line_of ls i) before end (map.get old i)) i (trust i below driven))))
    (λ (has : Contains bent i). inr has)
    (not_taken now old new bent takes i)
