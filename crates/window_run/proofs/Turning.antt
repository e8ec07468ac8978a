-- Lines that turn, and the pairs that they have from where each begins up to where the next one does.
use Rattle.std.proofs.Common.{◌≡◌, ◌≢◌, ℕ, zero, suc, ◌+◌, ◌-◌, ◌*◌, ◌^◌, ◌<◌, ◌≤◌, true, List, length, get_or, refl, sym, ap, ◌∙◌, arith, ⊎_elim, inl, inr, ℤ, pos, negsuc, ◌+ℤ◌, ◌*ℤ◌, unsigned_abs, subst}
use Rattle.std.specs.Prelude.{◌⊎◌}
use Rattle.std.specs.List.{All}
use Rattle.std.proofs.lemmas.Int.{ints}
use Rattle.std.proofs.lemmas.List.Elements.{All-from_get_or}
use Rattle.semantics.specs.declared.fraction.Fraction.{Fraction}
use Rattle.semantics.specs.declared.line.Line.{Line}
use Rattle.node_ramps.specs.Lines.{num_at, turned, voltage}
use Rattle.histories.specs.Piece.{IsShape}
use Rattle.histories.specs.Piece as whole
use Rattle.histories.specs.Place.{IsPlace}
use Rattle.histories.specs.Track.{IsBounded, line_of, no_line, pair}
use Rattle.histories.proofs.Places.{Rising, next_then, pair_at_place, stays_else, stays_then}
use Rattle.window_run.specs.Net.{IsNet, IsRun, Net, cells_in, charged, current_at, volts}
use Rattle.window_run.specs.Pieces.{IsPiece, Turns, pairs, piece_of}
use Rattle.window_run.proofs.Lines.{gains_rate, meets}
use Rattle.window_run.proofs.Pieces.{begun}
use Rattle.window_run.proofs.Waiting.{split}

-- ---- one list of lines

abbrev TurnEach : List Line → Type 0
TurnEach xs = (j : ℕ) → j + 1 < length xs → Turns (line_of xs j) (line_of xs (j + 1))

rises : (xs : List Line) (n i : ℕ) → i + n + 1 < length xs → TurnEach xs → (line_of xs i).start < (line_of xs (i + n + 1)).start
rises xs zero i h turns = let e : i + 1 ≡ i + zero + 1 = omega arith in subst (λ k. (line_of xs i).start < (line_of xs k).start) e (turns i (omega (arith, h))).later
rises xs (suc n) i h turns =
    let first = (turns i (omega (arith, h))).later in
    let rest : (line_of xs (i + 1)).start < (line_of xs ((i + 1) + n + 1)).start = rises xs n (i + 1) (omega (arith, h)) turns in
    let e : (i + 1) + n + 1 ≡ i + suc n + 1 = omega arith in
    subst (λ k. (line_of xs i).start < (line_of xs k).start) e (omega (arith, first, rest))

pub rising : (xs : List Line) → TurnEach xs → Rising xs
rising xs turns i j h inside =
    let n : ℕ = j - i - 1 in
    let e : i + n + 1 ≡ j = omega (arith, h) in
    subst (λ k. (line_of xs i).start < (line_of xs k).start) e (rises xs n i (omega (arith, inside, e)) turns)

-- the line at a place has the pairs at a tick, and at the next, from where it begins and before the next one does
pub record Has (xs : List Line) (j s : ℕ) : Type 0 where
  pub now : pair xs s ≡ voltage (line_of xs j) s
  pub next : pair xs (s + 1) ≡ voltage (line_of xs j) (s + 1)

pub has : (xs : List Line) (j s : ℕ) → TurnEach xs → j < length xs → (line_of xs j).start ≤ s → (j + 1 < length xs → s < (line_of xs (j + 1)).start) → Has xs j s
has xs j s turns inside started before = by (split (j + 1) (length xs))
  where
    up : Rising xs
    up = rising xs turns

    by : (j + 1 < length xs) ⊎ (length xs ≤ j + 1) → Has xs j s
    by (inr past) =
        let last : IsPlace xs s j = record { inside = inside; started = started; last = λ k after below. absurd (omega (arith, past, after, below)) } in
        record {
          now = pair_at_place xs s j up last;
          next = pair_at_place xs (s + 1) j up (stays_else xs s j (s + 1) last past (omega arith));
        }
    by (inl more) =
        let early : s < (line_of xs (j + 1)).start = before more in
        let place : IsPlace xs s j = record {
          inside = inside;
          started = started;
          last = λ k after below. ⊎_elim
              (λ (later : j + 1 < k). let r = up (j + 1) k later below in omega (arith, r, early))
              (λ (at : k ≤ j + 1). let e : k ≡ j + 1 = omega (arith, at, after) in rw e early)
              (split (j + 1) k);
        } in
        record {
          now = pair_at_place xs s j up place;
          next = ⊎_elim
              (λ (still : s + 1 < (line_of xs (j + 1)).start). pair_at_place xs (s + 1) j up (stays_then xs s j (s + 1) up place more (omega arith) still))
              (λ (there : (line_of xs (j + 1)).start ≤ s + 1).
              let e : s + 1 ≡ (line_of xs (j + 1)).start = omega (arith, there, early) in
              pair_at_place xs (s + 1) (j + 1) up (next_then xs j (s + 1) up more e)
              ∙ subst (λ k. voltage (line_of xs (j + 1)) k ≡ voltage (line_of xs j) k) (sym e)
              (ap (λ (m : Line). voltage m (line_of xs (j + 1)).start) (turns j more).from_there ∙ meets (line_of xs j) (line_of xs (j + 1)).start (line_of xs (j + 1)).rate))
              (split (s + 1) (line_of xs (j + 1)).start);
        }

left_over : (a b r : ℤ) → a +ℤ r ≡ a +ℤ b → r ≡ b
left_over a b r e = omega (arith, ints, e)

-- its rate is what the pair gains there
pub rate_is : (xs : List Line) (j s : ℕ) (amps : ℤ) → Has xs j s → (line_of xs j).start ≤ s → pair xs (s + 1) ≡ charged (pair xs s) amps → (line_of xs j).rate ≡ amps
rate_is xs j s amps at started step =
    let l : Line = line_of xs j in
    let gained : num_at l (s + 1) ≡ num_at l s +ℤ amps = ap (λ (v : Fraction). v.num) (sym at.next ∙ step ∙ ap (λ (v : Fraction). charged v amps) at.now) in
    left_over (num_at l s) amps l.rate (sym (gains_rate l s started) ∙ gained)

-- ---- in its limits

-- at a tick the pair of a node is one that a run can have
pub record IsHeld (v first : Fraction) (t : ℕ) : Type 0 where
  pub num : unsigned_abs v.num ≤ 10 ^ 21 + 10 ^ 15 * t
  pub den : v.den ≡ first.den

sum_small : (x y : ℤ) (t : ℕ) → unsigned_abs x ≤ 10 ^ 21 + 10 ^ 15 * t → unsigned_abs y ≤ 10 ^ 15 → unsigned_abs (x +ℤ y) ≤ 10 ^ 21 + 10 ^ 15 * (t + 1)
sum_small x y t a b = omega (arith, ints, a, b)

pub current_small : (net : Net) (x : ℕ → ℕ → Fraction) (t i : ℕ) → IsNet net → net.free i ≡ true → unsigned_abs (current_at net x t i) ≤ 10 ^ 15
current_small net x t i is free = is.held (volts net x t) i refl free

pub held_to : (net : Net) (x : ℕ → ℕ → Fraction) (from until i n t : ℕ) → IsNet net → i < net.nodes → net.free i ≡ true → IsRun net x from until → unsigned_abs (x i from).num ≤ 10 ^ 21 + 10 ^ 15 * from → t ≡ from + n → t ≤ until → IsHeld (x i t) (x i from) t
held_to net x from until i zero t is inside free run first e h = let same : from ≡ t = omega (arith, e) in subst (λ k. IsHeld (x i k) (x i from) k) same (record { num = first; den = refl })
held_to net x from until i (suc n) t is inside free run first e h =
    let s : ℕ = from + n in
    let old : IsHeld (x i s) (x i from) s = held_to net x from until i n s is inside free run first refl (omega (arith, e, h)) in
    let step : x i (s + 1) ≡ charged (x i s) (current_at net x s i) = run i s inside free (omega arith) (omega (arith, e, h)) in
    let same : s + 1 ≡ t = omega (arith, e) in
    let next : IsHeld (charged (x i s) (current_at net x s i)) (x i from) (s + 1) = record { num = sum_small (x i s).num (current_at net x s i) s old.num (current_small net x s i is free); den = old.den } in
    subst (λ k. IsHeld (x i k) (x i from) k) same (subst (λ (v : Fraction). IsHeld v (x i from) (s + 1)) (sym step) next)

no_gain : (x r : ℤ) (n : ℕ) → n ≡ 0 → x +ℤ (r *ℤ pos n) ≡ x
no_gain x r n e = rw e (by r)
  where
    by : (r : ℤ) → x +ℤ (r *ℤ pos 0) ≡ x
    by (pos r) = omega (arith, ints)
    by (negsuc r) = omega (arith, ints)

at_start : (l : Line) → voltage l l.start ≡ record { num = l.num; den = l.den }
at_start l = ap (λ (z : ℤ). record { num = z; den = l.den }) (no_gain l.num l.rate (l.start - l.start) (omega arith))

-- at each tick the pair gains this
abbrev pub GainsEach : List Line → (ℕ → ℤ) → ℕ → ℕ → Type 0
GainsEach xs amps from until = (s : ℕ) → from ≤ s → s < until → pair xs (s + 1) ≡ charged (pair xs s) (amps s)

from_first : (from : ℕ) (xs : List Line) (l : Line) → IsPiece from xs l → (j : ℕ) → j < length xs → from ≤ (line_of xs j).start
from_first from xs l piece zero h = let e = piece.first in omega (arith, e)
from_first from xs l piece (suc j) h = let r = rising xs piece.turns 0 (suc j) (omega arith) h in let e = piece.first in omega (arith, r, e)

bounded_at : (xs : List Line) (from until : ℕ) (l : Line) (amps : ℕ → ℤ) → IsPiece from xs l → l.start < until → GainsEach xs amps from until → ((s : ℕ) → unsigned_abs (amps s) ≤ 10 ^ 15)
    → ((s : ℕ) → from ≤ s → s ≤ until → IsHeld (pair xs s) (pair xs from) s) → 1 ≤ (pair xs from).den → (pair xs from).den ≤ 10 ^ 12 → (j : ℕ) → j < length xs → IsBounded (line_of xs j)
bounded_at xs from until l amps piece early gains small held den_from den_to j h =
    let m : Line = line_of xs j in
    let low : from ≤ m.start = from_first from xs l piece j h in
    let below : m.start < until = (let b = begun from xs l piece j h in omega (arith, b, early)) in
    let at : Has xs j m.start = has xs j m.start piece.turns h (omega arith) (λ more. rising xs piece.turns j (j + 1) (omega arith) more) in
    let here : pair xs m.start ≡ record { num = m.num; den = m.den } = at.now ∙ at_start m in
    let can : IsHeld (pair xs m.start) (pair xs from) m.start = held m.start low (omega (arith, below)) in
    let rate : m.rate ≡ amps m.start = rate_is xs j m.start (amps m.start) at (omega arith) (gains m.start low below) in
    let same : (pair xs from).den ≡ m.den = sym can.den ∙ ap (λ (v : Fraction). v.den) here in
    record {
      den_from = subst (λ k. 1 ≤ k) same den_from;
      den_to = subst (λ k. k ≤ 10 ^ 12) same den_to;
      num = subst (λ (v : Fraction). unsigned_abs v.num ≤ 10 ^ 21 + 10 ^ 15 * m.start) here can.num;
      rate = subst (λ (z : ℤ). unsigned_abs z ≤ 10 ^ 15) (sym rate) (small m.start);
    }

shape_of : (xs : List Line) (from until : ℕ) (l : Line) → IsPiece from xs l → l.start < until → from < until → IsShape from until xs
shape_of xs from until l piece early order = record {
  ordered = order;
  lines = record { some = piece.some; first = piece.first; rising = rising xs piece.turns };
  by_until = All-from_get_or (λ (m : Line). m.start ≤ until) xs no_line (λ j h. let b = begun from xs l piece j h in omega (arith, b, early));
}

-- the lines of a run are a piece
pub in_shape : (net : Net) (ps : List (List Line)) (from until i : ℕ) (l : Line) → IsNet net → i < net.nodes → net.free i ≡ true → IsRun net (pairs ps) from until → from < until → IsPiece from (piece_of ps i) l → l.start < until
    → unsigned_abs (pairs ps i from).num ≤ 10 ^ 21 + 10 ^ 15 * from → 1 ≤ (pairs ps i from).den → (pairs ps i from).den ≤ 10 ^ 12 → whole.IsPiece from until (piece_of ps i)
in_shape net ps from until i l is inside free run order piece early num den_from den_to = record {
  shape = shape_of (piece_of ps i) from until l piece early order;
  bounded = All-from_get_or IsBounded (piece_of ps i) no_line (bounded_at (piece_of ps i) from until l (λ s. current_at net (pairs ps) s i) piece early
      (λ s low high. run i s inside free low high)
      (λ s. current_small net (pairs ps) s i is free)
      (λ s low high. held_to net (pairs ps) from until i (s - from) s is inside free run num (omega (arith, low)) high)
      den_from den_to);
}

-- ---- where a line turns

-- a tick at which another line begins, and the tick before it
pub record Other (amps : ℕ → ℤ) (from until start : ℕ) : Type 0 where
  pub before : ℕ
  pub is : start ≡ before + 1
  pub low : from ≤ before
  pub early : before + 1 < until
  pub other : amps (before + 1) ≡ amps before → ⊥

other_amps : (xs : List Line) (from until j : ℕ) (l : Line) (amps : ℕ → ℤ) → IsPiece from xs l → l.start < until → GainsEach xs amps from until → j + 1 < length xs → Other amps from until (line_of xs (j + 1)).start
other_amps xs from until j l amps piece early gains more =
    let s : ℕ = (line_of xs (j + 1)).start in
    let r : ℕ = s - 1 in
    let turn : Turns (line_of xs j) (line_of xs (j + 1)) = piece.turns j more in
    let later : (line_of xs j).start < s = turn.later in
    let below : s < until = (let b = begun from xs l piece (j + 1) more in omega (arith, b, early)) in
    let first : from ≤ (line_of xs j).start = from_first from xs l piece j (omega (arith, more)) in
    let is : s ≡ r + 1 = omega (arith, later) in
    let low : from ≤ r = omega (arith, first, later) in
    let old : Has xs j r = has xs j r piece.turns (omega (arith, more)) (omega (arith, later)) (λ _. omega (arith, later)) in
    let old_rate : (line_of xs j).rate ≡ amps r = rate_is xs j r (amps r) old (omega (arith, later)) (gains r low (omega (arith, below))) in
    let new : Has xs (j + 1) s = has xs (j + 1) s piece.turns more (omega arith) (λ further. rising xs piece.turns (j + 1) (j + 1 + 1) (omega arith) further) in
    let new_rate : (line_of xs (j + 1)).rate ≡ amps s = rate_is xs (j + 1) s (amps s) new (omega arith) (gains s (omega (arith, first, later)) below) in
    record {
      before = r;
      is = is;
      low = low;
      early = omega (arith, below, is);
      other = λ same. turn.other_rate (new_rate ∙ ap amps is ∙ same ∙ sym old_rate);
    }

-- where a line but the first begins, what flows in is not what did at the tick before
pub other_current : (net : Net) (ps : List (List Line)) (from until i j : ℕ) (l : Line) → i < net.nodes → net.free i ≡ true → IsRun net (pairs ps) from until → IsPiece from (piece_of ps i) l → l.start < until → j + 1 < length (piece_of ps i)
    → Other (λ s. current_at net (pairs ps) s i) from until (line_of (piece_of ps i) (j + 1)).start
other_current net ps from until i j l inside free run piece early more = other_amps (piece_of ps i) from until j l (λ s. current_at net (pairs ps) s i) piece early (λ s low high. run i s inside free low high) more
