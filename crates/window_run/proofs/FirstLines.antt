-- The first lines, and what they are for a net.
use Rattle.std.proofs.Common.{◌≡◌, ℕ, ◌+◌, ◌-◌, ◌*◌, ◌^◌, ◌<◌, ◌≤◌, true, List, [], ◌∷◌, ◌++◌, length, refl, sym, ap, ◌∙◌, arith, ⊎_elim, ℤ, pos, ◌+ℤ◌, ◌*ℤ◌, unsigned_abs, subst}
use Rattle.std.proofs.lemmas.Int.{ints}
use Rattle.std.proofs.lemmas.List.{length-append}
use Rattle.semantics.specs.declared.fraction.Fraction.{Fraction}
use Rattle.semantics.specs.declared.line.Line.{Line}
use Rattle.semantics.specs.Pending.{IsBoundedAt}
use Rattle.node_ramps.specs.Lines.{InBounds, num_at, voltage}
use Rattle.histories.specs.Record.{RecordValue, pair_at}
use Rattle.histories.specs.Track.{line_of, no_line}
use Rattle.circuit_model.specs.declared.node_kind.NodeKind.TheVariants.{Free}
use Rattle.circuit_model.specs.Numbers.{CircuitValue, kind_at}
use Rattle.window_run.specs.Circuit.{net_of}
use Rattle.window_run.specs.Intake.{AreFirst, IsFirst}
use Rattle.window_run.specs.Net.{Net}
use Rattle.window_run.specs.Stage.{AreBounded, AreLines, AreSlow, BeginAt}
use Rattle.window_run.proofs.Flows.{back, front}
use Rattle.window_run.proofs.Waiting.{split}

pub first_more : (c : CircuitValue) (past : RecordValue) (from : ℕ) (ls : List Line) (l : Line) → AreFirst c past from ls → IsFirst c past from (length ls) l → AreFirst c past from (ls ++ l ∷ [])
first_more c past from ls l all one i below = ⊎_elim
    (λ (h : i < length ls). rw (front ls l no_line i h) (all i h))
    (λ (h : length ls ≤ i). let last : i ≡ length ls = omega (arith, h, below, length-append ls (l ∷ [])) in rw (back ls l no_line i last, last) one)
    (split i (length ls))

-- a line without a slope
still : (l : Line) (t : ℕ) → l.rate ≡ pos 0 → num_at l t ≡ l.num
still l t flat = rw flat (none l.num (t - l.start))
  where
    none : (x : ℤ) (n : ℕ) → x +ℤ (pos 0 *ℤ pos n) ≡ x
    none x n = omega (arith, ints)

in_bounds : (c : CircuitValue) (past : RecordValue) (from end i : ℕ) (l : Line) → from ≤ end → end ≤ 10 ^ 10 → IsFirst c past from i l → InBounds l end
in_bounds c past from end i l order short is = record {
  started = (let e = is.start in omega (arith, e, order));
  den_from = is.den_from;
  den_to = is.den_to;
  num_first = (let h = is.num in omega (arith, h, order, short));
  num_last = rw (still l end is.rate) (let h = is.num in omega (arith, h, order, short));
  rate = rw (is.rate) (omega arith);
}

pub first_lines_are : (c : CircuitValue) (past : RecordValue) (from end : ℕ) (ls : List Line) → from ≤ end → end ≤ 10 ^ 10 → AreFirst c past from ls → AreLines ls from end
first_lines_are c past from end ls order short all = record {
  started = λ i h. let e = (all i h).start in omega (arith, e);
  bounds = λ i h. in_bounds c past from end i (line_of ls i) order short (all i h);
  in_time = order;
}

pub first_bounded : (c : CircuitValue) (past : RecordValue) (from : ℕ) (net : Net) (ls : List Line) → length ls ≡ net.nodes → AreFirst c past from ls → AreBounded net ls from
first_bounded c past from net ls count all i below free = let is = all i (omega (arith, below, count)) in rw (still (line_of ls i) from is.rate) is.num

pub first_slow : (c : CircuitValue) (past : RecordValue) (from : ℕ) (net : Net) (ls : List Line) → length ls ≡ net.nodes → AreFirst c past from ls → AreSlow net ls
first_slow c past from net ls count all i below free = let is = all i (omega (arith, below, count)) in rw (is.rate) (omega arith)

pub first_begin : (c : CircuitValue) (past : RecordValue) (from : ℕ) (net : Net) (ls : List Line) → length ls ≡ net.nodes → AreFirst c past from ls → BeginAt net ls from
first_begin c past from net ls count all i below free = (all i (omega (arith, below, count))).start

-- a free node sets out at its pair
pub first_pair : (c : CircuitValue) (past : RecordValue) (from i : ℕ) (ls : List Line) → i < length ls → kind_at c i ≡ Free → AreFirst c past from ls → voltage (line_of ls i) from ≡ pair_at past i from
first_pair c past from i ls below free all =
    let is = all i below in
    ap (λ (z : ℤ). record { num = z; den = (line_of ls i).den }) (still (line_of ls i) from is.rate) ∙ is.volts free

-- and that pair is in its limits
pub first_bounds : (c : CircuitValue) (past : RecordValue) (from i : ℕ) (ls : List Line) → i < length ls → kind_at c i ≡ Free → AreFirst c past from ls → IsBoundedAt from (pair_at past i from)
first_bounds c past from i ls below free all =
    let is = all i below in
    subst (IsBoundedAt from) (is.volts free) (record { den_low = is.den_from; den_high = is.den_to; num = is.num })
