-- A stretch: from a tick to before a later one the node is at fault at each tick or at none.
use Rattle.std.proofs.Common.{◌≡◌, ◌≢◌, ◌⊎◌, ℕ, suc, ◌+◌, ◌-◌, ◌<◌, ◌≤◌, Bool, true, false, not, ◌&&◌, ◌==◌, List, refl, sym, ap, ◌∙◌, arith, ⊎_elim, ℤ, pos, ◌+ℤ◌, ◌*ℤ◌, FitsSigned, of_z, to_z}
use mir.Syntax.{w128}
use Rattle.std.specs.Prelude.{max, min}
use Rattle.std.specs.Ordering.{int_eq}
use Rattle.std.proofs.lemmas.Bool.{cases_eq, eq-eqb, eqb-true, lt-ltb, ne_eqb}
use Rattle.std.proofs.lemmas.Bool.Decides.{Decides-int_eq}
use Rattle.std.proofs.lemmas.Int.{to_z-of_z}
use Rattle.semantics.specs.declared.fraction.Fraction.{Fraction}
use Rattle.semantics.specs.declared.line.Line.{Line}
use Rattle.semantics.specs.Deck.{DeckValue, capacity}
use Rattle.semantics.specs.Record.{Record, follows, is_fault, record_current}
use Rattle.semantics.proofs.Free.{same_test}
use Rattle.semantics.proofs.Limits.{limits}
use Rattle.circuit_model.specs.declared.node_kind.NodeKind.TheVariants.{Free}
use Rattle.circuit_model.specs.Numbers.{CircuitValue, kind_at, name_at}
use Rattle.circuit_model.proofs.ByNumber.{near_by_number}
use Rattle.histories.specs.Pairs.{IsEnd, line_at}
use Rattle.histories.specs.Record.{RecordValue, pair_at}
use Rattle.record_laws.specs.Laws.{IsStraight}
use Rattle.record_laws.proofs.Lines.{fault_straight}
use Rattle.fault_sweep.specs.declared.hold.Hold.{Hold}
use Rattle.circuit_model.specs.Records.{record_of}
use Rattle.fault_sweep.specs.Records.{IsBasis, current_at, has_fault, volts, volts_of_ends}
use Rattle.fault_sweep.specs.Stretches.{AreHolds, AreOnTo, IsStraightTo, total}
use Rattle.fault_sweep.proofs.Courses.{line_starts}
use Rattle.fault_sweep.proofs.Holds.{total_flow}
use Rattle.fault_sweep.proofs.Nodes.{are_volts, free_inside, name_free, record_at}

-- ---- the node's own line

pub straight_to : (p : ℕ → Fraction) (stop now end u until : ℕ) → now < end → end ≤ stop → IsEnd p stop (line_at p stop now) u → until ≡ min (max u (now + 1)) end → IsStraightTo p stop now end until
straight_to p stop now end u until order limit is value = record {
  later = omega (arith, value);
  by_end = omega (arith, value);
  line = λ more t after before. is.has t (omega (arith, line_starts p stop now)) (omega (arith, value, more, before));
}

-- ---- at one tick

-- what the record's pairs say
follows_is : (d : DeckValue) (w : Record) (n : List ℕ) (t : ℕ) (x y : ℤ) (a b : ℕ) → w n t ≡ record { num = x; den = a } → w n (suc t) ≡ record { num = y; den = b }
    → follows d w n t ≡ ((a == capacity d n) && ((b == capacity d n) && int_eq y (x +ℤ record_current d w t n)))
unfolding follows
follows_is d w n t x y a b now next = λ i. ((now i).den == capacity d n) && (((next i).den == capacity d n) && int_eq (next i).num ((now i).num +ℤ record_current d w t n))

module _ (c : CircuitValue) (h : RecordValue) (node : ℕ) (basis : IsBasis c h) (free : kind_at c node ≡ Free) where
  abbrev n : List ℕ
  n = name_at c node

  abbrev w : Record
  w = record_of c (pair_at h)

  -- below the stop it has a fault where the record does not go on
  pub fault_at : (t : ℕ) → t < c.deck.stop → has_fault c h node t ≡ not (follows c.deck (record_of c (pair_at h)) (name_at c node) t)
  unfolding is_fault
  fault_at t below = rw (name_free c node free, lt-ltb t c.deck.stop below) refl

  -- from the pairs of the tick and of the next
  pairs_fault : (t : ℕ) (x y : ℤ) (a b : ℕ) → t < c.deck.stop → record { num = x; den = a } ≡ pair_at h node t → record { num = y; den = b } ≡ pair_at h node (t + 1)
      → has_fault c h node t ≡ not ((a == capacity c.deck n) && ((b == capacity c.deck n) && int_eq y (x +ℤ current_at c h node t)))
  pairs_fault t x y a b below now next =
      let inside = free_inside c node free in
      fault_at t below ∙ ap not (follows_is c.deck w n t x y a b (record_at c h basis node t inside ∙ sym now) (record_at c h basis node (suc t) inside ∙ ap (pair_at h node) (omega arith) ∙ sym next))

  -- a denominator is wrong
  pub den_fault : (t : ℕ) (x y : ℤ) (a b : ℕ) → t < c.deck.stop → record { num = x; den = a } ≡ pair_at h node t → record { num = y; den = b } ≡ pair_at h node (t + 1)
      → (a ≢ capacity c.deck n) ⊎ (b ≢ capacity c.deck n) → has_fault c h node t ≡ true
  den_fault t x y a b below now next wrong = pairs_fault t x y a b below now next ∙ ⊎_elim
      (λ (first : a ≢ capacity c.deck n). rw (ne_eqb a (capacity c.deck n) first) refl)
      (λ (second : b ≢ capacity c.deck n). rw (ne_eqb b (capacity c.deck n) second) (off (a == capacity c.deck n)))
      wrong
    where
      off : (b : Bool) → not (b && false) ≡ true
      off true = refl
      off false = refl

  -- none is wrong
  pub num_fault : (t : ℕ) (x y : ℤ) (a b : ℕ) → t < c.deck.stop → record { num = x; den = a } ≡ pair_at h node t → record { num = y; den = b } ≡ pair_at h node (t + 1)
      → a ≡ capacity c.deck n → b ≡ capacity c.deck n → has_fault c h node t ≡ not (int_eq y (x +ℤ current_at c h node t))
  num_fault t x y a b below now next first second = pairs_fault t x y a b below now next ∙ rw (eq-eqb a (capacity c.deck n) first, eq-eqb b (capacity c.deck n) second) refl

  -- ---- over a stretch

  module _ (now until : ℕ) (holds : List Hold) (are : AreHolds c h node now holds) (on : AreOnTo until holds) where
    -- what flows in is what flows in through all devices
    pub current_is : (t : ℕ) → now ≤ t → t < until → current_at c h node t ≡ total holds
    current_is t after before =
        near_by_number c (volts c h t) (volts_of_ends c h t) node (limits c.deck basis.valid) basis.named basis.has_nodes (are_volts c h basis t) (free_inside c node free)
        ∙ total_flow c h node now until t holds are on after before

    module _ (end straight : ℕ) (line : IsStraightTo (pair_at h node) h.stop now end straight) (by : until ≤ straight) (limit : end ≤ c.deck.stop) where
      abbrev l : Line
      l = line_at (pair_at h node) h.stop now

      on_line : now + 1 < straight → IsStraight (record_of c (pair_at h)) (name_at c node) now straight l.num l.rate l.den
      on_line more s after before =
          record_at c h basis node s (free_inside c node free)
          ∙ line.line more s after before
          ∙ ap (λ k. record { num = l.num +ℤ (l.rate *ℤ pos (s - k)); den = l.den }) (line_starts (pair_at h node) h.stop now)

      wrong : now + 1 < straight → (t : ℕ) → now ≤ t → t < until → has_fault c h node t ≡ not ((l.den == capacity c.deck n) && int_eq l.rate (total holds))
      wrong more t after before =
          fault_straight c.deck w n now straight l.num l.rate l.den (on_line more) t after (omega (arith, before, by))
          ∙ rw (name_free c node free, lt-ltb t c.deck.stop (omega (arith, before, by, line.by_end, limit)), current_is t after before) refl

      -- so a tick has a fault where the first has one
      pub same_fault : (t : ℕ) → now ≤ t → t < until → has_fault c h node t ≡ has_fault c h node now
      same_fault t after before = ⊎_elim
          (λ (here : t ≡ now). ap (has_fault c h node) here)
          (λ (apart : t ≢ now).
          let more : now + 1 < straight = omega (arith, apart, after, before, by) in
          wrong more t after before ∙ sym (wrong more now (omega arith) (omega (arith, after, before))))
          (cases_eq t now)

-- ---- numbers as the code compares them

pub test_is : (x y : ℤ) → FitsSigned w128 x → FitsSigned w128 y → (of_z w128 x == of_z w128 y) ≡ int_eq x y
test_is x y fx fy = same_test (of_z w128 x == of_z w128 y) (int_eq x y)
    (λ h. let same : of_z w128 x ≡ of_z w128 y = eqb-true (of_z w128 x) (of_z w128 y) h in
    (Decides-int_eq x y).1 (sym (to_z-of_z w128 x fx) ∙ ap (to_z w128) same ∙ to_z-of_z w128 y fy))
    (λ h. eq-eqb (of_z w128 x) (of_z w128 y) (ap (of_z w128) ((Decides-int_eq x y).0 h)))
