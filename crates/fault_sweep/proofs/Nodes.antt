-- Nodes by number: their voltages by the record, and where the ends of devices lead.
use Rattle.std.proofs.Common.{◌≡◌, ℕ, ◌<◌, Bool, true, false, ◌||◌, List, length, Option, Some, None, refl, sym, ◌∙◌, ℤ}
use Rattle.std.specs.Prelude.{if◌then◌else◌, is_some}
use Rattle.std.proofs.lemmas.Bool.{eq-eqb, or_left, or_right}
use Rattle.semantics.specs.declared.fraction.Fraction.{Fraction}
use Rattle.semantics.specs.Deck.{DeckValue, driver}
use Rattle.semantics.specs.Ground.{is_ground}
use Rattle.semantics.specs.Neighbours.{is_free}
use Rattle.semantics.specs.Run.{voltages}
use Rattle.semantics.proofs.Free.{free_real, free_undriven}
use Rattle.semantics.proofs.Neighbours.{driven_pair}
use Rattle.circuit_model.specs.declared.ends.Ends.{Ends}
use Rattle.circuit_model.specs.declared.node_kind.NodeKind.TheVariants.{Absent, Driven, Free}
use Rattle.circuit_model.specs.Ends.{End, ends_in, no_volts}
use Rattle.circuit_model.specs.Near.{ends_at}
use Rattle.circuit_model.specs.Numbers.{CircuitValue, device_of, devices, kind_at, name_at}
use Rattle.circuit_model.specs.Wiring.{leads_to}
use Rattle.circuit_model.proofs.ByNumber.{AreVolts, end_kind}
use Rattle.circuit_model.proofs.NodeKinds.{driven_some, kind_free, kind_here, kind_inside, real_kind}
use Rattle.histories.specs.Record.{RecordValue, pair_at}
use Rattle.record_laws.proofs.Numbers.{named_at}
use Rattle.circuit_model.specs.Records.{record_of}
use Rattle.fault_sweep.specs.Records.{IsBasis, volts, volts_of_ends}
use Rattle.fault_sweep.specs.Stretches.{IsReal}

-- ---- kinds

pub free_inside : (c : CircuitValue) (node : ℕ) → kind_at c node ≡ Free → node < length c.names
free_inside c node free = kind_inside c node (λ absent. let clash : Free ≡ Absent = sym free ∙ absent in absurd (cc))

pub name_free : (c : CircuitValue) (node : ℕ) → kind_at c node ≡ Free → is_free c.deck (name_at c node) ≡ true
name_free c node free = kind_free c.deck (name_at c node) (sym (kind_here c node (free_inside c node free)) ∙ free)

some_is : {A : Type 0} (o : Option A) → is_some o ≡ true → (x : A) × (o ≡ Some x)
some_is None h = absurd (cc)
some_is (Some x) h = (x, refl)

pub driven_by : (c : CircuitValue) (node : ℕ) → kind_at c node ≡ Driven → (s : List (ℕ × ℤ) × Bool) × (driver c.deck (name_at c node) ≡ Some s)
driven_by c node driven = some_is (driver c.deck (name_at c node)) (driven_some c node driven)

-- ---- voltages

ground_volts : (d : DeckValue) (t : ℕ) (a : List ℕ → Fraction) (n : List ℕ) → is_ground n ≡ true → voltages d t a n ≡ no_volts
unfolding voltages
ground_volts d t a n is = rw is refl

undriven_volts : (d : DeckValue) (t : ℕ) (a : List ℕ → Fraction) (n : List ℕ) → is_ground n ≡ false → driver d n ≡ None → voltages d t a n ≡ a n
unfolding voltages
undriven_volts d t a n real none = rw (real, none) refl

driven_volts : (d : DeckValue) (t : ℕ) (a : List ℕ → Fraction) (n : List ℕ) (s : List (ℕ × ℤ) × Bool) → is_ground n ≡ false → driver d n ≡ Some s → voltages d t a n ≡ driven_pair s t
unfolding voltages
driven_volts d t a n s real is = rw (real, is) refl

module _ (c : CircuitValue) (h : RecordValue) (basis : IsBasis c h) where
  -- the pair of a number is that of its name
  pub record_at : (node t : ℕ) → node < length c.names → record_of c (pair_at h) (name_at c node) t ≡ pair_at h node t
  record_at node t below = named_at c.names (pair_at h) node t (λ j before. basis.named.apart j node before below) below

  pub volts_free : (node t : ℕ) → kind_at c node ≡ Free → volts c h t (name_at c node) ≡ pair_at h node t
  volts_free node t free =
      let is = name_free c node free in
      undriven_volts c.deck t (λ m. record_of c (pair_at h) m t) (name_at c node) (free_real c.deck (name_at c node) is) (free_undriven c.deck (name_at c node) is) ∙ record_at node t (free_inside c node free)

  pub volts_driven : (node t : ℕ) (s : List (ℕ × ℤ) × Bool) → kind_at c node ≡ Driven → driver c.deck (name_at c node) ≡ Some s → volts c h t (name_at c node) ≡ driven_pair s t
  volts_driven node t s driven is =
      let inside = kind_inside c node (λ absent. let clash : Driven ≡ Absent = sym driven ∙ absent in absurd (cc)) in
      driven_volts c.deck t (λ m. record_of c (pair_at h) m t) (name_at c node) s (basis.named.real node inside) is

  pub are_volts : (t : ℕ) → AreVolts c.names (volts c h t) (volts_of_ends c h t)
  are_volts t = record {
    grounded = λ n is. ground_volts c.deck t (λ m. record_of c (pair_at h) m t) n is;
    none = refl;
    each = λ i below. refl;
  }

-- ---- the ends of devices

pub record AreReal (c : CircuitValue) (ends : Ends) : Type 0 where
  pub first : IsReal c ends.first
  pub second : IsReal c ends.second
  pub gate : IsReal c ends.gate

not_absent : (d : DeckValue) (n : List ℕ) → real_kind d n ≡ Absent → ⊥
not_absent d n = by (is_some (driver d n))
  where
    by : (b : Bool) → (if b then Driven else Free) ≡ Absent → ⊥
    by true h = absurd (cc)
    by false h = absurd (cc)

pub ends_real : (c : CircuitValue) (h : RecordValue) (k : ℕ) → IsBasis c h → k < length (devices c.deck) → AreReal c (ends_in c.names (device_of c.deck k))
ends_real c h k basis below = record {
  first = real ends.first (λ i leads. or_left (leads_to i ends.first) (leads_to i ends.gate || leads_to i ends.second) leads);
  second = real ends.second (λ i leads. or_right (leads_to i ends.first) (leads_to i ends.gate || leads_to i ends.second) (or_right (leads_to i ends.gate) (leads_to i ends.second) leads));
  gate = real ends.gate (λ i leads. or_right (leads_to i ends.first) (leads_to i ends.gate || leads_to i ends.second) (or_left (leads_to i ends.gate) (leads_to i ends.second) leads));
}
  where
    ends : Ends
    ends = ends_in c.names (device_of c.deck k)

    real : (end : End) → ((i : ℕ) → leads_to i end ≡ true → ends_at i (ends_in c.names (device_of c.deck k)) ≡ true) → IsReal c end
    real None at = tt
    real (Some i) at = λ absent. not_absent c.deck (name_at c i) (sym (end_kind c k i basis.named below (at i (eq-eqb i i refl))).1 ∙ absent)
