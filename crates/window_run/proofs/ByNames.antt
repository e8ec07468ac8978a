-- What flows by numbers of nodes and devices flows by names, at the voltages of any record.
use Rattle.std.proofs.Common.{◌≡◌, ℕ, zero, suc, ◌<◌, Bool, true, false, cond, ◌&&◌, not, List, [], ◌∷◌, length, get_or, Option, Some, None, refl, sym, ap, ◌∙◌, arith, ℤ, pos}
use Rattle.std.specs.Prelude.{is_none, is_some}
use Rattle.std.specs.List.{list_any}
use Rattle.std.specs.Str.{bytes_eq}
use Rattle.std.proofs.lemmas.Bool.{and_parts, false≢true, or_left, or_right}
use Rattle.semantics.specs.declared.fraction.Fraction.{Fraction}
use Rattle.semantics.specs.Ground.{is_ground}
use Rattle.semantics.specs.Deck.{DeckValue, driver, nodes}
use Rattle.semantics.specs.Neighbours.{is_end, is_free, share}
use Rattle.semantics.specs.Record.{record_current, record_voltages}
use Rattle.semantics.specs.Run.{node_current, voltages}
use Rattle.semantics.specs.Source.{pair_at, signed}
use Rattle.semantics.proofs.Flows.{near_suffices}
use Rattle.semantics.proofs.Free.{free_is, node_is}
use Rattle.semantics.proofs.Limits.{limits}
use Rattle.semantics.proofs.Neighbours.{share_end}
use Rattle.circuit_model.specs.declared.node_kind.NodeKind.{NodeKind}
use Rattle.circuit_model.specs.declared.node_kind.NodeKind.TheVariants.{Absent, Driven, Free}
use Rattle.circuit_model.specs.Drive.{course, drive_of, signed_line}
use Rattle.circuit_model.specs.Ends.{number}
use Rattle.circuit_model.specs.Names.{AreNames}
use Rattle.circuit_model.specs.Numbers.{CircuitValue, kind_at, kind_of, name_at}
use Rattle.circuit_model.specs.Records.{record_of}
use Rattle.circuit_model.proofs.Leads.{position_none}
use Rattle.circuit_model.proofs.NodeKinds.{free_kind, kind_here, kind_inside, kind_seen, real_kind}
use Rattle.record_laws.proofs.Numbers.{named_at}
use Rattle.window_run.specs.Circuit.{IsNumbered, net_of}
use Rattle.window_run.specs.Net.{End, current_at, driven_pair, ground, volts}
use Rattle.window_run.proofs.Known.{at_number, by_name, flows_by_name, inside_of, no_ground}

-- one of a list passes a test
pub any_of : {A : Type 0} (p : A → Bool) (xs : List A) (k : ℕ) (x : A) → k < length xs → get_or xs k x ≡ x → p x ≡ true → list_any p xs ≡ true
any_of p [] k x h e passes = absurd (omega (arith, h))
any_of p (y ∷ ys) zero x h e passes = or_left (p y) (list_any p ys) (ap p e ∙ passes)
any_of p (y ∷ ys) (suc k) x h e passes = or_right (p y) (list_any p ys) (any_of p ys k x (omega (arith, h)) e passes)

-- ---- numbers

-- the pair of a number is that of its name
pub record_at : (c : CircuitValue) (x : ℕ → ℕ → Fraction) (i t : ℕ) → AreNames c.names → i < length c.names → record_of c x (name_at c i) t ≡ x i t
record_at c x i t names below = named_at c.names x i t (λ j before. names.apart j i before below) below

-- a node of the deck has a number
named_is : (c : CircuitValue) (m : List ℕ) → IsNumbered c → list_any (bytes_eq m) (nodes c.deck) ≡ true → list_any (bytes_eq m) c.names ≡ true
named_is c m n seen = by (number (nodes c.deck) m) refl
  where
    by : (o : Option ℕ) → number (nodes c.deck) m ≡ o → list_any (bytes_eq m) c.names ≡ true
    by None is = absurd (false≢true (sym (position_none (bytes_eq m) (nodes c.deck) is) ∙ seen))
    by (Some k) is = ap (λ name. list_any (bytes_eq name) c.names) (sym (at_number (nodes c.deck) m k is)) ∙ n.has k (inside_of (nodes c.deck) m k is)

-- the number of a free node
pub record HasNumber (c : CircuitValue) (n : List ℕ) : Type 0 where
  pub node : ℕ
  pub inside : node < length c.names
  pub name : name_at c node ≡ n
  pub free : kind_at c node ≡ Free

pub free_number : (c : CircuitValue) (n : List ℕ) → IsNumbered c → is_free c.deck n ≡ true → HasNumber c n
free_number c n numbered free = by (number c.names n) refl
  where
    seen : list_any (bytes_eq n) (nodes c.deck) ≡ true
    seen = (and_parts (list_any (bytes_eq n) (nodes c.deck)) (is_none (driver c.deck n)) (sym (free_is c.deck n ∙ ap (λ b. b && is_none (driver c.deck n)) (sym (node_is c.deck n))) ∙ free)).0

    by : (o : Option ℕ) → number c.names n ≡ o → HasNumber c n
    by None is = absurd (false≢true (sym (position_none (bytes_eq n) c.names is) ∙ named_is c n numbered seen))
    by (Some i) is =
        let inside = inside_of c.names n i is in
        let here = at_number c.names n i is in
        record {
          node = i;
          inside = inside;
          name = here;
          free = kind_here c i inside ∙ ap (kind_of c.deck) here ∙ free_kind c.deck n free;
        }

-- ---- voltages

ground_volts : (d : DeckValue) (t : ℕ) (a : List ℕ → Fraction) (n : List ℕ) → is_ground n ≡ true → voltages d t a n ≡ ground
unfolding voltages
ground_volts d t a n is = rw is refl

undriven_volts : (d : DeckValue) (t : ℕ) (a : List ℕ → Fraction) (n : List ℕ) → is_ground n ≡ false → driver d n ≡ None → voltages d t a n ≡ a n
unfolding voltages
undriven_volts d t a n real none = rw (real, none) refl

source_volts : (d : DeckValue) (t : ℕ) (a : List ℕ → Fraction) (n : List ℕ) (s : List (ℕ × ℤ) × Bool) → is_ground n ≡ false → driver d n ≡ Some s → voltages d t a n ≡ record { num = signed s.1 (pair_at s.0 t).num; den = (pair_at s.0 t).den }
unfolding voltages
source_volts d t a n s real driven = rw (real, driven) refl

drive_is : (d : DeckValue) (n : List ℕ) (s : List (ℕ × ℤ) × Bool) (t : ℕ) → driver d n ≡ Some s → drive_of d n t ≡ signed_line s.1 (course s.0 t)
unfolding drive_of
drive_is d n s t driven = rw (driven, drive_of) refl

driven_volts : (d : DeckValue) (n : List ℕ) (s : List (ℕ × ℤ) × Bool) (t : ℕ) (a : List ℕ → Fraction) → is_ground n ≡ false → driver d n ≡ Some s → driven_pair (drive_of d n t) ≡ voltages d t a n
unfolding course
driven_volts d n s t a real driven = rw (drive_is d n s t driven, source_volts d t a n s real driven) refl

volt_free : (c : CircuitValue) (x : ℕ → ℕ → Fraction) (t j : ℕ) → kind_at c j ≡ Free → volts (net_of c) x t (Some j) ≡ x j t
unfolding net_of
volt_free c x t j is = rw (is) refl

volt_driven : (c : CircuitValue) (x : ℕ → ℕ → Fraction) (t j : ℕ) → kind_at c j ≡ Driven → volts (net_of c) x t (Some j) ≡ driven_pair (drive_of c.deck (name_at c j) t)
unfolding net_of
volt_driven c x t j is = rw (is) refl

-- a node of the deck has by its number the voltage that it has by its name
node_volt : (c : CircuitValue) (x : ℕ → ℕ → Fraction) (t j : ℕ) (m : List ℕ) → IsNumbered c → is_ground m ≡ false → list_any (bytes_eq m) (nodes c.deck) ≡ true → j < length c.names → name_at c j ≡ m
    → volts (net_of c) x t (Some j) ≡ record_voltages c.deck (record_of c x) t m
node_volt c x t j m n real seen inside here = by (driver c.deck m) refl
  where
    kind : kind_at c j ≡ real_kind c.deck m
    kind = kind_here c j inside ∙ ap (kind_of c.deck) here ∙ kind_seen c.deck m seen

    by : (o : Option (List (ℕ × ℤ) × Bool)) → driver c.deck m ≡ o → volts (net_of c) x t (Some j) ≡ record_voltages c.deck (record_of c x) t m
    by None is =
        let free : kind_at c j ≡ Free = kind ∙ rw (is) refl in
        volt_free c x t j free ∙ sym (record_at c x j t n.names inside) ∙ ap (λ name. record_of c x name t) here ∙ sym (undriven_volts c.deck t (λ name. record_of c x name t) m real is)
    by (Some s) is =
        let driven : kind_at c j ≡ Driven = kind ∙ rw (is) refl in
        volt_driven c x t j driven ∙ ap (λ name. driven_pair (drive_of c.deck name t)) here ∙ driven_volts c.deck m s t (λ name. record_of c x name t) real is

-- ground or a node
pub end_volt : (c : CircuitValue) (x : ℕ → ℕ → Fraction) (t : ℕ) (m : List ℕ) → IsNumbered c → list_any (is_end m) c.deck.elements ≡ true → volts (net_of c) x t (number c.names m) ≡ record_voltages c.deck (record_of c x) t m
end_volt c x t m n end = by (is_ground m) refl
  where
    by_number : is_ground m ≡ false → (o : Option ℕ) → number c.names m ≡ o → volts (net_of c) x t o ≡ record_voltages c.deck (record_of c x) t m
    by_number real None is =
        let seen : list_any (bytes_eq m) (nodes c.deck) ≡ true = node_is c.deck m ∙ rw (real, end) refl in
        let named = named_is c m n seen in
        absurd (false≢true (sym (position_none (bytes_eq m) c.names is) ∙ named))
    by_number real (Some j) is =
        let seen : list_any (bytes_eq m) (nodes c.deck) ≡ true = node_is c.deck m ∙ rw (real, end) refl in
        node_volt c x t j m n real seen (inside_of c.names m j is) (at_number c.names m j is)

    by : (b : Bool) → is_ground m ≡ b → volts (net_of c) x t (number c.names m) ≡ record_voltages c.deck (record_of c x) t m
    by true g = ap (volts (net_of c) x t) (no_ground c.names m n.names g) ∙ sym (ground_volts c.deck t (λ name. record_of c x name t) m g)
    by false real = by_number real (number c.names m) refl

-- ---- currents

-- what flows into a free node
pub current_is : (c : CircuitValue) (x : ℕ → ℕ → Fraction) (t i : ℕ) → IsNumbered c → kind_at c i ≡ Free → current_at (net_of c) x t i ≡ record_current c.deck (record_of c x) t (name_at c i)
current_is c x t i n free =
    let v : End → Fraction = volts (net_of c) x t in
    let w : List ℕ → Fraction = λ m. v (number c.names m) in
    flows_by_name c w v i (limits c.deck n.valid) n.names n.has (by_name c v n.names refl) (kind_inside c i (λ absent. cc))
    ∙ near_suffices c.deck w (record_voltages c.deck (record_of c x) t) (name_at c i) (λ m joined. end_volt c x t m n (share_end c.deck m (name_at c i) joined))
