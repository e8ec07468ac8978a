-- The record with the pieces of a window in it follows the circuit.
use Rattle.std.proofs.Common.{◌≡◌, ◌≢◌, ℕ, zero, suc, ◌+◌, ◌-◌, ◌<◌, ◌≤◌, Bool, true, false, not, ◌&&◌, nat_lt, List, [], ◌∷◌, length, get_or, refl, sym, ap, ◌∙◌, arith, ⊎_elim, inl, inr, ◌+ℤ◌}
use Rattle.std.specs.List.{All, Contains, list_any}
use Rattle.std.specs.Ordering.{int_eq}
use Rattle.std.specs.Prelude.{◌==◌, ◌||◌}
use Rattle.std.specs.Str.{bytes_eq}
use Rattle.std.proofs.lemmas.Bool.{and_left, and_parts, cases_eq, false_from_ne_true, not_from_false, or_left, or_right}
use Rattle.std.proofs.lemmas.Bool.Decides.{Decides-int_eq}
use Rattle.semantics.specs.declared.fraction.Fraction.{Fraction}
use Rattle.semantics.specs.Deck.{capacity}
use Rattle.semantics.specs.Neighbours.{is_free}
use Rattle.semantics.specs.Record.{follows, is_fault, record_current}
use Rattle.semantics.specs.Stale.{is_turn}
use Rattle.semantics.proofs.Nodes.{bytes_eq-same}
use Rattle.circuit_model.specs.declared.node_kind.NodeKind.TheVariants.{Free}
use Rattle.circuit_model.specs.Numbers.{CircuitValue, kind_at, name_at}
use Rattle.circuit_model.specs.Records.{record_of}
use Rattle.circuit_model.proofs.NodeKinds.{kind_inside}
use Rattle.record_laws.proofs.Faults.{fault_real, goes_unfaulted}
use Rattle.window_run.specs.Circuit.{IsNumbered, net_of}
use Rattle.window_run.specs.Net.{IsRun, charged, current_at}
use Rattle.window_run.proofs.ByNames.{any_of, current_is, free_number, record_at}

-- ---- a circuit as a net

pub net_stop : (c : CircuitValue) → (net_of c).stop ≡ c.deck.stop
unfolding net_of
net_stop c = refl

pub net_nodes : (c : CircuitValue) → (net_of c).nodes ≡ length c.names
unfolding net_of
net_nodes c = refl

pub net_free : (c : CircuitValue) (i : ℕ) → kind_at c i ≡ Free → (net_of c).free i ≡ true
unfolding net_of
net_free c i free = rw (free) refl

pub free_inside : (c : CircuitValue) (i : ℕ) → kind_at c i ≡ Free → i < length c.names
free_inside c i free = kind_inside c i (λ absent. cc)

-- ---- without a fault

-- the free nodes have their capacitances from one tick to another
abbrev pub HaveDens : CircuitValue → (ℕ → ℕ → Fraction) → ℕ → ℕ → Type 0
HaveDens c x from until = (i s : ℕ) → kind_at c i ≡ Free → from ≤ s → s ≤ until → (x i s).den ≡ capacity c.deck (name_at c i)

number_faultless : (c : CircuitValue) (x : ℕ → ℕ → Fraction) (from until t i : ℕ) → IsNumbered c → IsRun (net_of c) x from until → HaveDens c x from until → from ≤ t → t < until → kind_at c i ≡ Free → is_fault c.deck (record_of c x) (name_at c i) t ≡ false
number_faultless c x from until t i numbered run dens low early free =
    let inside : i < length c.names = free_inside c i free in
    let now : record_of c x (name_at c i) t ≡ x i t = record_at c x i t numbered.names inside in
    let next : record_of c x (name_at c i) (suc t) ≡ x i (t + 1) = record_at c x i (suc t) numbered.names inside ∙ ap (x i) (omega arith) in
    let step : x i (t + 1) ≡ charged (x i t) (current_at (net_of c) x t i) = run i t (rw (net_nodes c) inside) (net_free c i free) low early in
    goes_unfaulted c.deck (record_of c x) (name_at c i) t
    (ap (λ (v : Fraction). v.den) now ∙ dens i t free low (omega (arith, early)))
    (ap (λ (v : Fraction). v.den) next ∙ dens i (t + 1) free (omega (arith, low)) (omega (arith, early)))
    (ap (λ (v : Fraction). v.num) (next ∙ step) ∙ (λ j. (sym now j).num +ℤ current_is c x t i numbered free j))

pub faultless : (c : CircuitValue) (x : ℕ → ℕ → Fraction) (from until t : ℕ) (n : List ℕ) → IsNumbered c → IsRun (net_of c) x from until → HaveDens c x from until → from ≤ t → t < until → is_fault c.deck (record_of c x) n t ≡ false
unfolding is_fault
faultless c x from until t n numbered run dens low early = by (is_free c.deck n) refl
  where
    by : (b : Bool) → is_free c.deck n ≡ b → is_fault c.deck (record_of c x) n t ≡ false
    by true free =
        let at = free_number c n numbered free in
        rw (at.name) at (number_faultless c x from until t at.node numbered run dens low early at.free)
    by false is = ap (λ b. (b && nat_lt t c.deck.stop) && not (follows c.deck (record_of c x) n t)) is

-- a name that is at fault is that of a free node
pub fault_named : (c : CircuitValue) (x : ℕ → ℕ → Fraction) (ns : List ℕ) (n : List ℕ) (t : ℕ) → IsNumbered c → ((i : ℕ) → kind_at c i ≡ Free → Contains ns i) → is_fault c.deck (record_of c x) n t ≡ true → list_any (λ i. bytes_eq n (name_at c i)) ns ≡ true
fault_named c x ns n t numbered all fault =
    let free : is_free c.deck n ≡ true = (and_parts (is_free c.deck n) (nat_lt t c.deck.stop) (fault_real c.deck (record_of c x) n t fault)).0 in
    let at = free_number c n numbered free in
    let has = all at.node at.free in
    any_of (λ i. bytes_eq n (name_at c i)) ns has.0 at.node has.1 has.2 (bytes_eq-same n (name_at c at.node) (sym at.name))

-- ---- turns

-- where another current flows into a node than at the tick before, it turns
pub turn_there : (c : CircuitValue) (x : ℕ → ℕ → Fraction) (i t : ℕ) → IsNumbered c → kind_at c i ≡ Free → (current_at (net_of c) x (t + 1) i ≡ current_at (net_of c) x t i → ⊥) → is_turn c.deck (record_of c x) (name_at c i) (t + 1) ≡ true
turn_there c x i t numbered free other =
    let w = record_of c x in
    let n = name_at c i in
    let e : t + 1 ≡ suc t = omega arith in
    let apart : int_eq (record_current c.deck w (suc t) n) (record_current c.deck w t n) ≡ false =
    false_from_ne_true _ (λ same. other (
    current_is c x (t + 1) i numbered free ∙ ap (λ k. record_current c.deck w k n) e
    ∙ (Decides-int_eq (record_current c.deck w (suc t) n) (record_current c.deck w t n)).0 same
    ∙ sym (current_is c x t i numbered free))) in
    rw e (not_from_false _ (and_left (int_eq (record_current c.deck w (suc t) n) (record_current c.deck w t n)) _ apart))
