-- What is an event tick by numbers is one by names.
use Rattle.std.proofs.Common.{◌≡◌, ℕ, zero, suc, ◌+◌, ◌<◌, ◌≤◌, Bool, true, false, cond, List, [], ◌∷◌, length, get_or, Option, Some, None, refl, sym, ap, ◌∙◌, arith, ⊎_elim, inl, inr, ℤ}
use Rattle.std.specs.Prelude.{◌⊎◌, filter, is_some, unwrap_or}
use Rattle.std.specs.List.{Contains, list_any}
use Rattle.std.specs.Option.{option_map_or}
use Rattle.std.specs.Str.{bytes_eq}
use Rattle.std.proofs.lemmas.List.{get_or_default}
use Rattle.std.proofs.lemmas.List.Elements.{All-filter, Contains-get_or}
use Rattle.semantics.specs.declared.element.Element.{Element}
use Rattle.semantics.specs.declared.element.Element.TheVariants.{Resistor, Capacitor, Source, Mos}
use Rattle.semantics.specs.declared.fraction.Fraction.{Fraction}
use Rattle.semantics.specs.Deck.{DeckValue, driver, ends_of}
use Rattle.semantics.specs.Grid.{cell, difference}
use Rattle.semantics.specs.Neighbours.{is_device, is_end}
use Rattle.semantics.specs.Record.{record_voltages}
use Rattle.semantics.specs.RecordWave.{record_cells}
use Rattle.semantics.proofs.Limits.{limits}
use Rattle.semantics.proofs.Nodes.{bytes_eq-same}
use Rattle.circuit_model.specs.declared.ends.Ends.{Ends}
use Rattle.circuit_model.specs.declared.node_kind.NodeKind.TheVariants.{Absent, Driven, Free}
use Rattle.circuit_model.specs.Ends.{End, cell_across, ends_in, number}
use Rattle.circuit_model.specs.Numbers.{CircuitValue, SameAtEnds, axes, cells_by_axis, device_of, devices, drain_cell, gate_cell, gate_grid_of, kind_at, name_at, no_element}
use Rattle.circuit_model.specs.Records.{record_of}
use Rattle.circuit_model.proofs.ByNumber.{cells_by_number}
use Rattle.circuit_model.proofs.NodeKinds.{driven_some}
use Rattle.window_run.specs.Circuit.{IsNumbered, net_of}
use Rattle.window_run.specs.Events.{HasEvents, IsEvent, Moves}
use Rattle.window_run.specs.Events as named
use Rattle.window_run.specs.Net.{Cells, HasEventTicks, IsEventTick, cells_in, volts}
use Rattle.window_run.specs.Net as net
use Rattle.window_run.proofs.ByNames.{any_of, end_volt}
use Rattle.window_run.proofs.Known.{gate_is}
use Rattle.window_run.proofs.Sources.{driven_kind}

-- ---- a device of the deck

device_among : (d : DeckValue) (k : ℕ) → k < length (devices d) → Contains d.elements (device_of d k)
unfolding devices
device_among d k below = All-filter is_device (λ e. Contains d.elements e) d.elements (λ j e h. Contains-get_or d.elements j e h) k no_element below

own_end : (e : Element) (j : ℕ) → j < length (ends_of e) → is_end (get_or (ends_of e) j []) e ≡ true
own_end e j inside =
    let m : List ℕ = get_or (ends_of e) j [] in
    any_of (bytes_eq m) (ends_of e) j m inside (get_or_default (ends_of e) j m [] inside) (bytes_eq-same m m refl)

-- its ends have by number the voltages that they have by name
ends_same : (c : CircuitValue) (x : ℕ → ℕ → Fraction) (t k : ℕ) → IsNumbered c → k < length (devices c.deck) → SameAtEnds c.names (volts (net_of c) x t) (record_voltages c.deck (record_of c x) t) (device_of c.deck k)
ends_same c x t k n below j inside =
    let at = device_among c.deck k below in
    let m : List ℕ = get_or (ends_of (device_of c.deck k)) j [] in
    end_volt c x t m n (any_of (is_end m) c.deck.elements at.0 (device_of c.deck k) at.1 at.2 (own_end (device_of c.deck k) j inside))

-- ---- its cells

some_same : (a b : Cells) → ◌≡◌ {A = Option Cells} (Some a) (Some b) → a ≡ b
some_same a b e = cc

axes_apart : (d : DeckValue) (e : Element) (ends : Ends) (u v : End → Fraction) → axes e (gate_cell d e ends u) (drain_cell d e ends u) ≡ axes e (gate_cell d e ends v) (drain_cell d e ends v) → ◌≡◌ {A = Cells} (gate_cell d e ends u, drain_cell d e ends u) (gate_cell d e ends v, drain_cell d e ends v)
axes_apart d (Resistor name first second ohms) ends u v same = ap (λ (c : Cells). (0, c.0)) same
axes_apart d (Mos name drain gate source bulk part len width) ends u v same = same
axes_apart d (Capacitor name plus minus farads) ends u v same = same
axes_apart d (Source name plus minus wave) ends u v same = same

by_axes : (c : CircuitValue) (v : End → Fraction) (k : ℕ) → cells_in (net_of c) v k ≡ (gate_cell c.deck (device_of c.deck k) (ends_in c.names (device_of c.deck k)) v, drain_cell c.deck (device_of c.deck k) (ends_in c.names (device_of c.deck k)) v)
unfolding net_of cells_in
by_axes c v k = rw (gate_is (gate_grid_of c.deck (device_of c.deck k)) (difference (v (ends_in c.names (device_of c.deck k)).gate) (v (ends_in c.names (device_of c.deck k)).second))) refl

cells_apart : (c : CircuitValue) (x : ℕ → ℕ → Fraction) (t s k : ℕ) → IsNumbered c → k < length (devices c.deck) → record_cells c.deck (record_of c x) t (device_of c.deck k) ≡ record_cells c.deck (record_of c x) s (device_of c.deck k)
    → cells_in (net_of c) (volts (net_of c) x t) k ≡ cells_in (net_of c) (volts (net_of c) x s) k
cells_apart c x t s k n below same =
    let u : End → Fraction = volts (net_of c) x t in
    let v : End → Fraction = volts (net_of c) x s in
    let l = limits c.deck n.valid in
    let named : ◌≡◌ {A = Option Cells} (Some (cells_by_axis c.deck c.names u k)) (Some (cells_by_axis c.deck c.names v k)) =
    sym (cells_by_number c.deck c.names (record_voltages c.deck (record_of c x) t) u k l below (ends_same c x t k n below))
    ∙ same ∙ cells_by_number c.deck c.names (record_voltages c.deck (record_of c x) s) v k l below (ends_same c x s k n below) in
    by_axes c u k
    ∙ axes_apart c.deck (device_of c.deck k) (ends_in c.names (device_of c.deck k)) u v (some_same (cells_by_axis c.deck c.names u k) (cells_by_axis c.deck c.names v k) named)
    ∙ sym (by_axes c v k)

-- ---- event ticks

moves : (c : CircuitValue) (x : ℕ → ℕ → Fraction) (t : ℕ) → IsNumbered c → net.Changes (net_of c) x t → Moves c.deck (record_of c x) t
unfolding net_of
moves c x t n changes = record {
  device = device_of c.deck changes.device;
  among = device_among c.deck changes.device changes.inside;
  before = changes.before;
  next = (let e = changes.next in omega (arith, e));
  other = λ same. changes.other (cells_apart c x t changes.before changes.device n changes.inside same);
}

bends : (c : CircuitValue) (t : ℕ) → net.Bends (net_of c) t → named.Bends c.deck t
unfolding net_of
bends c t bend = record {
  node = name_at c bend.node;
  is_driven = driven_some c bend.node (driven_kind (kind_at c bend.node) bend.is_driven);
  before = bend.before;
  next = (let e = bend.next in omega (arith, e));
  other = bend.other;
}

event : (c : CircuitValue) (x : ℕ → ℕ → Fraction) (from t : ℕ) → IsNumbered c → IsEventTick (net_of c) x from t → IsEvent c.deck (record_of c x) from t
event c x from t n is = ⊎_elim
    (λ (e : t ≡ from). inl e)
    (λ (later : (from < t) × (net.Changes (net_of c) x t ⊎ net.Bends (net_of c) t)). inr (
      later.0,
      ⊎_elim
          (λ (h : net.Changes (net_of c) x t). inl (moves c x t n h))
          (λ (h : net.Bends (net_of c) t). inr (bends c t h))
          later.1,
    ))
    is

pub events : (c : CircuitValue) (x : ℕ → ℕ → Fraction) (from n below : ℕ) → IsNumbered c → HasEventTicks (net_of c) x from n below → HasEvents c.deck (record_of c x) from n below
events c x from zero below numbered has = tt
events c x from (suc n) below numbered (t, lower, is, rest) = (t, lower, event c x from t numbered is, events c x from n t numbered rest)
