-- What a circuit gives a window holds what is asked of it.
use Rattle.std.proofs.Common.{◌≡◌, ℕ, zero, suc, ◌+◌, ◌*◌, ◌^◌, ◌<◌, ◌≤◌, Bool, true, false, cond, eqb, List, [], ◌∷◌, ◌++◌, length, get_or, Option, Some, None, refl, sym, ap, ◌∙◌, arith, ℤ, pos, ◌+ℤ◌, unsigned_abs, ⊎_elim, inl, inr}
use Rattle.std.specs.Prelude.{◌⊎◌, ◌||◌, slice_get, is_some, unwrap_or}
use Rattle.std.specs.List.{All, Contains, fold, list_any, range_with_len}
use Rattle.std.specs.Option.{option_map_or}
use Rattle.std.specs.Str.{bytes_eq}
use Rattle.std.proofs.lemmas.Bool.{eq-eqb, false≢true, cases_eq}
use Rattle.std.proofs.lemmas.List.Elements.{All-filter}
use Rattle.std.proofs.lemmas.List.Sums.{fold-append}
use Rattle.std.proofs.lemmas.List.{get_or_default}
use Rattle.std.proofs.lemmas.Option.{get_or_from_slice_get, slice_get_within}
use Rattle.semantics.specs.declared.element.Element.{Element}
use Rattle.semantics.specs.declared.element.Element.TheVariants.{Resistor, Capacitor, Source, Mos}
use Rattle.semantics.specs.declared.fraction.Fraction.{Fraction}
use Rattle.semantics.specs.Deck.{DeckValue, driver, ends_of, nodes, terminals}
use Rattle.semantics.specs.Device.{current_in}
use Rattle.semantics.specs.Grid.{cell, difference}
use Rattle.semantics.specs.Ground.{is_ground}
use Rattle.semantics.specs.Neighbours.{is_device, is_end}
use Rattle.semantics.specs.Run.{node_current}
use Rattle.semantics.specs.Valid.{is_valid}
use Rattle.semantics.proofs.Limits.{Held, Limits, current_in_small, limits, node_current_small}
use Rattle.circuit_model.specs.declared.ends.Ends.{Ends}
use Rattle.circuit_model.specs.declared.node_kind.NodeKind.{NodeKind}
use Rattle.circuit_model.specs.declared.node_kind.NodeKind.TheVariants.{Absent, Driven, Free}
use Rattle.circuit_model.specs.Ends.{ends_in, no_volts, number}
use Rattle.circuit_model.specs.Names.{AreNames, HasNodes}
use Rattle.circuit_model.specs.Numbers.{CircuitValue, axes, device_flow, device_of, devices, drain_grid_of, gate_cell, gate_grid_of, inflow_over, kind_at, kind_of, name_at, near_of, no_element}
use Rattle.circuit_model.proofs.ByNumber.{AreVolts, devices_by_number, near_has}
use Rattle.circuit_model.proofs.Leads.{leads}
use Rattle.circuit_model.proofs.Named.{nodes_from, numbered_at}
use Rattle.circuit_model.proofs.NearLists.{near_inside}
use Rattle.circuit_model.proofs.NodeKinds.{held_here, kind_here, kind_inside}
use Rattle.semantics.proofs.Nodes.{end_seen, position-node}
use Rattle.window_run.specs.Circuit.{is_driven_kind, is_free_kind, net_of}
use Rattle.window_run.specs.Net.{Cells, End, IsAt, IsKnown, IsNet, Net, cells_in, ground, inflow, inflows}
use Rattle.window_run.proofs.Sources.{driven_kind, free_kind}

-- ---- ends

-- the name at a number that a name has
pub at_number : (names : List (List ℕ)) (name : List ℕ) (i : ℕ) → number names name ≡ Some i → get_or names i [] ≡ name
at_number names name i e = get_or_from_slice_get names i name [] (numbered_at names name i e)

pub inside_of : (names : List (List ℕ)) (name : List ℕ) (i : ℕ) → number names name ≡ Some i → i < length names
inside_of names name i e = slice_get_within names i name (numbered_at names name i e)

-- a node is free or driven
real_kind : (d : DeckValue) (n : List ℕ) → list_any (bytes_eq n) (nodes d) ≡ true → (is_free_kind (kind_of d n) ≡ true) ⊎ (is_driven_kind (kind_of d n) ≡ true)
unfolding kind_of
real_kind d n there = rw there (by (driver d n))
  where
    by : (o : Option (List (ℕ × ℤ) × Bool)) → (is_free_kind (cond (is_some o) Driven Free) ≡ true) ⊎ (is_driven_kind (cond (is_some o) Driven Free) ≡ true)
    by None = inl refl
    by (Some s) = inr refl

-- the ends of an element that are not ground are nodes
record AreSeen (d : DeckValue) (e : Element) : Type 0 where
  pub each : (j : ℕ) → j < length (ends_of e) → is_ground (get_or (ends_of e) j []) ≡ false → list_any (bytes_eq (get_or (ends_of e) j [])) (nodes d) ≡ true

seen_all : (d : DeckValue) → All (AreSeen d) d.elements
unfolding nodes
seen_all d = λ k e below. record {
  each = λ j inside real. end_seen d.elements [] k j (get_or d.elements k e) below (get_or_default d.elements k (get_or d.elements k e) e below) inside real;
}

known_name : (c : CircuitValue) (name : List ℕ) → AreNames c.names → (is_ground name ≡ false → list_any (bytes_eq name) (nodes c.deck) ≡ true) → IsKnown (net_of c) (number c.names name)
unfolding net_of
known_name c name are known = by (number c.names name) refl
  where
    by : (o : Option ℕ) → number c.names name ≡ o → IsKnown (net_of c) o
    by None e = tt
    by (Some i) e =
        let inside : i < length c.names = inside_of c.names name i e in
        let here : get_or c.names i [] ≡ name = at_number c.names name i e in
        let real : is_ground name ≡ false = ap is_ground (sym here) ∙ are.real i inside in
        let is : kind_at c i ≡ kind_of c.deck name = kind_here c i inside ∙ ap (kind_of c.deck) here in
        (inside, rw is (real_kind c.deck name (known real)))

-- all ends of a device
pub record EndsKnown (net : Net) (ends : Ends) : Type 0 where
  pub first : IsKnown net ends.first
  pub second : IsKnown net ends.second
  pub gate : IsKnown net ends.gate

ends_known : (c : CircuitValue) (e : Element) → AreNames c.names → AreSeen c.deck e → EndsKnown (net_of c) (ends_in c.names e)
ends_known c (Resistor name first second ohms) are known = record { first = known_name c first are (known.each 0 (omega arith)); second = known_name c second are (known.each 1 (omega arith)); gate = tt }
ends_known c (Mos name drain gate source bulk part len width) are known = record { first = known_name c drain are (known.each 0 (omega arith)); second = known_name c source are (known.each 2 (omega arith)); gate = known_name c gate are (known.each 1 (omega arith)) }
ends_known c (Capacitor name plus minus farads) are known = record { first = tt; second = tt; gate = tt }
ends_known c (Source name plus minus wave) are known = record { first = tt; second = tt; gate = tt }

known_device : (d : DeckValue) (k : ℕ) → k < length (devices d) → AreSeen d (device_of d k)
unfolding devices
known_device d k below = All-filter is_device (AreSeen d) d.elements (seen_all d) k no_element below

-- a device is near the nodes of its ends
or_second : (a b c : Bool) → b ≡ true → (a || (b || c)) ≡ true
or_second true b c e = refl
or_second false true c e = refl
or_second false false c e = absurd (false≢true e)

or_third : (a b c d : Bool) → c ≡ true → (a || (b || (c || d))) ≡ true
or_third true b c d e = refl
or_third false true c d e = refl
or_third false false true d e = refl
or_third false false false d e = absurd (false≢true e)

named : (names : List (List ℕ)) (name : List ℕ) (i : ℕ) → AreNames names → number names name ≡ Some i → bytes_eq (get_or names i []) name ≡ true
named names name i are e = sym (leads names i name (nodes_from names are) (inside_of names name i e)) ∙ ap (λ o. elim o as (λ _. Bool) [ None ↦ false | Some j ↦ eqb i j ]) e ∙ eq-eqb i i refl

no_number : (i : ℕ) → ◌≡◌ {A = Option ℕ} None (Some i) → ⊥
no_number i e = cc

touches : (names : List (List ℕ)) (e : Element) (i : ℕ) → AreNames names → ((ends_in names e).first ≡ Some i) ⊎ (((ends_in names e).second ≡ Some i) ⊎ ((ends_in names e).gate ≡ Some i)) → is_end (get_or names i []) e ≡ true
touches names (Resistor name first second ohms) i are at = ⊎_elim
    (λ (e : number names first ≡ Some i). rw (named names first i are e) refl)
    (λ rest. ⊎_elim (λ (e : number names second ≡ Some i). or_second (bytes_eq (get_or names i []) first) (bytes_eq (get_or names i []) second) false (named names second i are e)) (λ none. absurd (no_number i none)) rest)
    at
touches names (Mos name drain gate source bulk part len width) i are at = ⊎_elim
    (λ (e : number names drain ≡ Some i). rw (named names drain i are e) refl)
    (λ rest. ⊎_elim
    (λ (e : number names source ≡ Some i). or_third (bytes_eq (get_or names i []) drain) (bytes_eq (get_or names i []) gate) (bytes_eq (get_or names i []) source) false (named names source i are e))
    (λ (e : number names gate ≡ Some i). or_second (bytes_eq (get_or names i []) drain) (bytes_eq (get_or names i []) gate) (bytes_eq (get_or names i []) source || false) (named names gate i are e))
    rest)
    at
touches names (Capacitor name plus minus farads) i are at = ⊎_elim (λ none. absurd (no_number i none)) (λ rest. ⊎_elim (λ none. absurd (no_number i none)) (λ none. absurd (no_number i none)) rest) at
touches names (Source name plus minus wave) i are at = ⊎_elim (λ none. absurd (no_number i none)) (λ rest. ⊎_elim (λ none. absurd (no_number i none)) (λ none. absurd (no_number i none)) rest) at

-- ---- currents

range_more : (a n : ℕ) → range_with_len a (suc n) ≡ range_with_len a n ++ (a + n) ∷ []
range_more a zero = ap (λ x. x ∷ []) (omega arith)
range_more a (suc n) = ap (λ xs. a ∷ xs) (range_more (a + 1) n ∙ ap (λ x. range_with_len (a + 1) n ++ x ∷ []) (omega arith))

-- a sum from the last device, and one from the first
sum_is : (net : Net) (i : ℕ) (a f : ℕ → ℤ) (n : ℕ) → ((k : ℕ) → inflow net i k (a k) ≡ f k) → inflows net i a n ≡ fold (λ total k. total +ℤ f k) (pos 0) (range_with_len 0 n)
sum_is net i a f zero same = refl
sum_is net i a f (suc n) same =
    rw (sum_is net i a f n same, same n)
    (sym (ap (λ xs. fold (λ total k. total +ℤ f k) (pos 0) xs) (range_more 0 n) ∙ fold-append (λ total k. total +ℤ f k) (pos 0) (range_with_len 0 n) ((0 + n) ∷ [])
    ∙ ap (λ k. fold (λ total j. total +ℤ f j) (pos 0) (range_with_len 0 n) +ℤ f k) (omega arith)))

no_threshold : (v : Fraction) → cell [] v ≡ 0
unfolding cell
no_threshold v = refl

-- the cell in no grid is 0
pub gate_is : (o : Option (List ℤ)) (v : Fraction) → cell (unwrap_or o []) v ≡ option_map_or (λ grid. cell grid v) o 0
gate_is None v = no_threshold v
gate_is (Some grid) v = refl

-- what flows through a device by its axes
flow_same : (c : CircuitValue) (v : End → Fraction) (i k : ℕ) → inflow (net_of c) i k ((net_of c).amps k (cells_in (net_of c) v k)) ≡ device_flow c v i k
unfolding net_of cells_in
flow_same c v i k = rw (gate_is (gate_grid_of c.deck (device_of c.deck k)) (difference (v (ends_in c.names (device_of c.deck k)).gate) (v (ends_in c.names (device_of c.deck k)).second))) refl

-- ground has no number
pub no_ground : (names : List (List ℕ)) (n : List ℕ) → AreNames names → is_ground n ≡ true → number names n ≡ None
no_ground names n are g = by (number names n) refl
  where
    by : (o : Option ℕ) → number names n ≡ o → number names n ≡ None
    by None e = e
    by (Some i) e = absurd (false≢true (sym (are.real i (inside_of names n i e)) ∙ ap is_ground (at_number names n i e) ∙ g))

own_number : (names : List (List ℕ)) (i : ℕ) → AreNames names → i < length names → number names (get_or names i []) ≡ Some i
own_number names i are inside = position-node names i (get_or names i []) (nodes_from names are) inside refl

-- voltages by number are voltages by name
pub by_name : (c : CircuitValue) (v : End → Fraction) → AreNames c.names → v None ≡ ground → AreVolts c.names (λ n. v (number c.names n)) v
by_name c v are none = record {
  grounded = λ n g. ap v (no_ground c.names n are g) ∙ none;
  none = none;
  each = λ i inside. ap v (sym (own_number c.names i are inside));
}

-- what flows into a node, by number and by name
pub flows_by_name : (c : CircuitValue) (w : List ℕ → Fraction) (v : End → Fraction) (i : ℕ) → Limits c.deck → AreNames c.names → HasNodes c.deck c.names → AreVolts c.names w v → i < length c.names
    → inflows (net_of c) i (λ k. (net_of c).amps k (cells_in (net_of c) v k)) (net_of c).devices ≡ node_current c.deck w (name_at c i)
unfolding net_of
flows_by_name c w v i l are has volts inside =
    sum_is (net_of c) i (λ k. (net_of c).amps k (cells_in (net_of c) v k)) (device_flow c v i) (length (devices c.deck)) (flow_same c v i)
    ∙ sym (devices_by_number c w v i l are has volts inside)

not_absent : (k : NodeKind) → is_free_kind k ≡ true → k ≡ Absent → ⊥
not_absent Free e f = cc
not_absent Driven e f = false≢true e
not_absent Absent e f = false≢true e

apart_kinds : (k : NodeKind) → is_driven_kind k ≡ true → is_free_kind k ≡ false
apart_kinds Driven e = refl
apart_kinds Free e = absurd (false≢true e)
apart_kinds Absent e = refl

contains_inside : (P : ℕ → Type 0) (xs : List ℕ) (k : ℕ) → All P xs → Contains xs k → P k
contains_inside P xs k all (j, inside, is) = let p = all j k inside in rw is at p

pub is_net : (c : CircuitValue) → is_valid c.deck ≡ true → AreNames c.names → HasNodes c.deck c.names → length (devices c.deck) ≤ 100000 → IsNet (net_of c)
unfolding net_of
is_net c valid are has few =
    let l : Limits c.deck = limits c.deck valid in
    let inside : (i : ℕ) → is_free_kind (kind_at c i) ≡ true → i < length c.names = (λ i free. kind_inside c i (not_absent (kind_at c i) free)) in
    let known = (λ (k : ℕ) (below : k < length (devices c.deck)). ends_known c (device_of c.deck k) are (known_device c.deck k below)) in
    record {
      in_time = l.stop;
      few = few;
      short = (let h = are.few in omega (arith, h));
      free_inside = inside;
      gate = λ k below. (known k below).gate;
      first = λ k below. (known k below).first;
      second = λ k below. (known k below).second;
      near_inside = λ i k has_it. contains_inside (λ j. j < length (devices c.deck)) (near_of c.deck (name_at c i)) k (near_inside c.deck (name_at c i)) has_it;
      covers = λ i k below at. near_has c.deck (name_at c i) k below (touches c.names (device_of c.deck k) i are at);
      apart = λ i driven. apart_kinds (kind_at c i) driven;
      held = λ v i none free.
          let flow = flows_by_name c (λ n. v (number c.names n)) v i l are has (by_name c v are none) (inside i free) in
          let small = node_current_small c.deck (λ n. v (number c.names n)) (name_at c i) l in
          let ends = (held_here c i l (free_kind (kind_at c i) free)).ends in
          rw flow (omega (arith, small, ends));
      small = λ k cells below. current_in_small c.deck (device_of c.deck k) (axes (device_of c.deck k) cells.0 cells.1) l;
    }
