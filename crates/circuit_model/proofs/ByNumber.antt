-- What the numbers of a circuit say of its nodes and devices by name, at any voltages: the cells and the current of a device, what flows into a node, and which devices are near it.
use Rattle.std.proofs.Common.{◌≡◌, ◌≢◌, ℕ, zero, suc, ◌+◌, ◌*◌, ◌^◌, ◌<◌, ◌≤◌, Bool, true, false, ◌||◌, cond, List, [], ◌∷◌, length, get_or, Option, Some, None, refl, sym, ap, subst, ◌∙◌, arith, ℤ, pos, ◌+ℤ◌, ⊎_elim}
use Rattle.std.specs.Prelude.{is_some, unsigned_abs}
use Rattle.std.specs.List.{All, Contains, filter, fold, list_any, range_with_len}
use Rattle.std.specs.Str.{bytes_eq}
use Rattle.std.proofs.lemmas.Bool.{cases_eq, eqb-true, false≢true, or_cases}
use Rattle.std.proofs.lemmas.List.Elements.{All-filter}
use Rattle.std.proofs.lemmas.List.Quantifiers.{position-Some}
use Rattle.semantics.specs.declared.element.Element.{Element}
use Rattle.semantics.specs.declared.element.Element.TheVariants.{Resistor, Capacitor, Source, Mos}
use Rattle.semantics.specs.declared.fraction.Fraction.{Fraction}
use Rattle.semantics.specs.Deck.{DeckValue, ends_of, nodes, terminals}
use Rattle.semantics.specs.Ground.{is_ground}
use Rattle.semantics.specs.Device.{cells, current, current_in}
use Rattle.semantics.specs.Neighbours.{is_device, is_end}
use Rattle.semantics.specs.Run.{flow, node_current}
use Rattle.semantics.specs.Valid.{has_part}
use Rattle.semantics.proofs.Limits.{Limits, node_current_small}
use Rattle.semantics.proofs.Nodes.{position-node, same-bytes_eq}
use Rattle.circuit_model.specs.declared.node_kind.NodeKind.TheVariants.{Absent, Free}
use Rattle.circuit_model.specs.Ends.{End, ends_in, no_volts, number}
use Rattle.circuit_model.specs.Names.{AreNames, HasNodes}
use Rattle.circuit_model.specs.Numbers.{CircuitValue, SameAtEnds, cells_by_axis, device_flow, device_of, devices, inflow_over, name_at, near_of, no_element, kind_at}
use Rattle.circuit_model.specs.Near.{ends_at}
use Rattle.circuit_model.specs.Wiring.{DeviceLaw, inflow, law_at, leads_to}
use Rattle.circuit_model.proofs.Devices.{cells_axes, cells_by_law, current_of, flow_by_number}
use Rattle.circuit_model.proofs.Leads.{AreKnown, IsGrounded, known_all, known_more, same_at_ends, IsKnown}
use Rattle.circuit_model.proofs.Named.{nodes_from}
use Rattle.circuit_model.proofs.NearLists.{kept_passes, near_inside, touches}
use Rattle.circuit_model.proofs.NodeKinds.{held_here, kind_here, kind_inside, kind_seen, real_kind}
use Rattle.circuit_model.proofs.NearSums.{devices_suffice, near_suffices}
use Rattle.circuit_model.proofs.Numbered.{law_there}
use Rattle.circuit_model.proofs.Places.{all_from}

-- ---- a device of the deck

device_law : (d : DeckValue) (k : ℕ) → Limits d → k < length (devices d) → is_some (law_at d (device_of d k)) ≡ true
unfolding devices
device_law d k l below =
    law_there d (device_of d k) (All-filter is_device (λ e. has_part d e ≡ true) d.elements (all_from (has_part d) d.elements l.has_part) k no_element below)
    ∙ kept_passes d.elements k below

-- its ends are ground or names of nodes
pub device_known : (d : DeckValue) (names : List (List ℕ)) (k : ℕ) → HasNodes d names → k < length (devices d) → AreKnown names (device_of d k)
unfolding devices
device_known d names k has below = known_more d names (device_of d k) has (All-filter is_device (AreKnown (nodes d)) d.elements (known_all d) k no_element below)

-- by number and by name its cells are the same
pub cells_by_number : (d : DeckValue) (names : List (List ℕ)) (v : List ℕ → Fraction) (volt : End → Fraction) (k : ℕ) → Limits d → k < length (devices d) → SameAtEnds names volt v (device_of d k)
    → cells d v (device_of d k) ≡ Some (cells_by_axis d names volt k)
cells_by_number d names v volt k l below same = by (law_at d (device_of d k)) refl (device_law d k l below)
  where
    e : Element
    e = device_of d k

    by : (o : Option DeviceLaw) → law_at d e ≡ o → is_some (law_at d e) ≡ true → cells d v e ≡ Some (cells_by_axis d names volt k)
    by None is some = let clash : false ≡ true = sym (ap is_some is) ∙ some in absurd (cc)
    by (Some law) is some = cells_by_law d names v volt e law is same ∙ ap Some (cells_axes d e law (ends_in names e) volt is)

-- and so is its current
pub current_by_number : (d : DeckValue) (names : List (List ℕ)) (v : List ℕ → Fraction) (volt : End → Fraction) (k : ℕ) → Limits d → k < length (devices d) → SameAtEnds names volt v (device_of d k)
    → current d v (device_of d k) ≡ current_in d (device_of d k) (cells_by_axis d names volt k)
current_by_number d names v volt k l below same = current_of d v (device_of d k) (cells_by_axis d names volt k) (cells_by_number d names v volt k l below same)

-- ---- what flows into a node

-- voltages by number, of which ground has none, that are those by name
pub record AreVolts (names : List (List ℕ)) (v : List ℕ → Fraction) (volt : End → Fraction) : Type 0 where
  pub grounded : IsGrounded v
  pub none : volt None ≡ no_volts
  pub each : (i : ℕ) → i < length names → volt (Some i) ≡ v (get_or names i [])

pub same_ends : (d : DeckValue) (names : List (List ℕ)) (v : List ℕ → Fraction) (volt : End → Fraction) (k : ℕ) → HasNodes d names → AreVolts names v volt → k < length (devices d) → SameAtEnds names volt v (device_of d k)
same_ends d names v volt k has volts below = same_at_ends names v volt (device_of d k) volts.grounded volts.none volts.each (device_known d names k has below)

pub flow_is : (c : CircuitValue) (v : List ℕ → Fraction) (volt : End → Fraction) (node k : ℕ) → Limits c.deck → AreNames c.names → HasNodes c.deck c.names → AreVolts c.names v volt → node < length c.names → k < length (devices c.deck)
    → flow c.deck v (name_at c node) (device_of c.deck k) ≡ device_flow c volt node k
flow_is c v volt node k l are has volts inside below =
    flow_by_number c.deck v c.names node (device_of c.deck k) (nodes_from c.names are) inside
    ∙ ap (inflow node (ends_in c.names (device_of c.deck k))) (current_by_number c.deck c.names v volt k l below (same_ends c.deck c.names v volt k has volts below))

-- sums of equal numbers
sums_same : (f g : ℕ → ℤ) (ks : List ℕ) (z : ℤ) → All (λ k. f k ≡ g k) ks → fold (λ total k. total +ℤ f k) z ks ≡ fold (λ total k. total +ℤ g k) z ks
sums_same f g [] z all = refl
sums_same f g (k ∷ ks) z all =
    ap (λ x. fold (λ total j. total +ℤ f j) (z +ℤ x) ks) (all 0 k (omega arith)) ∙ sums_same f g ks (z +ℤ g k) (λ j e below. all (suc j) e (omega (arith, below)))

-- what flows into a node is the sum of what flows through the devices near it, by number
pub near_by_number : (c : CircuitValue) (v : List ℕ → Fraction) (volt : End → Fraction) (node : ℕ) → Limits c.deck → AreNames c.names → HasNodes c.deck c.names → AreVolts c.names v volt → node < length c.names
    → node_current c.deck v (name_at c node) ≡ inflow_over c volt node (near_of c.deck (name_at c node))
near_by_number c v volt node l are has volts inside =
    near_suffices c.deck v (name_at c node)
    ∙ sums_same (λ k. flow c.deck v (name_at c node) (device_of c.deck k)) (device_flow c volt node) (near_of c.deck (name_at c node)) (pos 0)
    (λ j e below. flow_is c v volt node (get_or (near_of c.deck (name_at c node)) j e) l are has volts inside (near_inside c.deck (name_at c node) j e below))

range_inside : (a n : ℕ) → All (λ k. k < a + n) (range_with_len a n)
range_inside a zero = λ k d below. absurd (omega (arith, below))
range_inside a (suc n) = at (range_inside (a + 1) n)
  where
    at : All (λ k. k < a + 1 + n) (range_with_len (a + 1) n) → (k d : ℕ) → k < length (a ∷ range_with_len (a + 1) n) → get_or (a ∷ range_with_len (a + 1) n) k d < a + suc n
    at rest zero d below = omega arith
    at rest (suc k) d below = let one = rest k d (omega arith) in omega (arith, one)

-- and through all devices
pub devices_by_number : (c : CircuitValue) (v : List ℕ → Fraction) (volt : End → Fraction) (node : ℕ) → Limits c.deck → AreNames c.names → HasNodes c.deck c.names → AreVolts c.names v volt → node < length c.names
    → node_current c.deck v (name_at c node) ≡ inflow_over c volt node (range_with_len 0 (length (devices c.deck)))
devices_by_number c v volt node l are has volts inside =
    devices_suffice c.deck v (name_at c node)
    ∙ sums_same (λ k. flow c.deck v (name_at c node) (device_of c.deck k)) (device_flow c volt node) (range_with_len 0 (length (devices c.deck))) (pos 0)
    (λ j e below. let one = range_inside 0 (length (devices c.deck)) j e below in
    flow_is c v volt node (get_or (range_with_len 0 (length (devices c.deck))) j e) l are has volts inside (omega (arith, one)))

-- ---- which devices are near

has_from : (p : ℕ → Bool) (a n k : ℕ) → a ≤ k → k < a + n → p k ≡ true → Contains (filter p (range_with_len a n)) k
has_from p a zero k low high passes = absurd (omega arith)
has_from p a (suc n) k low high passes = by (p a) refl (λ apart. has_from p (a + 1) n k (omega (arith, apart)) (omega arith) passes)
  where
    rest : List ℕ
    rest = filter p (range_with_len (a + 1) n)

    by : (b : Bool) → p a ≡ b → (k ≢ a → Contains rest k) → Contains (cond b (a ∷ rest) rest) k
    by true is later = ⊎_elim
        (λ (here : k ≡ a). (0, omega arith, sym here))
        (λ (apart : k ≢ a). let found = later apart in (suc found.0, omega (arith, found.1), found.2))
        (cases_eq k a)
    by false is later = later (λ here. let clash : false ≡ true = sym is ∙ ap p (sym here) ∙ passes in absurd (cc))

-- a device that has the node at an end is near it
pub near_has : (d : DeckValue) (n : List ℕ) (k : ℕ) → k < length (devices d) → is_end n (device_of d k) ≡ true → Contains (near_of d n) k
unfolding near_of
near_has d n k below end = has_from (λ j. is_end n (device_of d j)) 0 (length (devices d)) k (omega arith) (omega (arith, below)) end

-- and so by its ends
pub near_touched : (c : CircuitValue) (node k : ℕ) → AreNames c.names → node < length c.names → k < length (devices c.deck) → ends_at node (ends_in c.names (device_of c.deck k)) ≡ true
    → Contains (near_of c.deck (name_at c node)) k
unfolding devices
near_touched c node k are inside below at =
    near_has c.deck (name_at c node) k below (sym (touches c.names node (device_of c.deck k) (nodes_from c.names are) inside (kept_passes c.deck.elements k below)) ∙ at)

-- ---- where ends lead

leads_is : (i : ℕ) (end : End) → leads_to i end ≡ true → end ≡ Some i
leads_is i None h = absurd (false≢true h)
leads_is i (Some j) h = ap Some (sym (eqb-true i j h))

-- an end of an element that leads to a node
record HasEnd (names : List (List ℕ)) (e : Element) (i : ℕ) : Type 0 where
  place : ℕ
  inside : place < length (ends_of e)
  leads_there : number names (get_or (ends_of e) place []) ≡ Some i

has_end : (names : List (List ℕ)) (e : Element) (i : ℕ) → ends_at i (ends_in names e) ≡ true → HasEnd names e i
has_end names (Resistor name first second ohms) i at = ⊎_elim
    (λ (here : leads_to i (number names first) ≡ true). record { place = 0; inside = omega arith; leads_there = leads_is i (number names first) here })
    (λ (there : leads_to i (number names second) ≡ true). record { place = 1; inside = omega arith; leads_there = leads_is i (number names second) there })
    (or_cases (leads_to i (number names first)) (leads_to i (number names second)) at)
has_end names (Mos name drain gate source bulk part len width) i at = ⊎_elim
    (λ (here : leads_to i (number names drain) ≡ true). record { place = 0; inside = omega arith; leads_there = leads_is i (number names drain) here })
    (λ (rest : (leads_to i (number names gate) || leads_to i (number names source)) ≡ true). ⊎_elim
    (λ (here : leads_to i (number names gate) ≡ true). record { place = 1; inside = omega arith; leads_there = leads_is i (number names gate) here })
    (λ (there : leads_to i (number names source) ≡ true). record { place = 2; inside = omega arith; leads_there = leads_is i (number names source) there })
    (or_cases (leads_to i (number names gate)) (leads_to i (number names source)) rest))
    (or_cases (leads_to i (number names drain)) (leads_to i (number names gate) || leads_to i (number names source)) at)
has_end names (Capacitor name plus minus farads) i at = absurd (false≢true at)
has_end names (Source name plus minus wave) i at = absurd (false≢true at)

-- where a name that is ground or a node has a number, it is a node
known_kind : (c : CircuitValue) (m : List ℕ) (i : ℕ) → AreNames c.names → IsKnown (nodes c.deck) m → number c.names m ≡ Some i → (i < length c.names) × (kind_at c i ≡ real_kind c.deck (name_at c i))
unfolding IsKnown
known_kind c m i are known at =
    let p = position-Some (bytes_eq m) c.names i [] at in
    let name : m ≡ name_at c i = same-bytes_eq m (name_at c i) p.1 in
    let real : is_ground m ≡ false = subst (λ n. is_ground n ≡ false) (sym name) (are.real i p.0) in
    let there : list_any (bytes_eq (name_at c i)) (nodes c.deck) ≡ true = subst (λ n. list_any (bytes_eq n) (nodes c.deck) ≡ true) name (known real) in
    (p.0, kind_here c i p.0 ∙ kind_seen c.deck (name_at c i) there)

-- the ends of a device lead to nodes of the deck, driven or free, and never to an absent name
pub end_kind : (c : CircuitValue) (k i : ℕ) → AreNames c.names → k < length (devices c.deck) → ends_at i (ends_in c.names (device_of c.deck k)) ≡ true → (i < length c.names) × (kind_at c i ≡ real_kind c.deck (name_at c i))
unfolding devices
end_kind c k i are below at =
    let e : Element = device_of c.deck k in
    let has = has_end c.names e i at in
    let known : AreKnown (nodes c.deck) e = All-filter is_device (AreKnown (nodes c.deck)) c.deck.elements (known_all c.deck) k no_element below in
    known_kind c (get_or (ends_of e) has.place []) i are (known.each has.place has.inside) has.leads_there

-- ---- any voltages by number

-- they are the voltages of names that have these numbers
pub named_volts : (names : List (List ℕ)) (volt : End → Fraction) → AreNames names → volt None ≡ no_volts → AreVolts names (λ n. volt (number names n)) volt
named_volts names volt are none = record {
  grounded = λ n ground. ap volt (no_number n ground) ∙ none;
  none = none;
  each = λ i inside. ap volt (sym (position-node names i (get_or names i []) (nodes_from names are) inside refl));
}
  where
    no_number : (n : List ℕ) → is_ground n ≡ true → number names n ≡ None
    no_number n ground = by (number names n) refl
      where
        by : (o : Option ℕ) → number names n ≡ o → o ≡ None
        by None is = refl
        by (Some i) is =
            let p = position-Some (bytes_eq n) names i [] is in
            let name : n ≡ get_or names i [] = same-bytes_eq n (get_or names i []) p.1 in
            let clash : false ≡ true = sym (are.real i p.0) ∙ ap is_ground (sym name) ∙ ground in absurd (cc)

-- at any voltages little flows into a free node
pub inflow_bounded : (c : CircuitValue) (volt : End → Fraction) (node : ℕ) → Limits c.deck → AreNames c.names → HasNodes c.deck c.names → volt None ≡ no_volts → kind_at c node ≡ Free
    → unsigned_abs (inflow_over c volt node (range_with_len 0 (length (devices c.deck)))) ≤ 10 ^ 15
inflow_bounded c volt node l are has none free =
    let inside : node < length c.names = kind_inside c node (λ absent. let clash : Free ≡ Absent = sym free ∙ absent in absurd (cc)) in
    let v : List ℕ → Fraction = λ n. volt (number c.names n) in
    let same = devices_by_number c v volt node l are has (named_volts c.names volt are none) inside in
    let small : unsigned_abs (node_current c.deck v (name_at c node)) ≤ 10 ^ 12 * terminals c.deck (name_at c node) = node_current_small c.deck v (name_at c node) l in
    let few : terminals c.deck (name_at c node) ≤ 1000 = (held_here c node l free).ends in
    subst (λ z. unsigned_abs z ≤ 10 ^ 15) same (omega (arith, small, few))
