-- What all devices of a deck say of it: the rates of its free nodes, its events, and the ranges of what is kept.
use Rattle.std.proofs.Common.{◌≡◌, ℕ, suc, ◌+◌, ◌<◌, ◌≤◌, true, List, [], ◌∷◌, ◌++◌, length, get_or, map, Option, Some, None, refl, sym, ◌∙◌, ap, arith, ℤ, pos, ◌+ℤ◌}
use Rattle.std.specs.Prelude.{option_to_list}
use Rattle.std.specs.Option.{option_map}
use Rattle.std.specs.List.{All, list_all, fold, flat_map, enumerate_from}
use Rattle.std.proofs.lemmas.Bool.{and_parts, and_from}
use Rattle.std.proofs.lemmas.Int.{ints}
use Rattle.std.proofs.lemmas.List.{get_or-map, length-append}
use Rattle.semantics.specs.declared.fraction.Fraction.{Fraction}
use Rattle.semantics.specs.declared.element.Element.{Element}
use Rattle.semantics.specs.declared.element.Element.TheVariants.{Resistor, Capacitor, Source, Mos}
use Rattle.semantics.specs.declared.event.Event.{Event}
use Rattle.semantics.specs.Deck.{DeckValue, nodes, driver, look_up}
use Rattle.semantics.specs.Device.{cells}
use Rattle.semantics.specs.Event.{event_of, events_at, events_to}
use Rattle.semantics.specs.Part.{Part}
use Rattle.semantics.specs.Run.{flow, run, node_current}
use Rattle.semantics.specs.Valid.{in_limits}
use Rattle.semantics.specs.Wave.{rate}
use Rattle.semantics.proofs.Limits.{Limits, run_ground}
use Rattle.semantics.proofs.Nodes.{AreNodes-nodes}
use Rattle.semantics.proofs.Steps.{rate_free}
use Rattle.circuit_model.specs.Ends.{End, ends_in, no_volts, volts_at}
use Rattle.circuit_model.specs.Network.{cells_at, volts_of}
use Rattle.circuit_model.specs.Numbers.{SameAtEnds}
use Rattle.device_tables.specs.Level.{part_table}
use Rattle.circuit_model.specs.Wiring.{DeviceValue, DeviceLaw, Ohms, Gated, are_inside, device_at, device_by, devices_from, devices_of, device_cells, device_current, is_lawful, is_wired, has_cells, inflow, inflows, law_at, changes}
use Rattle.circuit_model.proofs.Leads.{AreKnown, inside_number, known_all, same_at_ends}
use Rattle.circuit_model.proofs.Devices.{cells_by_law, current_by_number, flow_by_number, law_cells_exist, no_cells, no_flow}

-- ---- one element in the plain run

-- the voltages of ends at a tick of the run
abbrev volt : DeckValue → ℕ → End → Fraction
volt d t = volts_at (volts_of d t)

run_same : (d : DeckValue) (t : ℕ) (e : Element) → AreKnown (nodes d) e → SameAtEnds (nodes d) (volt d t) (run d t) e
run_same d t e known = same_at_ends (nodes d) (run d t) (volt d t) e (λ n g. run_ground d t n g) refl (λ i below. get_or-map (run d t) (nodes d) i [] no_volts below) known

run_cells : (d : DeckValue) (t place : ℕ) (e : Element) (law : DeviceLaw) → law_at d e ≡ Some law → AreKnown (nodes d) e → cells d (run d t) e ≡ Some (device_cells d.grain (volt d t) (device_by (nodes d) place e law))
unfolding device_cells
run_cells d t place e law is known = cells_by_law d (nodes d) (run d t) (volt d t) e law is (run_same d t e known)

run_flow : (d : DeckValue) (t i place : ℕ) (e : Element) (law : DeviceLaw) → law_at d e ≡ Some law → AreKnown (nodes d) e → i < length (nodes d)
    → flow d (run d t) (get_or (nodes d) i []) e ≡ inflow i (ends_in (nodes d) e) (device_current d.grain (device_by (nodes d) place e law) (device_cells d.grain (volt d t) (device_by (nodes d) place e law)))
unfolding device_cells device_current
run_flow d t i place e law is known below =
    flow_by_number d (run d t) (nodes d) i e (AreNodes-nodes d) below ∙ ap (inflow i (ends_in (nodes d) e)) (current_by_number d (nodes d) (run d t) (volt d t) e law is (run_same d t e known))

-- the cells of devices at a tick
abbrev cells_of : DeckValue → ℕ → List DeviceValue → List (ℕ × ℕ)
cells_of d t devices = map (device_cells d.grain (volt d t)) devices

-- ---- what flows

joined : (z x r : ℤ) → z +ℤ (x +ℤ r) ≡ (z +ℤ x) +ℤ r
joined z x r = omega (arith, ints)

no_more : (z : ℤ) → z +ℤ pos 0 ≡ z
no_more z = omega (arith, ints)

-- what flows into a node over the devices of these elements is what flows over the elements
inflows_flow : (d : DeckValue) (t i : ℕ) → i < length (nodes d) → (es : List Element) (place : ℕ) (total : ℤ) → All (AreKnown (nodes d)) es
    → total +ℤ inflows d.grain i (devices_from d (nodes d) place es) (cells_of d t (devices_from d (nodes d) place es)) ≡ fold (λ sum e. sum +ℤ flow d (run d t) (get_or (nodes d) i []) e) total es
inflows_flow d t i below [] place total all = no_more total
inflows_flow d t i below (e ∷ es) place total all = by (law_at d e) refl (λ z. inflows_flow d t i below es (place + 1) z (λ k x h. all (suc k) x (omega arith)))
  where
    n : List ℕ
    n = get_or (nodes d) i []

    rest : List DeviceValue
    rest = devices_from d (nodes d) (place + 1) es

    by : (o : Option DeviceLaw) → law_at d e ≡ o → ((z : ℤ) → z +ℤ inflows d.grain i rest (cells_of d t rest) ≡ fold (λ sum x. sum +ℤ flow d (run d t) n x) z es)
        → total +ℤ inflows d.grain i (option_to_list (option_map (device_by (nodes d) place e) o) ++ rest) (cells_of d t (option_to_list (option_map (device_by (nodes d) place e) o) ++ rest))
        ≡ fold (λ sum x. sum +ℤ flow d (run d t) n x) (total +ℤ flow d (run d t) n e) es
    by None none later = rw (no_flow d (run d t) n e none, no_more total) (later total)
    by (Some law) is later =
        let device : DeviceValue = device_by (nodes d) place e law in
        let amps : ℤ = inflow i device.ends (device_current d.grain device (device_cells d.grain (volt d t) device)) in
        rw (run_flow d t i place e law is (all 0 e (omega arith)) below)
        (joined total amps (inflows d.grain i rest (cells_of d t rest)) ∙ later (total +ℤ amps))

no_less : (z : ℤ) → pos 0 +ℤ z ≡ z
no_less z = omega (arith, ints)

-- so a free node gains what flows in over the devices
pub rate_at : (d : DeckValue) (t i : ℕ) → i < length (nodes d) → driver d (get_or (nodes d) i []) ≡ None
    → inflows d.grain i (devices_of d (nodes d)) (cells_at d t) ≡ rate d t (get_or (nodes d) i [])
unfolding devices_of cells_at node_current
rate_at d t i below free =
    sym (no_less (inflows d.grain i (devices_from d (nodes d) 0 d.elements) (cells_of d t (devices_from d (nodes d) 0 d.elements))))
    ∙ inflows_flow d t i below d.elements 0 (pos 0) (known_all d) ∙ sym (rate_free d t (get_or (nodes d) i []) free)

-- ---- events

-- the devices of these elements change their cells as the elements do
changes_events : (d : DeckValue) (t : ℕ) (es : List Element) (place : ℕ) → All (AreKnown (nodes d)) es
    → changes d.grain (suc t) (volt d (suc t)) (devices_from d (nodes d) place es) (cells_of d t (devices_from d (nodes d) place es))
    ≡ flat_map (λ at. event_of (suc t) at.0 (cells d (run d t) at.1) (cells d (run d (suc t)) at.1)) (enumerate_from place es)
changes_events d t [] place all = refl
changes_events d t (e ∷ es) place all = by (law_at d e) refl (changes_events d t es (place + 1) (λ k x h. all (suc k) x (omega arith)))
  where
    rest : List DeviceValue
    rest = devices_from d (nodes d) (place + 1) es

    later : List Event
    later = flat_map (λ at. event_of (suc t) at.0 (cells d (run d t) at.1) (cells d (run d (suc t)) at.1)) (enumerate_from (place + 1) es)

    by : (o : Option DeviceLaw) → law_at d e ≡ o → changes d.grain (suc t) (volt d (suc t)) rest (cells_of d t rest) ≡ later
        → changes d.grain (suc t) (volt d (suc t)) (option_to_list (option_map (device_by (nodes d) place e) o) ++ rest) (cells_of d t (option_to_list (option_map (device_by (nodes d) place e) o) ++ rest))
        ≡ event_of (suc t) place (cells d (run d t) e) (cells d (run d (suc t)) e) ++ later
    by None none same = rw (no_cells d (run d t) e none) same
    by (Some law) is same =
        let known = all 0 e (omega arith) in
        rw (run_cells d t place e law is known, run_cells d (suc t) place e law is known, same) refl

-- the changes of the devices at the next tick are its events
pub events_next : (d : DeckValue) (t : ℕ)
    → events_to d t ++ changes d.grain (suc t) (volt d (suc t)) (devices_of d (nodes d)) (cells_at d t) ≡ events_to d (suc t)
unfolding devices_of cells_at events_to events_at
events_next d t = ap (λ xs. events_to d t ++ xs) (changes_events d t d.elements 0 (known_all d))

-- ---- ranges

-- a device's grids have its cells
pub cells_exist : (grain : ℕ) (volt : End → Fraction) (device : DeviceValue) → has_cells device (device_cells grain volt device) ≡ true
unfolding device_cells
cells_exist grain volt device = law_cells_exist grain volt device.ends device.law

-- the ends of an element lead to ground or to a name
pub ends_inside : (names : List (List ℕ)) (e : Element) → are_inside (length names) (ends_in names e) ≡ true
ends_inside names (Resistor name first second ohms) = and_from _ _ (inside_number names first) (and_from _ _ (inside_number names second) refl)
ends_inside names (Mos name drain gate source bulk part len width) = and_from _ _ (inside_number names drain) (and_from _ _ (inside_number names source) (inside_number names gate))
ends_inside names (Capacitor name plus minus farads) = refl
ends_inside names (Source name plus minus wave) = refl

lawful : (d : DeckValue) (e : Element) (law : DeviceLaw) → in_limits e ≡ true → law_at d e ≡ Some law → is_lawful law ≡ true
lawful d (Resistor name first second ohms) law good is = let one : Ohms ohms ≡ law = cc in rw (← one) good
lawful d (Mos name drain gate source bulk part len width) law good is = by (look_up part d.parts) is
  where
    by : (o : Option Part) → option_map (λ p. Gated (part_table d.grain p width len)) o ≡ Some law → is_lawful law ≡ true
    by None h = absurd (cc)
    by (Some p) h = let one : Gated (part_table d.grain p width len) ≡ law = cc in rw (← one) refl
lawful d (Capacitor name plus minus farads) law good is = absurd (cc)
lawful d (Source name plus minus wave) law good is = absurd (cc)

wired_from : (d : DeckValue) (names : List (List ℕ)) (place : ℕ) (es : List Element) → list_all in_limits es ≡ true → list_all (is_wired (length names)) (devices_from d names place es) ≡ true
wired_from d names place [] good = refl
wired_from d names place (e ∷ es) good = let parts = and_parts (in_limits e) (list_all in_limits es) good in by (law_at d e) refl parts.0 (wired_from d names (place + 1) es parts.1)
  where
    by : (o : Option DeviceLaw) → law_at d e ≡ o → in_limits e ≡ true → list_all (is_wired (length names)) (devices_from d names (place + 1) es) ≡ true
        → list_all (is_wired (length names)) (option_to_list (option_map (device_by names place e) o) ++ devices_from d names (place + 1) es) ≡ true
    by None none within rest = rest
    by (Some law) is within rest = and_from _ _ (and_from _ _ (ends_inside names e) (lawful d e law within is)) rest

-- the ends of the devices lead to ground or to nodes, and resistances are in their limits
pub devices_wired : (d : DeckValue) (names : List (List ℕ)) → Limits d → list_all (is_wired (length names)) (devices_of d names) ≡ true
unfolding devices_of
devices_wired d names l = wired_from d names 0 d.elements l.values

one_or_none : (o : Option DeviceValue) → length (option_to_list o) ≤ 1
one_or_none None = omega arith
one_or_none (Some device) = omega arith

few_from : (d : DeckValue) (names : List (List ℕ)) (place : ℕ) (es : List Element) → length (devices_from d names place es) ≤ length es
few_from d names place [] = omega arith
few_from d names place (e ∷ es) = omega (arith, few_from d names (place + 1) es, one_or_none (device_at d names place e), length-append (option_to_list (device_at d names place e)) (devices_from d names (place + 1) es))

-- and they are few
pub devices_few : (d : DeckValue) (names : List (List ℕ)) → Limits d → length (devices_of d names) ≤ 100000
unfolding devices_of
devices_few d names l = omega (arith, few_from d names 0 d.elements, l.few_elements)
