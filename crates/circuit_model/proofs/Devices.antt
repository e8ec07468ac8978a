-- What a device by numbers says of its element, at any voltages: its cells and its current.
use Rattle.std.proofs.Common.{◌≡◌, ℕ, ◌<◌, ◌≤◌, Bool, true, false, cond, List, [], length, get_or, Option, Some, None, refl, sym, ◌∙◌, ap, arith, ℤ, pos, ◌-ℤ◌}
use Rattle.std.specs.Prelude.{int_le, ◌*ℤ◌, ◌*◌}
use Rattle.std.specs.Option.{option_map, option_map_or}
use Rattle.std.specs.Str.{bytes_eq}
use Rattle.std.proofs.lemmas.Bool.{and_from, and_parts, le-leb, leb-true}
use Rattle.std.proofs.lemmas.List.FromFn.{length-map-range_with_len}
use Rattle.std.proofs.lemmas.List.Sums.{count_by-le-length}
use Rattle.semantics.specs.declared.fraction.Fraction.{Fraction}
use Rattle.semantics.specs.declared.element.Element.{Element}
use Rattle.semantics.specs.declared.element.Element.TheVariants.{Resistor, Capacitor, Source, Mos}
use Rattle.semantics.specs.Deck.{DeckValue, look_up}
use Rattle.semantics.specs.Device.{cells, current, current_in}
use Rattle.semantics.specs.Grid.{cell, difference, threshold, uniform}
use Rattle.semantics.specs.Part.{Part, drain_grid, gate_grid, part_current}
use Rattle.semantics.specs.Run.{flow, into}
use Rattle.semantics.proofs.Nodes.{AreNodes}
use Rattle.device_tables.specs.Table.{TableValue}
use Rattle.circuit_model.specs.declared.ends.Ends.{Ends}
use Rattle.circuit_model.specs.Ends.{End, cell_across, ends_in}
use Rattle.circuit_model.specs.Numbers.{HasCells, SameAtEnds, axes, drain_cell, drain_grid_of, gate_cell, gate_grid_of}
use Rattle.device_tables.specs.Level.{part_table}
use Rattle.circuit_model.specs.Wiring.{DeviceLaw, Ohms, Gated, inflow, law_at, law_axes, law_cells, law_current, law_has, table_of}
use Rattle.circuit_model.proofs.Leads.{leads}
use Rattle.device_tables.proofs.Levels.{part_table_current, part_table_drain, part_table_gate}

-- ---- cells exist

length_uniform : (grain half : ℕ) → length (uniform grain half) ≡ 2 * half
unfolding uniform
length_uniform grain half = length-map-range_with_len (threshold grain half) 0 (2 * half)

cell_most : (thresholds : List ℤ) (v : Fraction) → cell thresholds v ≤ length thresholds
unfolding cell
cell_most thresholds v = count_by-le-length (λ θ. int_le (θ *ℤ pos v.den) v.num) thresholds

-- a device's grids have its cells
pub law_cells_exist : (grain : ℕ) (volt : End → Fraction) (ends : Ends) (law : DeviceLaw) → law_has law (law_cells grain volt ends law) ≡ true
law_cells_exist grain volt ends (Ohms ohms) =
    let v : Fraction = difference (volt ends.first) (volt ends.second) in
    le-leb _ _ (omega (arith, cell_most (uniform grain 4096) v, length_uniform grain 4096))
law_cells_exist grain volt ends (Gated table) = and_from _ _ (le-leb _ _ (cell_most table.gate _)) (le-leb _ _ (cell_most table.drain _))

-- ---- an element of which the law is known

some_is : {A : Type 0} (x y : A) → Some x ≡ Some y → x ≡ y
some_is x y h = cc

-- a MOS device has the law of its part
module _ (d : DeckValue) (name drain gate source bulk part : List ℕ) (len width : ℤ) where
  abbrev mos : Element
  mos = Mos name drain gate source bulk part len width

  mos_cells : (p : Part) (v : List ℕ → Fraction) → look_up part d.parts ≡ Some p
      → cells d v mos ≡ Some (cell (gate_grid d.grain p) (difference (v gate) (v source)), cell (drain_grid d.grain p) (difference (v drain) (v source)))
  unfolding cells
  mos_cells p v is = rw is refl

  mos_current : (p : Part) (c : ℕ × ℕ) → look_up part d.parts ≡ Some p → current_in d mos c ≡ part_current d.grain p width len c.0 c.1
  unfolding current_in
  mos_current p c is = rw (is, current_in) refl

  mos_none : (v : List ℕ → Fraction) → look_up part d.parts ≡ None → cells d v mos ≡ None
  unfolding cells
  mos_none v none = rw none refl

-- the cells of a device by numbers are those of its element by names
pub cells_by_law : (d : DeckValue) (names : List (List ℕ)) (v : List ℕ → Fraction) (volt : End → Fraction) (e : Element) (law : DeviceLaw) → law_at d e ≡ Some law → SameAtEnds names volt v e
    → cells d v e ≡ Some (law_cells d.grain volt (ends_in names e) law)
unfolding cells
cells_by_law d names v volt (Resistor name first second ohms) law is same =
    let one : Ohms ohms ≡ law = cc in
    rw (← one, same 0 (omega arith), same 1 (omega arith)) refl
cells_by_law d names v volt (Mos name drain gate source bulk part len width) law is same = by (look_up part d.parts) refl is
  where
    by : (o : Option Part) → look_up part d.parts ≡ o → option_map (λ p. Gated (part_table d.grain p width len)) o ≡ Some law
        → cells d v (Mos name drain gate source bulk part len width) ≡ Some (law_cells d.grain volt (ends_in names (Mos name drain gate source bulk part len width)) law)
    by None none h = absurd (cc)
    by (Some p) found h =
        let one : Gated (part_table d.grain p width len) ≡ law = cc in
        mos_cells d name drain gate source bulk part len width p v found
        ∙ rw (← one, part_table_gate d.grain p width len, part_table_drain d.grain p width len, same 0 (omega arith), same 1 (omega arith), same 2 (omega arith)) refl
cells_by_law d names v volt (Capacitor name plus minus farads) law is same = absurd (cc)
cells_by_law d names v volt (Source name plus minus wave) law is same = absurd (cc)

-- and so is the current in its cells
pub current_by_law : (d : DeckValue) (e : Element) (law : DeviceLaw) (c : ℕ × ℕ) → law_at d e ≡ Some law → law_has law c ≡ true → law_current d.grain law c ≡ current_in d e c
unfolding current_in
current_by_law d (Resistor name first second ohms) law c is has = let one : Ohms ohms ≡ law = cc in rw (← one) refl
current_by_law d (Mos name drain gate source bulk part len width) law c is has = by (look_up part d.parts) refl is
  where
    by : (o : Option Part) → look_up part d.parts ≡ o → option_map (λ p. Gated (part_table d.grain p width len)) o ≡ Some law
        → law_current d.grain law c ≡ current_in d (Mos name drain gate source bulk part len width) c
    by None none h = absurd (cc)
    by (Some p) found h =
        let one : Gated (part_table d.grain p width len) ≡ law = cc in
        let both = and_parts _ _ (rw (← one) at has) in
        rw (← one) (part_table_current d.grain p width len c.0 c.1 (leb-true _ _ both.0) (leb-true _ _ both.1))
        ∙ sym (mos_current d name drain gate source bulk part len width p c found)
current_by_law d (Capacitor name plus minus farads) law c is has = absurd (cc)
current_by_law d (Source name plus minus wave) law c is has = absurd (cc)

-- by axis
pub cells_axes : (d : DeckValue) (e : Element) (law : DeviceLaw) (ends : Ends) (volt : End → Fraction) → law_at d e ≡ Some law
    → law_cells d.grain volt ends law ≡ axes e (gate_cell d e ends volt) (drain_cell d e ends volt)
cells_axes d (Resistor name first second ohms) law ends volt is = let one : Ohms ohms ≡ law = cc in rw (← one) refl
cells_axes d (Mos name drain gate source bulk part len width) law ends volt is = by (look_up part d.parts) refl is
  where
    by : (o : Option Part) → look_up part d.parts ≡ o → option_map (λ p. Gated (part_table d.grain p width len)) o ≡ Some law
        → law_cells d.grain volt ends law
        ≡ (option_map_or (λ grid. cell_across grid volt ends.gate ends.second) (option_map (gate_grid d.grain) o) 0, cell_across (option_map_or (drain_grid d.grain) o []) volt ends.first ends.second)
    by None none h = absurd (cc)
    by (Some p) found h =
        let one : Gated (part_table d.grain p width len) ≡ law = cc in
        rw (← one, part_table_gate d.grain p width len, part_table_drain d.grain p width len) refl
cells_axes d (Capacitor name plus minus farads) law ends volt is = absurd (cc)
cells_axes d (Source name plus minus wave) law ends volt is = absurd (cc)

pub axes_law : (d : DeckValue) (e : Element) (law : DeviceLaw) (g c : ℕ) → law_at d e ≡ Some law → law_axes law g c ≡ axes e g c
axes_law d (Resistor name first second ohms) law g c is = let one : Ohms ohms ≡ law = cc in rw (← one) refl
axes_law d (Mos name drain gate source bulk part len width) law g c is = by (look_up part d.parts) is
  where
    by : (o : Option Part) → option_map (λ p. Gated (part_table d.grain p width len)) o ≡ Some law → law_axes law g c ≡ (g, c)
    by None h = absurd (cc)
    by (Some p) h = let one : Gated (part_table d.grain p width len) ≡ law = cc in rw (← one) refl
axes_law d (Capacitor name plus minus farads) law g c is = absurd (cc)
axes_law d (Source name plus minus wave) law g c is = absurd (cc)

-- ---- its grids, and the cells that it has

-- a device without a table is a resistor
pub grids_ohmic : (d : DeckValue) (e : Element) (law : DeviceLaw) → law_at d e ≡ Some law → table_of law ≡ None → (gate_grid_of d e ≡ None) × (drain_grid_of d e ≡ uniform d.grain 4096)
grids_ohmic d (Resistor name first second ohms) law is none = (refl, refl)
grids_ohmic d (Mos name drain gate source bulk part len width) law is none = by (look_up part d.parts) is
  where
    by : (o : Option Part) → option_map (λ p. Gated (part_table d.grain p width len)) o ≡ Some law → (option_map (gate_grid d.grain) o ≡ None) × (option_map_or (drain_grid d.grain) o [] ≡ uniform d.grain 4096)
    by None h = absurd (cc)
    by (Some p) h =
        let one : Gated (part_table d.grain p width len) ≡ law = cc in
        let clash : Some (part_table d.grain p width len) ≡ None = ap table_of one ∙ none in absurd (cc)
grids_ohmic d (Capacitor name plus minus farads) law is none = absurd (cc)
grids_ohmic d (Source name plus minus wave) law is none = absurd (cc)

-- and one with a table has its grids
pub grids_gated : (d : DeckValue) (e : Element) (law : DeviceLaw) (table : TableValue) → law_at d e ≡ Some law → table_of law ≡ Some table → (gate_grid_of d e ≡ Some table.gate) × (drain_grid_of d e ≡ table.drain)
grids_gated d (Resistor name first second ohms) law table is some =
    let one : Ohms ohms ≡ law = cc in
    let clash : None ≡ Some table = ap table_of one ∙ some in absurd (cc)
grids_gated d (Mos name drain gate source bulk part len width) law table is some = by (look_up part d.parts) is
  where
    by : (o : Option Part) → option_map (λ p. Gated (part_table d.grain p width len)) o ≡ Some law → (option_map (gate_grid d.grain) o ≡ Some table.gate) × (option_map_or (drain_grid d.grain) o [] ≡ table.drain)
    by None h = absurd (cc)
    by (Some p) h =
        let one : Gated (part_table d.grain p width len) ≡ law = cc in
        let both : Some (part_table d.grain p width len) ≡ Some table = ap table_of one ∙ some in
        let same : part_table d.grain p width len ≡ table = cc in
        (ap Some (sym (part_table_gate d.grain p width len) ∙ ap (λ (t : TableValue). t.gate) same), sym (part_table_drain d.grain p width len) ∙ ap (λ (t : TableValue). t.drain) same)
grids_gated d (Capacitor name plus minus farads) law table is some = absurd (cc)
grids_gated d (Source name plus minus wave) law table is some = absurd (cc)

-- cells of both axes that are there are there as events have them
pub axes_there : (d : DeckValue) (e : Element) (law : DeviceLaw) (g c : ℕ) → law_at d e ≡ Some law → HasCells d e g c → law_has law (law_axes law g c) ≡ true
axes_there d e (Ohms ohms) g c is has =
    let grids = grids_ohmic d e (Ohms ohms) is refl in
    le-leb _ _ (omega (arith, has.drain_there, ap (λ (xs : List ℤ). length xs) grids.1, length_uniform d.grain 4096))
axes_there d e (Gated table) g c is has =
    let grids = grids_gated d e (Gated table) table is refl in
    let gate : g ≤ length table.gate = rw grids.0 at has.gate_there in
    and_from _ _ (le-leb _ _ gate) (le-leb _ _ (omega (arith, has.drain_there, ap (λ (xs : List ℤ). length xs) grids.1)))

-- ---- what flows

-- what flows into a node through an element flows between its ends by number
pub flow_by_number : (d : DeckValue) (v : List ℕ → Fraction) (names : List (List ℕ)) (i : ℕ) (e : Element) → AreNodes names → i < length names
    → flow d v (get_or names i []) e ≡ inflow i (ends_in names e) (current d v e)
unfolding flow
flow_by_number d v names i (Resistor name first second ohms) are below = rw (leads names i first are below, leads names i second are below) refl
flow_by_number d v names i (Mos name drain gate source bulk part len width) are below = rw (leads names i drain are below, leads names i source are below) refl
flow_by_number d v names i (Capacitor name plus minus farads) are below = refl
flow_by_number d v names i (Source name plus minus wave) are below = refl

pub current_of : (d : DeckValue) (v : List ℕ → Fraction) (e : Element) (c : ℕ × ℕ) → cells d v e ≡ Some c → current d v e ≡ current_in d e c
unfolding current
current_of d v e c is = rw (is, current) refl

-- the current of a device by numbers is that of its element by names
pub current_by_number : (d : DeckValue) (names : List (List ℕ)) (v : List ℕ → Fraction) (volt : End → Fraction) (e : Element) (law : DeviceLaw) → law_at d e ≡ Some law → SameAtEnds names volt v e
    → current d v e ≡ law_current d.grain law (law_cells d.grain volt (ends_in names e) law)
current_by_number d names v volt e law is same =
    let c : ℕ × ℕ = law_cells d.grain volt (ends_in names e) law in
    current_of d v e c (cells_by_law d names v volt e law is same) ∙ sym (current_by_law d e law c is (law_cells_exist d.grain volt (ends_in names e) law))

-- ---- an element without a law

pub no_cells : (d : DeckValue) (v : List ℕ → Fraction) (e : Element) → law_at d e ≡ None → cells d v e ≡ None
unfolding cells
no_cells d v (Resistor name first second ohms) none = absurd (cc)
no_cells d v (Mos name drain gate source bulk part len width) none = by (look_up part d.parts) refl none
  where
    by : (o : Option Part) → look_up part d.parts ≡ o → option_map (λ p. Gated (part_table d.grain p width len)) o ≡ None → cells d v (Mos name drain gate source bulk part len width) ≡ None
    by None is h = mos_none d name drain gate source bulk part len width v is
    by (Some p) is h = absurd (cc)
no_cells d v (Capacitor name plus minus farads) none = refl
no_cells d v (Source name plus minus wave) none = refl

no_current : (d : DeckValue) (v : List ℕ → Fraction) (e : Element) → cells d v e ≡ None → current d v e ≡ pos 0
unfolding current
no_current d v e none = rw (none, current) refl

nothing_into : (n first second : List ℕ) → into n first second (pos 0) ≡ pos 0
nothing_into n first second = by (bytes_eq n second) (bytes_eq n first)
  where
    by : (b c : Bool) → (cond b (pos 0) (pos 0)) -ℤ (cond c (pos 0) (pos 0)) ≡ pos 0
    by true true = refl
    by true false = refl
    by false true = refl
    by false false = refl

pub no_flow : (d : DeckValue) (v : List ℕ → Fraction) (n : List ℕ) (e : Element) → law_at d e ≡ None → flow d v n e ≡ pos 0
unfolding flow
no_flow d v n (Resistor name first second ohms) none = absurd (cc)
no_flow d v n (Mos name drain gate source bulk part len width) none =
    let e : Element = Mos name drain gate source bulk part len width in
    rw (no_current d v e (no_cells d v e none)) (nothing_into n drain source)
no_flow d v n (Capacitor name plus minus farads) none = refl
no_flow d v n (Source name plus minus wave) none = refl
