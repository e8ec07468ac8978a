-- What flows into a node depends on the voltages at the ends of its own devices alone.
use Rattle.std.proofs.Common.{◌≡◌, ℕ, Bool, true, false, ◌||◌, List, [], ◌∷◌, Some, None, refl, ap, ◌∙◌, ⊎_elim, inl, ℤ, pos, ◌+ℤ◌, option_map, cond, arith}
use Rattle.std.specs.List.{fold, filter, list_any}
use Rattle.std.specs.Str.{bytes_eq}
use Rattle.std.proofs.lemmas.Bool.{cases_Bool, or_parts, or_left, or_right, and_from}
use Rattle.std.proofs.lemmas.Int.{ints}
use Rattle.semantics.specs.declared.fraction.Fraction.{Fraction}
use Rattle.semantics.specs.declared.element.Element.{Element}
use Rattle.semantics.specs.declared.element.Element.TheVariants.{Resistor, Capacitor, Source, Mos}
use Rattle.semantics.specs.Deck.{DeckValue, look_up}
use Rattle.semantics.specs.Grid.{difference, cell, uniform}
use Rattle.semantics.specs.Part.{gate_grid, drain_grid, part_current}
use Rattle.semantics.specs.Device.{cells, current_in, current, resistor_current}
use Rattle.semantics.specs.Run.{into, flow, node_current}
use Rattle.semantics.proofs.Nodes.{bytes_eq-same}
use Rattle.semantics.specs.Neighbours.{is_end, is_near, joins, share}
use Rattle.semantics.proofs.Levels.{Alike, cell_alike}

-- two decks read their devices alike: they have one grain, and the same models and tables
pub record ReadAlike (d e : DeckValue) : Type 0 where
  pub grain : d.grain ≡ e.grain
  pub parts : d.parts ≡ e.parts

pub itself : (d : DeckValue) → ReadAlike d d
itself d = record { grain = refl; parts = refl }

-- the voltages at the ends of an element are alike
abbrev pub EndsAlike : (List ℕ → Fraction) → (List ℕ → Fraction) → Element → Type 0
EndsAlike v w x = (m : List ℕ) → is_end m x ≡ true → Alike (v m) (w m)

first_end : (n : List ℕ) (rest : Bool) → (bytes_eq n n || rest) ≡ true
first_end n rest = or_left (bytes_eq n n) rest (bytes_eq-same n n refl)

pub cells_alike : (d e : DeckValue) (v w : List ℕ → Fraction) (x : Element) → ReadAlike d e → EndsAlike v w x → cells d v x ≡ cells e w x
unfolding cells
cells_alike d e v w (Resistor name first second ohms) reads ends =
    let a : Alike (v first) (w first) = ends first (first_end first _) in
    let b : Alike (v second) (w second) = ends second (or_right _ _ (first_end second _)) in
    (λ i. Some (cell (uniform (reads.grain i) 4096) (difference (v first) (v second)), 0))
    ∙ (λ i. Some (cell_alike (uniform e.grain 4096) (v first) (v second) (w first) (w second) a b i, 0))
cells_alike d e v w (Mos name drain gate source bulk part len width) reads ends =
    let a : Alike (v drain) (w drain) = ends drain (first_end drain _) in
    let g : Alike (v gate) (w gate) = ends gate (or_right _ _ (first_end gate _)) in
    let s : Alike (v source) (w source) = ends source (or_right _ _ (or_right _ _ (first_end source _))) in
    (λ i. option_map (λ p. (cell (gate_grid (reads.grain i) p) (difference (v gate) (v source)), cell (drain_grid (reads.grain i) p) (difference (v drain) (v source)))) (look_up part (reads.parts i)))
    ∙ (λ i. option_map (λ p. (cell_alike (gate_grid e.grain p) (v gate) (v source) (w gate) (w source) g s i, cell_alike (drain_grid e.grain p) (v drain) (v source) (w drain) (w source) a s i)) (look_up part e.parts))
cells_alike d e v w (Capacitor name plus minus farads) reads ends = refl
cells_alike d e v w (Source name plus minus wave) reads ends = refl

current_in_alike : (d e : DeckValue) (x : Element) (c : ℕ × ℕ) → ReadAlike d e → current_in d x c ≡ current_in e x c
unfolding current_in
current_in_alike d e (Resistor name first second ohms) c reads = λ i. resistor_current (reads.grain i) ohms c.0
current_in_alike d e (Mos name drain gate source bulk part len width) c reads =
    λ i. elim (look_up part (reads.parts i)) as (λ _. ℤ) [ None ↦ pos 0 | Some p ↦ part_current (reads.grain i) p width len c.0 c.1 ]
current_in_alike d e (Capacitor name plus minus farads) c reads = refl
current_in_alike d e (Source name plus minus wave) c reads = refl

pub current_alike : (d e : DeckValue) (v w : List ℕ → Fraction) (x : Element) → ReadAlike d e → EndsAlike v w x → current d v x ≡ current e w x
unfolding current
current_alike d e v w x reads ends =
    λ i. elim (cells_alike d e v w x reads ends i) as (λ _. ℤ) [ None ↦ pos 0 | Some c ↦ current_in_alike d e x c reads i ]

-- ---- what flows into a node

into_none : (n first second : List ℕ) (a b : ℤ) → bytes_eq n first ≡ false → bytes_eq n second ≡ false → into n first second a ≡ into n first second b
into_none n first second a b f s = rw (f, s) refl

-- voltages are alike at the ends of an element, where it is a device of the node
abbrev pub NearAlike : List ℕ → (List ℕ → Fraction) → (List ℕ → Fraction) → Element → Type 0
NearAlike n v w x = (m : List ℕ) → joins m n x ≡ true → Alike (v m) (w m)

pub flow_alike : (d e : DeckValue) (v w : List ℕ → Fraction) (n : List ℕ) (x : Element) → ReadAlike d e → NearAlike n v w x → flow d v n x ≡ flow e w n x
unfolding flow
flow_alike d e v w n (Resistor name first second ohms) reads near = ⊎_elim
    (λ (at : is_end n (Resistor name first second ohms) ≡ true). ap (into n first second) (current_alike d e v w (Resistor name first second ohms) reads (λ m end. near m (and_from _ _ end at))))
    (λ (off : is_end n (Resistor name first second ohms) ≡ false).
    let parts = or_parts (bytes_eq n first) (bytes_eq n second || false) off in
    into_none n first second _ _ parts.0 (or_parts (bytes_eq n second) false parts.1).0)
    (cases_Bool (is_end n (Resistor name first second ohms)))
flow_alike d e v w n (Mos name drain gate source bulk part len width) reads near = ⊎_elim
    (λ (at : is_end n (Mos name drain gate source bulk part len width) ≡ true).
    ap (into n drain source) (current_alike d e v w (Mos name drain gate source bulk part len width) reads (λ m end. near m (and_from _ _ end at))))
    (λ (off : is_end n (Mos name drain gate source bulk part len width) ≡ false).
    let parts = or_parts (bytes_eq n drain) (bytes_eq n gate || (bytes_eq n source || false)) off in
    let rest = or_parts (bytes_eq n gate) (bytes_eq n source || false) parts.1 in
    into_none n drain source _ _ parts.0 (or_parts (bytes_eq n source) false rest.1).0)
    (cases_Bool (is_end n (Mos name drain gate source bulk part len width)))
flow_alike d e v w n (Capacitor name plus minus farads) reads near = refl
flow_alike d e v w n (Source name plus minus wave) reads near = refl

-- the same over a list of elements
pub flows_alike : (d e : DeckValue) (v w : List ℕ → Fraction) (n : List ℕ) (xs : List Element) (total : ℤ) → ReadAlike d e → ((m : List ℕ) → list_any (joins m n) xs ≡ true → Alike (v m) (w m))
    → fold (λ sum x. sum +ℤ flow d v n x) total xs ≡ fold (λ sum x. sum +ℤ flow e w n x) total xs
flows_alike d e v w n [] total reads near = refl
flows_alike d e v w n (x ∷ xs) total reads near =
    flows_alike d e v w n xs (total +ℤ flow d v n x) reads (λ m h. near m (or_right (joins m n x) (list_any (joins m n) xs) h))
    ∙ ap (λ z. fold (λ sum y. sum +ℤ flow e w n y) (total +ℤ z) xs) (flow_alike d e v w n x reads (λ m h. near m (or_left (joins m n x) (list_any (joins m n) xs) h)))

-- the current into a node depends on the voltages of the ends of its own devices alone
pub near_suffices : (d : DeckValue) (v w : List ℕ → Fraction) (n : List ℕ) → ((m : List ℕ) → share d m n ≡ true → v m ≡ w m) → node_current d v n ≡ node_current d w n
unfolding node_current share
near_suffices d v w n near = flows_alike d d v w n d.elements (pos 0) (itself d) (λ m h. inl (near m h))

-- ---- the sum over a node's own devices

-- nothing flows into a node through an element that it is no end of
into_quiet : (n first second : List ℕ) (a : ℤ) → bytes_eq n first ≡ false → bytes_eq n second ≡ false → into n first second a ≡ pos 0
into_quiet n first second a f s = rw (f, s) refl

pub flow_quiet : (d : DeckValue) (v : List ℕ → Fraction) (n : List ℕ) (x : Element) → is_end n x ≡ false → flow d v n x ≡ pos 0
unfolding flow
flow_quiet d v n (Resistor name first second ohms) off =
    let parts = or_parts (bytes_eq n first) (bytes_eq n second || false) off in
    into_quiet n first second _ parts.0 (or_parts (bytes_eq n second) false parts.1).0
flow_quiet d v n (Mos name drain gate source bulk part len width) off =
    let parts = or_parts (bytes_eq n drain) (bytes_eq n gate || (bytes_eq n source || false)) off in
    let rest = or_parts (bytes_eq n gate) (bytes_eq n source || false) parts.1 in
    into_quiet n drain source _ parts.0 (or_parts (bytes_eq n source) false rest.1).0
flow_quiet d v n (Capacitor name plus minus farads) off = refl
flow_quiet d v n (Source name plus minus wave) off = refl

-- nor through one that is none of its devices
pub flow_far : (d : DeckValue) (v : List ℕ → Fraction) (n : List ℕ) (x : Element) → is_near n x ≡ false → flow d v n x ≡ pos 0
unfolding flow
flow_far d v n (Resistor name first second ohms) off = flow_quiet d v n (Resistor name first second ohms) off
flow_far d v n (Mos name drain gate source bulk part len width) off = flow_quiet d v n (Mos name drain gate source bulk part len width) off
flow_far d v n (Capacitor name plus minus farads) off = refl
flow_far d v n (Source name plus minus wave) off = refl

pub near_fold : (d : DeckValue) (v : List ℕ → Fraction) (n : List ℕ) (xs : List Element) (total : ℤ)
    → fold (λ sum x. sum +ℤ flow d v n x) total xs ≡ fold (λ sum x. sum +ℤ flow d v n x) total (filter (is_near n) xs)
near_fold d v n [] total = refl
near_fold d v n (x ∷ xs) total = by (λ z. near_fold d v n xs z) (is_near n x) refl
  where
    sum_from : ℤ → List Element → ℤ
    sum_from z ys = fold (λ sum y. sum +ℤ flow d v n y) z ys

    nothing : (z : ℤ) → z +ℤ pos 0 ≡ z
    nothing z = omega (arith, ints)

    by : ((z : ℤ) → sum_from z xs ≡ sum_from z (filter (is_near n) xs)) → (b : Bool) → is_near n x ≡ b
        → sum_from (total +ℤ flow d v n x) xs ≡ sum_from total (cond b (x ∷ filter (is_near n) xs) (filter (is_near n) xs))
    by rest true is = rest (total +ℤ flow d v n x)
    by rest false is = (λ i. sum_from (total +ℤ flow_far d v n x is i) xs) ∙ (λ i. sum_from (nothing total i) xs) ∙ rest total

-- the current into a node is the sum over its own devices
pub near_sum : (d : DeckValue) (v : List ℕ → Fraction) (n : List ℕ) → node_current d v n ≡ fold (λ sum x. sum +ℤ flow d v n x) (pos 0) (filter (is_near n) d.elements)
unfolding node_current
near_sum d v n = near_fold d v n d.elements (pos 0)
