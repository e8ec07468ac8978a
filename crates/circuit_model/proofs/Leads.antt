-- Where the ends of devices lead, and their voltages.
use Rattle.std.proofs.Common.{◌≡◌, ℕ, ◌<◌, ◌≤◌, Bool, true, false, List, [], ◌∷◌, length, get_or, Option, Some, None, refl, sym, ◌∙◌, ap, arith, ⊎_elim, ltb}
use Rattle.std.specs.List.{All, list_any, position, position_or_len}
use Rattle.std.specs.Str.{bytes_eq}
use Rattle.std.proofs.lemmas.Bool.{false≢true, lt-ltb, le-ltb, or_parts, cond-true, or_cases, cases_eq, eq-eqb, ne_eqb, false_from_ne_true, cases_Bool}
use Rattle.std.proofs.lemmas.List.{get_or_default}
use Rattle.std.proofs.lemmas.List.Quantifiers.{position-Some}
use Rattle.semantics.specs.Ground.{is_ground}
use Rattle.semantics.specs.declared.fraction.Fraction.{Fraction}
use Rattle.semantics.specs.declared.element.Element.{Element}
use Rattle.semantics.specs.Deck.{DeckValue, nodes, ends_of}
use Rattle.semantics.proofs.Nodes.{end_seen, AreNodes, position-node, bytes_eq-same, same-bytes_eq}
use Rattle.circuit_model.specs.Ends.{End, is_inside, no_volts, number}
use Rattle.circuit_model.specs.Names.{HasNodes}
use Rattle.circuit_model.specs.Numbers.{SameAtEnds}
use Rattle.circuit_model.specs.Wiring.{leads_to}

-- ---- where an end leads

-- a test that some element passes has a place
any_position : {X : Type 0} (p : X → Bool) (xs : List X) → list_any p xs ≡ true → position_or_len p xs < length xs
any_position p [] h = absurd (false≢true h)
any_position p (x ∷ xs) h = by (p x) refl (any_position p xs)
  where
    by : (b : Bool) → p x ≡ b → (list_any p xs ≡ true → position_or_len p xs < length xs) → position_or_len p (x ∷ xs) < length (x ∷ xs)
    by true e rest = rw e (omega arith)
    by false e rest =
        let later : list_any p xs ≡ true = ⊎_elim (λ (t : p x ≡ true). absurd (false≢true (sym e ∙ t))) (λ r. r) (or_cases (p x) (list_any p xs) h) in
        let inside = rest later in rw e (omega (arith, inside))

pub position_none : {X : Type 0} (p : X → Bool) (xs : List X) → position p xs ≡ None → list_any p xs ≡ false
position_none p xs none = false_from_ne_true (list_any p xs) (λ some.
    let found : position p xs ≡ Some (position_or_len p xs) = cond-true (ltb (position_or_len p xs) (length xs)) (Some (position_or_len p xs)) None (lt-ltb _ _ (any_position p xs some)) in
    let clash : None ≡ Some (position_or_len p xs) = sym none ∙ found in absurd (cc))

-- a name is ground or one of these
unfoldable pub IsKnown : List (List ℕ) → List ℕ → Type 0
IsKnown names name = is_ground name ≡ false → list_any (bytes_eq name) names ≡ true

-- ground has no voltage
abbrev pub IsGrounded : (List ℕ → Fraction) → Type 0
IsGrounded v = (n : List ℕ) → is_ground n ≡ true → v n ≡ no_volts

-- by these names, the voltage of an end is that of its name, where each of them has its own
pub number_volts : (names : List (List ℕ)) (v : List ℕ → Fraction) (volt : End → Fraction) (name : List ℕ) → IsGrounded v → volt None ≡ no_volts
    → ((i : ℕ) → i < length names → volt (Some i) ≡ v (get_or names i [])) → IsKnown names name → volt (number names name) ≡ v name
unfolding IsKnown
number_volts names v volt name grounded none each known = by (position (bytes_eq name) names) refl
  where
    by : (o : Option ℕ) → position (bytes_eq name) names ≡ o → volt o ≡ v name
    by None missing = none ∙ sym (grounded name (⊎_elim (λ h. h) (λ (h : is_ground name ≡ false). absurd (false≢true (sym (position_none (bytes_eq name) names missing) ∙ known h))) (cases_Bool (is_ground name))))
    by (Some i) found = let at = position-Some (bytes_eq name) names i [] found in each i at.0 ∙ ap v (sym (same-bytes_eq name (get_or names i []) at.1))

-- ---- which node an end leads to

pub leads : (names : List (List ℕ)) (i : ℕ) (name : List ℕ) → AreNodes names → i < length names → leads_to i (number names name) ≡ bytes_eq (get_or names i []) name
leads names i name are below = by (position (bytes_eq name) names) refl
  where
    m : List ℕ
    m = get_or names i []

    -- the name of this node leads to it
    itself : bytes_eq m name ≡ true → position (bytes_eq name) names ≡ Some i
    itself h = position-node names i name are below (same-bytes_eq m name h)

    by : (o : Option ℕ) → position (bytes_eq name) names ≡ o → leads_to i o ≡ bytes_eq m name
    by None none = sym (false_from_ne_true (bytes_eq m name) (λ h. let clash : None ≡ Some i = sym none ∙ itself h in absurd (cc)))
    by (Some j) found =
        let at = position-Some (bytes_eq name) names j [] found in
        ⊎_elim
        (λ (e : i ≡ j). eq-eqb i j e ∙ sym (bytes_eq-same m name (ap (λ x. get_or names x []) e ∙ sym (same-bytes_eq name (get_or names j []) at.1))))
        (λ n. ne_eqb i j n ∙ sym (false_from_ne_true (bytes_eq m name) (λ h. let clash : Some j ≡ Some i = sym found ∙ itself h in let same : j ≡ i = cc in n (sym same))))
        (cases_eq i j)

-- a number is below the count of names
pub inside_number : (names : List (List ℕ)) (name : List ℕ) → is_inside (length names) (number names name) ≡ true
inside_number names name = by (position (bytes_eq name) names) refl
  where
    by : (o : Option ℕ) → position (bytes_eq name) names ≡ o → is_inside (length names) o ≡ true
    by None none = refl
    by (Some i) found = lt-ltb i (length names) (position-Some (bytes_eq name) names i [] found).0

-- a test that no element passes has no place
pub position_from_none : {X : Type 0} (p : X → Bool) (xs : List X) → list_any p xs ≡ false → position p xs ≡ None
position_from_none p xs none = rw (le-ltb (position_or_len p xs) (length xs) (none_passes p xs none)) refl
  where
    none_passes : {X : Type 0} (p : X → Bool) (xs : List X) → list_any p xs ≡ false → length xs ≤ position_or_len p xs
    none_passes p [] h = omega arith
    none_passes p (x ∷ xs) h = let parts = or_parts (p x) (list_any p xs) h in let rest = none_passes p xs parts.1 in rw (parts.0) (omega (arith, rest))

-- each end of an element is known
pub record AreKnown (names : List (List ℕ)) (e : Element) : Type 0 where
  pub each : (j : ℕ) → j < length (ends_of e) → IsKnown names (get_or (ends_of e) j [])

pub known_all : (d : DeckValue) → All (AreKnown (nodes d)) d.elements
unfolding IsKnown nodes
known_all d = λ k e below. record {
  each = λ j inside real. end_seen d.elements [] k j (get_or d.elements k e) below (get_or_default d.elements k (get_or d.elements k e) e below) inside real;
}

-- what is known among the nodes is known among names that have them all
pub known_more : (d : DeckValue) (names : List (List ℕ)) (e : Element) → HasNodes d names → AreKnown (nodes d) e → AreKnown names e
unfolding IsKnown
known_more d names e has known = record {
  each = λ j inside real. by (get_or (ends_of e) j []) (known.each j inside real);
}
  where
    by : (name : List ℕ) → list_any (bytes_eq name) (nodes d) ≡ true → list_any (bytes_eq name) names ≡ true
    by name there =
        let i : ℕ = position_or_len (bytes_eq name) (nodes d) in
        let below : i < length (nodes d) = any_position (bytes_eq name) (nodes d) there in
        let found : position (bytes_eq name) (nodes d) ≡ Some i = cond-true (ltb i (length (nodes d))) (Some i) None (lt-ltb _ _ below) in
        let at = position-Some (bytes_eq name) (nodes d) i [] found in
        rw (same-bytes_eq name (get_or (nodes d) i []) at.1) (has i below)

-- so the ends of an element have by number the voltages that they have by name
pub same_at_ends : (names : List (List ℕ)) (v : List ℕ → Fraction) (volt : End → Fraction) (e : Element) → IsGrounded v → volt None ≡ no_volts
    → ((i : ℕ) → i < length names → volt (Some i) ≡ v (get_or names i [])) → AreKnown names e → SameAtEnds names volt v e
same_at_ends names v volt e grounded none each known = λ j inside. number_volts names v volt (get_or (ends_of e) j []) grounded none each (known.each j inside)
