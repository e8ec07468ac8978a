-- What is near the element of an accepted edit, or near the node that it gives a voltage, is near the change that it makes, and nothing else is.
use Rattle.std.proofs.Common.{◌≡◌, ◌≢◌, ◌∙◌, ℕ, Bool, true, false, not, ◌&&◌, ◌||◌, List, [], get_or, refl, sym, ap, subst, ⊎_elim, inl, inr, ◌⊎◌}
use Rattle.std.specs.List.{list_any}
use Rattle.std.specs.List.Sorted.{IsStrictlyIncreasing}
use Rattle.std.specs.Str.{bytes_eq}
use Rattle.std.proofs.lemmas.Bool.{false≢true, not-true, not_from_false, and_parts, and_from, or_cases, or_left, or_right}
use Rattle.std.proofs.lemmas.List.{get_or_default}
use Rattle.std.proofs.lemmas.List.Folds.{list_any_at}
use Rattle.semantics.specs.declared.element.Element.{Element}
use Rattle.semantics.specs.Ground.{is_ground}
use Rattle.semantics.specs.Deck.{DeckValue, ends_of, initial_of}
use Rattle.semantics.specs.Edit.{is_voltage_source, AtChange, AtChangedSource, BesideChange, IsChanged, IsNear, IsOnlyIn}
use Rattle.semantics.specs.Neighbours.{is_end, share}
use Rattle.semantics.proofs.Nodes.{bytes_eq-same, same-bytes_eq}
use Rattle.circuit_model.specs.Numbers.{CircuitValue, kind_at}
use Rattle.deck_cards.specs.declared.edit.Edit.{Edit}
use Rattle.deck_cards.specs.declared.edit.Edit.TheVariants.{SetR, SetC, SetWave, SetModel, SetIc, Add, Remove}
use Rattle.deck_cards.specs.Edits.{edited}
use Rattle.edit_laws.specs.Accepted.{IsAccepted}
use Rattle.edit_laws.specs.Changed.{Gives}
use Rattle.edit_laws.proofs.Changed.{initial_after}
use Rattle.edit_damage.specs.Same.{has_element}
use Rattle.edit_damage.specs.Marks.{is_free_kind, starts_apart}
use Rattle.edit_damage.specs.Near.{AreNear}
use Rattle.edit_damage.specs.ByEdit.{is_among, is_around_node, is_beside, is_beside_source, is_edited, is_near_element, is_near_lost, is_near_start, AreNumbersFound}
use Rattle.edit_damage.proofs.Alike.{any_index, has_none, none_has}
use Rattle.edit_damage.proofs.Finding.{among_has, found_three, has_among}
use Rattle.edit_damage.proofs.Named.{changed_named}
use Rattle.edit_damage.proofs.Nearness.{any_element, apart_from, free_kind, from_apart, some_element}

-- ---- near an element

-- an end of a source joins to its neighbours
source_from : (d : DeckValue) (x : Element) (n : List ℕ) → is_beside_source d x n ≡ true
    → (is_voltage_source x ≡ true) × ((m : List ℕ) × ((is_end m x ≡ true) × ((is_ground m ≡ false) × (share d m n ≡ true))))
source_from d x n h =
    let both = and_parts (is_voltage_source x) (list_any (λ m. is_beside d m n) (ends_of x)) h in
    let at = any_index (λ m. is_beside d m n) (ends_of x) [] both.1 in
    let m : List ℕ = get_or (ends_of x) at.0 [] in
    let joined = and_parts (not (is_ground m)) (share d m n) at.2 in
    (both.0, (m, (list_any_at (bytes_eq m) (ends_of x) at.0 [] at.1 (bytes_eq-same m m refl), (not-true (is_ground m) joined.0, joined.1))))

from_source : (d : DeckValue) (x : Element) (m n : List ℕ) → is_voltage_source x ≡ true → is_end m x ≡ true → is_ground m ≡ false → share d m n ≡ true → is_beside_source d x n ≡ true
from_source d x m n source end real joined =
    let at = any_index (bytes_eq m) (ends_of x) [] end in
    let same : m ≡ get_or (ends_of x) at.0 [] = same-bytes_eq m (get_or (ends_of x) at.0 []) at.2 in
    let beside : is_beside d m n ≡ true = and_from (not (is_ground m)) (share d m n) (not_from_false (is_ground m) real) joined in
    and_from (is_voltage_source x) _ source (list_any_at (λ k. is_beside d k n) (ends_of x) at.0 [] at.1 (ap (λ k. is_beside d k n) (sym same) ∙ beside))

module _ (old new : DeckValue) where
  element_near : (x : Element) (n : List ℕ) → IsChanged old new x → is_near_element new x n ≡ true → IsNear old new n
  element_near x n changed h = ⊎_elim
      (λ (end : is_end n x ≡ true). inl (record { element = x; changed = changed; end = end }))
      (λ (beside : is_beside_source new x n ≡ true).
      let at = source_from new x n beside in
      inr (inr (record {
        other = at.1.0;
        real = at.1.1.1.0;
        joined = at.1.1.1.1;
        change = inr (record { element = x; changed = changed; source = at.0; end = at.1.1.0 });
      })))
      (or_cases (is_end n x) (is_beside_source new x n) h)

  -- ---- the element of an edit

  -- an element of the one deck that the other has not in its form
  lost_from : (e : Edit) (one other : DeckValue) (n : List ℕ) → is_near_lost new one other e n ≡ true → (x : Element) × (IsOnlyIn one other x × (is_near_element new x n ≡ true))
  lost_from e one other n h =
      let some = some_element (λ x. is_edited e x && (not (has_element other x) && is_near_element new x n)) one.elements h in
      let x : Element = some.0 in
      let both = and_parts (not (has_element other x)) (is_near_element new x n) (and_parts (is_edited e x) _ some.1.1).1 in
      (x, ((some.1.0, has_none other x (not-true (has_element other x) both.0)), both.1))

  from_lost : (e : Edit) (one other : DeckValue) (n : List ℕ) (x : Element) → IsOnlyIn one other x → is_edited e x ≡ true → is_near_element new x n ≡ true → is_near_lost new one other e n ≡ true
  from_lost e one other n x only named near =
      any_element (λ y. is_edited e y && (not (has_element other y) && is_near_element new y n)) one.elements x only.0
      (and_from (is_edited e x) _ named (and_from (not (has_element other x)) (is_near_element new x n) (not_from_false (has_element other x) (none_has other x only.1)) near))

  -- ---- the node of an edit

  around_near : (node n : List ℕ) → starts_apart old new node ≡ true → is_around_node new node n ≡ true → IsNear old new n
  around_near node n apart h = ⊎_elim
      (λ (same : bytes_eq n node ≡ true). inr (inl (apart_from old new n (ap (starts_apart old new) (same-bytes_eq n node same) ∙ apart))))
      (λ (beside : is_beside new node n ≡ true).
      let both = and_parts (not (is_ground node)) (share new node n) beside in
      inr (inr (record { other = node; real = not-true (is_ground node) both.0; joined = both.1; change = inl (apart_from old new node apart) })))
      (or_cases (bytes_eq n node) (is_beside new node n) h)

  start_near : (e : Edit) (n : List ℕ) → is_near_start old new e n ≡ true → IsNear old new n
  start_near (SetIc node volts) n h = let both = and_parts (starts_apart old new node) (is_around_node new node n) h in around_near node n both.0 both.1
  start_near (SetR name ohms) n h = absurd (false≢true h)
  start_near (SetC name farads) n h = absurd (false≢true h)
  start_near (SetWave name wave) n h = absurd (false≢true h)
  start_near (SetModel name part) n h = absurd (false≢true h)
  start_near (Add element) n h = absurd (false≢true h)
  start_near (Remove name) n h = absurd (false≢true h)

  -- an edit that gives the node another voltage
  from_start : (e : Edit) (node n : List ℕ) → Gives old e node → (initial_of old node ≢ initial_of new node) → is_around_node new node n ≡ true → is_near_start old new e n ≡ true
  from_start e node n gives apart around = ap (λ k. is_near_start old new k n) gives.is ∙ and_from (starts_apart old new node) (is_around_node new node n) (from_apart old new node apart) around

  -- ---- both

  abbrev pub is_near_edit : Edit → List ℕ → Bool
  is_near_edit e n = is_near_lost new old new e n || (is_near_lost new new old e n || is_near_start old new e n)

  edit_near : (e : Edit) (n : List ℕ) → is_near_edit e n ≡ true → IsNear old new n
  edit_near e n h = ⊎_elim
      (λ (gone : is_near_lost new old new e n ≡ true). let at = lost_from e old new n gone in element_near at.0 n (inl at.1.0) at.1.1)
      (λ (rest : (is_near_lost new new old e n || is_near_start old new e n) ≡ true). ⊎_elim
      (λ (come : is_near_lost new new old e n ≡ true). let at = lost_from e new old n come in element_near at.0 n (inr at.1.0) at.1.1)
      (λ (start : is_near_start old new e n ≡ true). start_near e n start)
      (or_cases (is_near_lost new new old e n) (is_near_start old new e n) rest))
      (or_cases (is_near_lost new old new e n) _ h)

  module _ (e : Edit) (accepted : IsAccepted old e) (is : new ≡ edited old e) where
    edited_has : (x : Element) → IsChanged old new x → is_edited e x ≡ true
    edited_has x changed = changed_named old e x accepted (subst (λ d. IsChanged old d x) is changed)

    given : (n : List ℕ) → (initial_of old n ≢ initial_of new n) → Gives old e n
    given n apart = (initial_after old e n).0 (subst (λ d. initial_of old n ≢ initial_of d n) is apart)

    from_element : (x : Element) (n : List ℕ) → IsChanged old new x → is_near_element new x n ≡ true → is_near_edit e n ≡ true
    from_element x n changed near = ⊎_elim
        (λ (gone : IsOnlyIn old new x). or_left (is_near_lost new old new e n) _ (from_lost e old new n x gone (edited_has x changed) near))
        (λ (come : IsOnlyIn new old x). or_right (is_near_lost new old new e n) _ (or_left (is_near_lost new new old e n) (is_near_start old new e n) (from_lost e new old n x come (edited_has x changed) near)))
        changed

    from_given : (node n : List ℕ) → (initial_of old node ≢ initial_of new node) → is_around_node new node n ≡ true → is_near_edit e n ≡ true
    from_given node n apart around =
        or_right (is_near_lost new old new e n) _ (or_right (is_near_lost new new old e n) (is_near_start old new e n) (from_start e node n (given node apart) apart around))

    near_edit : (n : List ℕ) → IsNear old new n → is_near_edit e n ≡ true
    near_edit n near = ⊎_elim
        (λ (at : AtChange old new n). from_element at.element n at.changed (or_left (is_end n at.element) (is_beside_source new at.element n) at.end))
        (λ (rest : (initial_of old n ≢ initial_of new n) ⊎ BesideChange old new n). ⊎_elim
        (λ (apart : initial_of old n ≢ initial_of new n). from_given n n apart (or_left (bytes_eq n n) (is_beside new n n) (bytes_eq-same n n refl)))
        (λ (b : BesideChange old new n). beside b)
        rest)
        near
      where
        beside : BesideChange old new n → is_near_edit e n ≡ true
        beside b = ⊎_elim
            (λ (apart : initial_of old b.other ≢ initial_of new b.other).
            from_given b.other n apart (or_right (bytes_eq n b.other) (is_beside new b.other n) (and_from (not (is_ground b.other)) (share new b.other n) (not_from_false (is_ground b.other) b.real) b.joined)))
            (λ (s : AtChangedSource old new b.other).
            from_element s.element n s.changed (or_right (is_end n s.element) (is_beside_source new s.element n) (from_source new s.element b.other n s.source s.end b.real b.joined)))
            b.change

-- ---- the answer

-- what rises, and has the free nodes near the edit, is what is near the change
are_near : (old : DeckValue) (e : Edit) (c : CircuitValue) (numbers : List ℕ) → IsAccepted old e → c.deck ≡ edited old e → IsStrictlyIncreasing numbers
    → ((i : ℕ) → is_among numbers i ≡ (is_free_kind (kind_at c i) && is_near_edit old c.deck e (get_or c.names i []))) → AreNear old c.deck c numbers
are_near old e c numbers accepted is rising has = record {
  rising = rising;
  sound = λ k x below.
      let i : ℕ = get_or numbers k x in
      let both = and_parts (is_free_kind (kind_at c i)) (is_near_edit old c.deck e (get_or c.names i [])) (sym (has i) ∙ has_among numbers i (k, below, get_or_default numbers k i x below)) in
      (free_kind (kind_at c i) both.0, edit_near old c.deck e (get_or c.names i []) both.1);
  complete = λ i below free near.
      among_has numbers i (has i ∙ and_from (is_free_kind (kind_at c i)) (is_near_edit old c.deck e (get_or c.names i [])) (ap is_free_kind free) (near_edit old c.deck e accepted is (get_or c.names i []) near));
}

-- the numbers that are found in three turns
pub record EditTurns (old new : DeckValue) (e : Edit) (c : CircuitValue) (found0 found1 found2 found3 : List ℕ) : Type 0 where
  pub none : found0 ≡ []
  pub gone : AreNumbersFound c (λ i. is_near_lost c.deck old new e (get_or c.names i [])) found0 found1
  pub come : AreNumbersFound c (λ i. is_near_lost c.deck new old e (get_or c.names i [])) found1 found2
  pub start : AreNumbersFound c (λ i. is_near_start old new e (get_or c.names i [])) found2 found3

-- the numbers that they come to, sorted, are those of the nodes near the change
pub found_near : (old new : DeckValue) (e : Edit) (c : CircuitValue) (found0 found1 found2 found3 numbers : List ℕ) → IsAccepted old e → new ≡ edited old e → c.deck ≡ new
    → EditTurns old new e c found0 found1 found2 found3 → IsStrictlyIncreasing numbers → ((i : ℕ) → is_among numbers i ≡ is_among found3 i) → AreNear old new c numbers
found_near old new e c found0 found1 found2 found3 numbers accepted is deck turns rising same =
    subst (λ d. AreNear old d c numbers) deck (are_near old e c numbers accepted (deck ∙ is) rising (λ i.
    let all : AreNumbersFound c (λ k. is_near_edit old c.deck e (get_or c.names k [])) found0 found3 =
    subst (λ d. AreNumbersFound c (λ k. is_near_lost c.deck old d e (get_or c.names k []) || (is_near_lost c.deck d old e (get_or c.names k []) || is_near_start old d e (get_or c.names k []))) found0 found3) (sym deck)
    (found_three c _ _ _ _ found0 found1 found2 found3 turns.gone turns.come turns.start (λ k below. refl)) in
    same i ∙ all i ∙ ap (λ xs. is_among xs i || (is_free_kind (kind_at c i) && is_near_edit old c.deck e (get_or c.names i []))) turns.none))
