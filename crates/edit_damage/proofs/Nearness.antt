-- What the marks of a change come to: the numbers of the nodes near it.
use Rattle.std.proofs.Common.{◌≡◌, ◌≢◌, ◌∙◌, ℕ, ◌<◌, Bool, true, false, not, ◌&&◌, ◌||◌, nat_eq, List, [], length, get_or, replicate, refl, sym, ap, subst, ⊎_elim, inl, inr, ◌⊎◌, Contains, arith}
use Rattle.std.specs.List.{list_any, range_with_len}
use Rattle.std.specs.Ordering.{int_eq}
use Rattle.std.specs.Str.{bytes_eq}
use Rattle.std.proofs.lemmas.Bool.{false≢true, not-true, not_from_false, and_parts, and_from, or_cases, or_left, or_right, eqb-true, eq-eqb, false_from_ne_true}
use Rattle.std.proofs.lemmas.Bool.Decides.{Decides-int_eq}
use Rattle.std.proofs.lemmas.List.{get_or_default, get_or-replicate, length-replicate}
use Rattle.std.proofs.lemmas.List.Folds.{list_any_at}
use Rattle.semantics.specs.declared.element.Element.{Element}
use Rattle.semantics.specs.Ground.{is_ground}
use Rattle.semantics.specs.Deck.{DeckValue, initial_of, nodes}
use Rattle.semantics.specs.Edit.{is_voltage_source, AtChange, AtChangedSource, BesideChange, IsNear, IsOnlyIn}
use Rattle.semantics.specs.Neighbours.{is_end, share}
use Rattle.semantics.proofs.Free.{node_is}
use Rattle.semantics.proofs.Neighbours.{share_end}
use Rattle.semantics.proofs.Nodes.{same-bytes_eq}
use Rattle.circuit_model.specs.declared.node_kind.NodeKind.{NodeKind}
use Rattle.circuit_model.specs.declared.node_kind.NodeKind.TheVariants.{Absent, Driven, Free}
use Rattle.circuit_model.specs.Names.{AreNames, HasNodes}
use Rattle.circuit_model.specs.Numbers.{CircuitValue, kind_at, no_element}
use Rattle.edit_damage.specs.Same.{has_element}
use Rattle.edit_damage.specs.Marks.{at_lost, at_lost_source, free_marked, is_around, is_around_marked, is_free_kind, name_of_number, starts_apart, AreMarked}
use Rattle.edit_damage.specs.Near.{AreNear}
use Rattle.edit_damage.proofs.Alike.{any_index, has_none, none_has}
use Rattle.edit_damage.proofs.Ranges.{any_below, any_same, kept_all, kept_has, kept_rising, some_below}

-- ---- ends of changed elements

pub some_element : (p : Element → Bool) (es : List Element) → list_any p es ≡ true → (e : Element) × (Contains es e × (p e ≡ true))
some_element p es h =
    let at = any_index p es no_element h in
    let e : Element = get_or es at.0 no_element in
    (e, ((at.0, at.1, get_or_default es at.0 e no_element at.1), at.2))

pub any_element : (p : Element → Bool) (es : List Element) (e : Element) → Contains es e → p e ≡ true → list_any p es ≡ true
any_element p es e at h = list_any_at p es at.0 e at.1 (ap p at.2 ∙ h)

-- an element of the one deck that the other has not, with the name at an end
lost_from : (one other : DeckValue) (n : List ℕ) → list_any (at_lost other n) one.elements ≡ true → (e : Element) × (IsOnlyIn one other e × (is_end n e ≡ true))
lost_from one other n h =
    let some = some_element (at_lost other n) one.elements h in
    let both = and_parts (not (has_element other some.0)) (is_end n some.0) some.1.1 in
    (some.0, ((some.1.0, has_none other some.0 (not-true (has_element other some.0) both.0)), both.1))

from_lost : (one other : DeckValue) (n : List ℕ) (e : Element) → IsOnlyIn one other e → is_end n e ≡ true → list_any (at_lost other n) one.elements ≡ true
from_lost one other n e only end = any_element (at_lost other n) one.elements e only.0 (and_from _ _ (not_from_false (has_element other e) (none_has other e only.1)) end)

source_from : (one other : DeckValue) (n : List ℕ) → list_any (at_lost_source other n) one.elements ≡ true → (e : Element) × (IsOnlyIn one other e × ((is_voltage_source e ≡ true) × (is_end n e ≡ true)))
source_from one other n h =
    let some = some_element (at_lost_source other n) one.elements h in
    let both = and_parts (not (has_element other some.0)) (is_voltage_source some.0 && is_end n some.0) some.1.1 in
    (some.0, ((some.1.0, has_none other some.0 (not-true (has_element other some.0) both.0)), and_parts (is_voltage_source some.0) (is_end n some.0) both.1))

from_source : (one other : DeckValue) (n : List ℕ) (e : Element) → IsOnlyIn one other e → is_voltage_source e ≡ true → is_end n e ≡ true → list_any (at_lost_source other n) one.elements ≡ true
from_source one other n e only source end =
    any_element (at_lost_source other n) one.elements e only.0
    (and_from _ _ (not_from_false (has_element other e) (none_has other e only.1)) (and_from (is_voltage_source e) (is_end n e) source end))

module _ (old new : DeckValue) where
  -- an end of an element that is in one deck alone
  abbrev is_lost : List ℕ → Bool
  is_lost n = list_any (at_lost new n) old.elements || list_any (at_lost old n) new.elements

  abbrev is_lost_source : List ℕ → Bool
  is_lost_source n = list_any (at_lost_source new n) old.elements || list_any (at_lost_source old n) new.elements

  -- an end of such a source, or a name with another initial voltage
  abbrev is_moved : List ℕ → Bool
  is_moved n = is_lost_source n || starts_apart old new n

  change_from : (n : List ℕ) → is_lost n ≡ true → AtChange old new n
  change_from n h = ⊎_elim
      (λ (left : list_any (at_lost new n) old.elements ≡ true). let at = lost_from old new n left in record { element = at.0; changed = inl at.1.0; end = at.1.1 })
      (λ (right : list_any (at_lost old n) new.elements ≡ true). let at = lost_from new old n right in record { element = at.0; changed = inr at.1.0; end = at.1.1 })
      (or_cases _ _ h)

  from_change : (n : List ℕ) → AtChange old new n → is_lost n ≡ true
  from_change n at = ⊎_elim
      (λ (only : IsOnlyIn old new at.element). or_left _ _ (from_lost old new n at.element only at.end))
      (λ (only : IsOnlyIn new old at.element). or_right _ _ (from_lost new old n at.element only at.end))
      at.changed

  change_source : (n : List ℕ) → is_lost_source n ≡ true → AtChangedSource old new n
  change_source n h = ⊎_elim
      (λ (left : list_any (at_lost_source new n) old.elements ≡ true). let at = source_from old new n left in record { element = at.0; changed = inl at.1.0; source = at.1.1.0; end = at.1.1.1 })
      (λ (right : list_any (at_lost_source old n) new.elements ≡ true). let at = source_from new old n right in record { element = at.0; changed = inr at.1.0; source = at.1.1.0; end = at.1.1.1 })
      (or_cases _ _ h)

  from_change_source : (n : List ℕ) → AtChangedSource old new n → is_lost_source n ≡ true
  from_change_source n at = ⊎_elim
      (λ (only : IsOnlyIn old new at.element). or_left _ _ (from_source old new n at.element only at.source at.end))
      (λ (only : IsOnlyIn new old at.element). or_right _ _ (from_source new old n at.element only at.source at.end))
      at.changed

  -- ---- initial voltages

  pub apart_from : (n : List ℕ) → starts_apart old new n ≡ true → initial_of old n ≢ initial_of new n
  apart_from n h = λ same. false≢true (sym (not-true (int_eq (initial_of old n) (initial_of new n)) h) ∙ (Decides-int_eq (initial_of old n) (initial_of new n)).1 same)

  pub from_apart : (n : List ℕ) → (initial_of old n ≢ initial_of new n) → starts_apart old new n ≡ true
  from_apart n apart = not_from_false (int_eq (initial_of old n) (initial_of new n)) (false_from_ne_true (int_eq (initial_of old n) (initial_of new n)) (λ h. apart ((Decides-int_eq (initial_of old n) (initial_of new n)).0 h)))

  -- ---- what moves its neighbours

  moved_from : (n : List ℕ) → is_moved n ≡ true → (initial_of old n ≢ initial_of new n) ⊎ AtChangedSource old new n
  moved_from n h = ⊎_elim (λ (s : is_lost_source n ≡ true). inr (change_source n s)) (λ (a : starts_apart old new n ≡ true). inl (apart_from n a)) (or_cases _ _ h)

  from_moved : (n : List ℕ) → (initial_of old n ≢ initial_of new n) ⊎ AtChangedSource old new n → is_moved n ≡ true
  from_moved n h = ⊎_elim (λ (a : initial_of old n ≢ initial_of new n). or_right (is_lost_source n) _ (from_apart n a)) (λ (s : AtChangedSource old new n). or_left _ _ (from_change_source n s)) h

  -- a name that moves its neighbours is near itself
  moved_near : (n : List ℕ) → is_moved n ≡ true → IsNear old new n
  moved_near n h = ⊎_elim
      (λ (a : initial_of old n ≢ initial_of new n). inr (inl a))
      (λ (s : AtChangedSource old new n). inl (record { element = s.element; changed = s.changed; end = s.end }))
      (moved_from n h)

  -- ---- by numbers

  -- a number is around one that moves its neighbours
  abbrev around_moved : List (List ℕ) → ℕ → Bool
  around_moved names i = list_any (λ j. is_moved (get_or names j []) && is_around new names j i) (range_with_len 0 (length names))

  module _ (names : List (List ℕ)) (are : AreNames names) (has : HasNodes new names) where
    abbrev name : ℕ → List ℕ
    name i = get_or names i []

    abbrev around : ℕ → Bool
    around i = around_moved names i

    -- a neighbour that is not ground has a number
    pub numbered : (m n : List ℕ) → is_ground m ≡ false → share new m n ≡ true → (j : ℕ) × ((j < length names) × (m ≡ name j))
    numbered m n real joined =
        let node : list_any (bytes_eq m) (nodes new) ≡ true = node_is new m ∙ and_from (not (is_ground m)) (list_any (is_end m) new.elements) (not_from_false (is_ground m) real) (share_end new m n joined) in
        let at = any_index (bytes_eq m) (nodes new) [] node in
        let same : m ≡ get_or (nodes new) at.0 [] = same-bytes_eq m (get_or (nodes new) at.0 []) at.2 in
        let there : list_any (bytes_eq m) names ≡ true = ap (λ k. list_any (bytes_eq k) names) same ∙ has at.0 at.1 in
        let found = any_index (bytes_eq m) names [] there in
        (found.0, (found.1, same-bytes_eq m (name found.0) found.2))

    pub marked_near : (i : ℕ) → (is_lost (name i) || around i) ≡ true → IsNear old new (name i)
    marked_near i h = ⊎_elim (λ (l : is_lost (name i) ≡ true). inl (change_from (name i) l)) (λ (a : around i ≡ true). beside a) (or_cases (is_lost (name i)) (around i) h)
      where
        beside : around i ≡ true → IsNear old new (name i)
        beside a =
            let at = some_below (λ j. is_moved (name j) && is_around new names j i) (length names) a in
            let both = and_parts (is_moved (name at.0)) (is_around new names at.0 i) at.2 in
            ⊎_elim
            (λ (same : nat_eq i at.0 ≡ true). moved_near (name i) (ap (λ k. is_moved (name k)) (eqb-true i at.0 same) ∙ both.0))
            (λ (joined : share new (name at.0) (name i) ≡ true). inr (inr (record { other = name at.0; real = are.real at.0 at.1; joined = joined; change = moved_from (name at.0) both.0 })))
            (or_cases (nat_eq i at.0) (share new (name at.0) (name i)) both.1)

    pub near_marked : (i : ℕ) → i < length names → IsNear old new (name i) → (is_lost (name i) || around i) ≡ true
    near_marked i below near = ⊎_elim
        (λ (at : AtChange old new (name i)). or_left (is_lost (name i)) (around i) (from_change (name i) at))
        (λ (rest : (initial_of old (name i) ≢ initial_of new (name i)) ⊎ BesideChange old new (name i)). or_right (is_lost (name i)) (around i) (later rest))
        near
      where
        by : (j : ℕ) → j < length names → is_moved (name j) ≡ true → is_around new names j i ≡ true → around i ≡ true
        by j inside moved near' = any_below (λ k. is_moved (name k) && is_around new names k i) (length names) j inside (and_from (is_moved (name j)) (is_around new names j i) moved near')

        beside : BesideChange old new (name i) → around i ≡ true
        beside b =
            let at = numbered b.other (name i) b.real b.joined in
            let moved : is_moved (name at.0) ≡ true = ap is_moved (sym at.1.1) ∙ from_moved b.other b.change in
            let joined : share new (name at.0) (name i) ≡ true = ap (λ m. share new m (name i)) (sym at.1.1) ∙ b.joined in
            by at.0 at.1.0 moved (or_right (nat_eq i at.0) (share new (name at.0) (name i)) joined)

        later : (initial_of old (name i) ≢ initial_of new (name i)) ⊎ BesideChange old new (name i) → around i ≡ true
        later rest = ⊎_elim
            (λ (apart : initial_of old (name i) ≢ initial_of new (name i)).
            by i below (or_right (is_lost_source (name i)) _ (from_apart (name i) apart)) (or_left (nat_eq i i) (share new (name i) (name i)) (eq-eqb i i refl)))
            (λ (b : BesideChange old new (name i)). beside b)
            rest

-- ---- the answer

pub free_kind : (k : NodeKind) → is_free_kind k ≡ true → k ≡ Free
free_kind Absent h = absurd (false≢true h)
free_kind Driven h = absurd (false≢true h)
free_kind Free h = refl

-- the marks are those of the names
pub are_near : (old : DeckValue) (c : CircuitValue) (marks : List Bool) (numbers : List ℕ) → AreNames c.names → HasNodes c.deck c.names
    → ((i : ℕ) → i < length c.names → get_or marks i false ≡ (is_lost old c.deck (get_or c.names i []) || around_moved old c.deck c.names i))
    → numbers ≡ free_marked c marks (length c.names) → AreNear old c.deck c numbers
are_near old c marks numbers are has marked is = subst (AreNear old c.deck c) (sym is) (record {
  rising = kept_rising test (length c.names);
  sound = λ k e below.
      let at = kept_all test (length c.names) k e below in
      let i : ℕ = get_or (free_marked c marks (length c.names)) k e in
      let both = and_parts (get_or marks i false) (is_free_kind (kind_at c i)) at.1 in
      (free_kind (kind_at c i) both.1, marked_near old c.deck c.names are has i (sym (marked i at.0) ∙ both.0));
  complete = λ i below free near.
      kept_has test (length c.names) i below
      (and_from (get_or marks i false) (is_free_kind (kind_at c i)) (marked i below ∙ near_marked old c.deck c.names are has i below near) (ap is_free_kind free));
})
  where
    test : ℕ → Bool
    test i = get_or marks i false && is_free_kind (kind_at c i)

-- ---- the marks of a change

-- what two turns mark, where nothing was marked before
two_turns : (k : ℕ) (p q : ℕ → Bool) (a b c : List Bool) → a ≡ replicate k false → AreMarked p a b → AreMarked q b c → (i : ℕ) → i < k → get_or c i false ≡ (p i || q i)
two_turns k p q a b c start first second i below =
    let size : length a ≡ k = ap length start ∙ length-replicate k false in
    let clear : get_or a i false ≡ false = ap (λ xs. get_or xs i false) start ∙ get_or-replicate k i false false below in
    second.each i (omega (arith, size, first.count)) ∙ ap (λ x. x || q i) (first.each i (omega (arith, size)) ∙ ap (λ x. x || p i) clear)

two_sizes : (k : ℕ) (p q : ℕ → Bool) (a b c : List Bool) → a ≡ replicate k false → AreMarked p a b → AreMarked q b c → length c ≡ k
two_sizes k p q a b c start first second = second.count ∙ first.count ∙ ap length start ∙ length-replicate k false

-- the marks of the two decks
pub record MarkTurns (old new : DeckValue) (names : List (List ℕ)) (k : ℕ) (near0 near1 near2 moved0 moved1 moved2 moved3 : List Bool) : Type 0 where
  pub near_start : near0 ≡ replicate k false
  pub near_old : AreMarked (λ i. list_any (at_lost new (name_of_number names i)) old.elements) near0 near1
  pub near_new : AreMarked (λ i. list_any (at_lost old (name_of_number names i)) new.elements) near1 near2
  pub moved_start : moved0 ≡ replicate k false
  pub moved_old : AreMarked (λ i. list_any (at_lost_source new (name_of_number names i)) old.elements) moved0 moved1
  pub moved_new : AreMarked (λ i. list_any (at_lost_source old (name_of_number names i)) new.elements) moved1 moved2
  pub moved_apart : AreMarked (λ i. starts_apart old new (name_of_number names i)) moved2 moved3

module _ (old new : DeckValue) (names : List (List ℕ)) (k : ℕ) (near0 near1 near2 near3 moved0 moved1 moved2 moved3 : List Bool) (turns : MarkTurns old new names k near0 near1 near2 moved0 moved1 moved2 moved3) where
  moved_is : (i : ℕ) → i < k → get_or moved3 i false ≡ is_moved old new (get_or names i [])
  moved_is i below =
      let size = two_sizes k _ _ moved0 moved1 moved2 turns.moved_start turns.moved_old turns.moved_new in
      turns.moved_apart.each i (omega (arith, size))
      ∙ ap (λ x. x || starts_apart old new (get_or names i [])) (two_turns k _ _ moved0 moved1 moved2 turns.moved_start turns.moved_old turns.moved_new i below)

  marked_is : k ≡ length names → AreMarked (is_around_marked new names moved3 (length names)) near2 near3 → (i : ℕ) → i < length names
      → get_or near3 i false ≡ (is_lost old new (get_or names i []) || around_moved old new names i)
  marked_is count around i below =
      let inside : i < k = omega (arith, count) in
      let size = two_sizes k _ _ near0 near1 near2 turns.near_start turns.near_old turns.near_new in
      around.each i (omega (arith, size))
      ∙ ap (λ x. x || is_around_marked new names moved3 (length names) i) (two_turns k _ _ near0 near1 near2 turns.near_start turns.near_old turns.near_new i inside)
      ∙ ap (λ x. is_lost old new (get_or names i []) || x)
      (any_same (λ j. get_or moved3 j false && is_around new names j i) (λ j. is_moved old new (get_or names j []) && is_around new names j i) (length names)
      (λ j low. let low_k : j < k = omega (arith, count) in ap (λ x. x && is_around new names j i) (moved_is j low_k)))

  -- what has to be shown at a circuit
  abbrev Comes : List ℕ → CircuitValue → Type 0
  Comes numbers v =
      AreNames v.names → HasNodes v.deck v.names → k ≡ length v.names → AreMarked (is_around_marked v.deck v.names moved3 (length v.names)) near2 near3
      → numbers ≡ free_marked v near3 (length v.names) → AreNear old new v numbers

  -- the numbers that the marks come to are those of the nodes near the change
  pub damage_is : (c : CircuitValue) (numbers : List ℕ) → c ≡ record { deck = new; names = names } → AreNames c.names → HasNodes c.deck c.names → k ≡ length c.names
      → AreMarked (is_around_marked c.deck c.names moved3 (length c.names)) near2 near3 → numbers ≡ free_marked c near3 (length c.names) → AreNear old new c numbers
  damage_is c numbers is = subst (Comes numbers) (sym is) (λ are has count around found. are_near old (record { deck = new; names = names }) near3 numbers are has (marked_is count around) found)
