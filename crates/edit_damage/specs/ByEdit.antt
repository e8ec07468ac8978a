-- What is near the element of an edit, or near the node that it gives a voltage, and which numbers are found of it.
use Rattle.std.specs.Prelude.{◌≡◌, ℕ, nat_eq, Bool, false, not, ◌&&◌, ◌||◌, List}
use Rattle.std.specs.List.{list_any}
use Rattle.std.specs.Str.{bytes_eq}
use Rattle.semantics.specs.declared.element.Element.{Element}
use Rattle.semantics.specs.Ground.{is_ground}
use Rattle.semantics.specs.Deck.{Name, DeckValue, ends_of, name_of}
use Rattle.semantics.specs.Edit.{is_voltage_source}
use Rattle.semantics.specs.Neighbours.{is_end, share}
use Rattle.circuit_model.specs.Numbers.{CircuitValue, kind_at, name_at}
use Rattle.deck_cards.specs.declared.edit.Edit.{Edit}
use Rattle.deck_cards.specs.declared.edit.Edit.TheVariants.{SetR, SetC, SetWave, SetModel, SetIc, Add, Remove}
use Rattle.deck_cards.specs.Edits.{has_name}
use Rattle.edit_damage.specs.Marks.{is_free_kind, starts_apart}
use Rattle.edit_damage.specs.Same.{has_element}

-- ---- numbers that are found

-- a number is among these
abbrev pub is_among : List ℕ → ℕ → Bool
is_among numbers i = list_any (nat_eq i) numbers

-- each number of a free node that passes is found too, and of the others those that were
abbrev pub AreNumbersFound : CircuitValue → (ℕ → Bool) → List ℕ → List ℕ → Type 0
AreNumbersFound c passes old new =
    (i : ℕ) → is_among new i ≡ (is_among old i || (is_free_kind (kind_at c i) && passes i))

-- the same by the names of the nodes
abbrev pub AreFound : CircuitValue → (Name → Bool) → List ℕ → List ℕ → Type 0
AreFound c passes old new = AreNumbersFound c (λ i. passes (name_at c i)) old new

-- ---- what is near

-- a device of the deck joins the name to a node, which is not ground
abbrev pub is_beside : DeckValue → Name → Name → Bool
is_beside d m n = not (is_ground m) && share d m n

-- the name is that of a node, or a device joins it to the node
abbrev pub is_around_node : DeckValue → Name → Name → Bool
is_around_node d m n = bytes_eq n m || is_beside d m n

-- the element is a source, and a device joins the name to one of its ends
abbrev pub is_beside_source : DeckValue → Element → Name → Bool
is_beside_source d e n = is_voltage_source e && list_any (λ m. is_beside d m n) (ends_of e)

-- the name is an end of the element, or a neighbour of one where it is a source
abbrev pub is_near_element : DeckValue → Element → Name → Bool
is_near_element d e n = is_end n e || is_beside_source d e n

-- ---- what an edit names

-- the element has the name of the one that the edit sets, puts in or takes out
abbrev pub is_edited : Edit → Element → Bool
is_edited (SetR name ohms) e = has_name name e
is_edited (SetC name farads) e = has_name name e
is_edited (SetWave name wave) e = has_name name e
is_edited (SetModel name part) e = has_name name e
is_edited (SetIc node volts) e = false
is_edited (Add element) e = has_name (name_of element) e
is_edited (Remove name) e = has_name name e

-- the one deck has the element of a name in a form that the other has not, and by the devices of deck d another name is
-- near it
abbrev pub is_near_named : DeckValue → DeckValue → DeckValue → Name → Name → Bool
is_near_named d one other name n =
    list_any (λ e. has_name name e && (not (has_element other e) && is_near_element d e n)) one.elements

-- the same of the element of an edit
abbrev pub is_near_lost : DeckValue → DeckValue → DeckValue → Edit → Name → Bool
is_near_lost d one other edit n =
    list_any (λ e. is_edited edit e && (not (has_element other e) && is_near_element d e n)) one.elements

-- the edit gives a node another voltage, and the name is around it
abbrev pub is_near_start : DeckValue → DeckValue → Edit → Name → Bool
is_near_start old new (SetIc node volts) n = starts_apart old new node && is_around_node new node n
is_near_start old new (SetR name ohms) n = false
is_near_start old new (SetC name farads) n = false
is_near_start old new (SetWave name wave) n = false
is_near_start old new (SetModel name part) n = false
is_near_start old new (Add element) n = false
is_near_start old new (Remove name) n = false
