-- Which numbers of nodes are marked.
use Rattle.std.specs.Prelude.{◌≡◌, ℕ, ◌<◌, nat_eq, Bool, true, false, filter, not, ◌&&◌, ◌||◌, List, [], length, slice_index_or}
use Rattle.std.specs.List.{list_any, range_with_len}
use Rattle.std.specs.Ordering.{int_eq}
use Rattle.semantics.specs.declared.element.Element.{Element}
use Rattle.semantics.specs.Deck.{DeckValue, initial_of}
use Rattle.semantics.specs.Edit.{is_voltage_source}
use Rattle.semantics.specs.Neighbours.{is_end, share}
use Rattle.circuit_model.specs.declared.node_kind.NodeKind.{NodeKind}
use Rattle.circuit_model.specs.declared.node_kind.NodeKind.TheVariants.{Absent, Driven, Free}
use Rattle.circuit_model.specs.Numbers.{CircuitValue, kind_at}
use Rattle.edit_damage.specs.Same.{has_element}

-- each number that passes is marked too, and the others are as they were
pub record AreMarked (passes : ℕ → Bool) (old new : List Bool) : Type 0 where
  pub count : length new ≡ length old
  pub each : (i : ℕ) → i < length old → slice_index_or new i false ≡ (slice_index_or old i false || passes i)

-- the name of a number
abbrev pub name_of_number : List (List ℕ) → ℕ → List ℕ
name_of_number names i = slice_index_or names i []

-- an end of an element that the other deck does not have in the same form
abbrev pub at_lost : DeckValue → List ℕ → Element → Bool
at_lost other n e = not (has_element other e) && is_end n e

-- an end of a source that the other deck does not have in the same form
abbrev pub at_lost_source : DeckValue → List ℕ → Element → Bool
at_lost_source other n e = not (has_element other e) && (is_voltage_source e && is_end n e)

-- the two decks give the name different initial voltages
abbrev pub starts_apart : DeckValue → DeckValue → List ℕ → Bool
starts_apart old new n = not (int_eq (initial_of old n) (initial_of new n))

-- a number is that of the node, or that of a node that shares a device with it
abbrev pub is_around : DeckValue → List (List ℕ) → ℕ → ℕ → Bool
is_around d names node i = nat_eq i node || share d (name_of_number names node) (name_of_number names i)

-- a number is around one of the first marked ones
abbrev pub is_around_marked : DeckValue → List (List ℕ) → List Bool → ℕ → ℕ → Bool
is_around_marked d names marked count i = list_any (λ node. slice_index_or marked node false && is_around d names node i) (range_with_len 0 count)

abbrev pub is_free_kind : NodeKind → Bool
is_free_kind Absent = false
is_free_kind Driven = false
is_free_kind Free = true

-- of the first numbers, those that are marked and are of free nodes
abbrev pub free_marked : CircuitValue → List Bool → ℕ → List ℕ
free_marked c marked count = filter (λ i. slice_index_or marked i false && is_free_kind (kind_at c i)) (range_with_len 0 count)
