-- The elements that the cards of a deck have said so far, and what one more makes of them.
use Rattle.std.specs.Prelude.{ℕ, nat_le, nat_lt, List, [], ◌∷◌, ◌++◌, length, map, fold, not, if◌then◌else◌, Option, Some, None, unwrap_or, Result, Ok, Err}
use Rattle.std.specs.List.{flat_map, list_any}
use Rattle.std.specs.Str.{bytes_eq}
use Rattle.semantics.specs.declared.element.Element.{Element}
use Rattle.semantics.specs.Deck.{name_of, ends_of, with_node, first_some}
use Rattle.semantics.specs.Valid.{is_grounded, driven_of}
use Rattle.deck_cards.specs.declared.which.Which.TheVariants.{Elements, Nodes}
use Rattle.deck_cards.specs.Causes.{first_that, is_named, is_driven, element_limit}
use Rattle.deck_reader.specs.declared.why.DeckWhy.{DeckWhy}
use Rattle.deck_reader.specs.declared.why.DeckWhy.TheVariants.{DuplicateName, NotGrounded, TwoDrivers, Limit}
use Rattle.deck_reader.specs.Words.{Word}

-- the elements, each with the line of its card
abbrev pub Circuit : Type 0
Circuit = List (ℕ × Element)

abbrev pub elements_of : Circuit → List Element
elements_of circuit = map (λ at. at.1) circuit

-- the nodes of these elements but ground, by first appearance
unfoldable pub nodes_of : Circuit → List Word
nodes_of circuit = fold with_node [] (flat_map ends_of (elements_of circuit))

-- the line of a card, where it has this node at an end
abbrev pub end_line : Word → ℕ × Element → Option ℕ
end_line node at = if list_any (bytes_eq node) (ends_of at.1) then Some at.0 else None

-- the line of the first card that has this node at an end
unfoldable pub line_of : Circuit → Word → ℕ
line_of circuit node = unwrap_or (first_some (end_line node) circuit) 0

-- why an element can't stand behind these
unfoldable pub element_fault : Circuit → Element → Option DeckWhy
element_fault circuit element =
    if is_named (elements_of circuit) (name_of element) then Some (DuplicateName (name_of element))
    else if not (is_grounded element) then Some (NotGrounded (name_of element))
    else elim (first_that (is_driven (elements_of circuit)) (driven_of element)) [
      | Some node ↦ Some (TwoDrivers node)
      | None ↦ elim (element_limit element) [
        | Some which ↦ Some (Limit which (name_of element))
        | None ↦ if nat_le 100000 (length circuit) then Some (Limit Elements (name_of element)) else None
      ]
    ]

-- the elements with one more, where they have at most 100,000 nodes
unfoldable pub with_placed : Circuit → ℕ → Element → Result Circuit DeckWhy
with_placed circuit line element =
    let more = circuit ++ (line, element) ∷ [] in
    if nat_lt 100000 (length (nodes_of more)) then Err (Limit Nodes (name_of element)) else Ok more

-- the elements with that of one more card
unfoldable pub with_element : Circuit → ℕ → Element → Result Circuit DeckWhy
with_element circuit line element = elim (element_fault circuit element) [
  | Some why ↦ Err why
  | None ↦ with_placed circuit line element
]
