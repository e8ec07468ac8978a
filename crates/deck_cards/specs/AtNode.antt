-- What another capacitance can have against it: its value, and the sum at the one node that the capacitor is at.
use Rattle.std.specs.Prelude.{◌≡◌, ℕ, ◌^◌, ℤ, pos, ◌+ℤ◌, int_le, FitsSigned, not, if◌then◌else◌}
use Rattle.std.specs.Prelude.{List, [], ◌∷◌, map, Option, Some, None}
use Rattle.std.specs.Int.{w128}
use Rattle.std.specs.Ordering.{int_eq}
use Rattle.std.specs.Str.{bytes_eq}
use Rattle.semantics.specs.Ground.{is_ground}
use Rattle.semantics.specs.declared.element.Element.{Element}
use Rattle.semantics.specs.declared.element.Element.TheVariants.{Resistor, Capacitor, Source, Mos}
use Rattle.semantics.specs.Deck.{DeckValue, name_of, nodes, total_farads}
use Rattle.semantics.specs.Neighbours.{is_free}
use Rattle.deck_cards.specs.declared.which.Which.TheVariants.{NodeFarads}
use Rattle.deck_cards.specs.declared.edit_refusal.EditRefusal.{EditRefusal}
use Rattle.deck_cards.specs.declared.edit_refusal.EditRefusal.TheVariants.{Uncapped, Limit}
use Rattle.deck_cards.specs.declared.edit.Edit.{Edit}
use Rattle.deck_cards.specs.declared.facts.NodeFacts.{NodeFacts}
use Rattle.deck_cards.specs.Causes.{when, first_of}
use Rattle.deck_cards.specs.Edits.{changed, edit_cause, edit_limit, edited, set_named}
use Rattle.deck_cards.specs.Facts.{IsIndex, IsTable, farads_of, known}

-- the node that a capacitor is at, which is its end that is not ground, and its capacitance;
-- None where the element is no capacitor
abbrev pub capacitor_of : Element → Option (List ℕ × ℤ)
capacitor_of (Capacitor name plus minus farads) = Some (if is_ground plus then minus else plus, farads)
capacitor_of (Resistor name first second ohms) = None
capacitor_of (Source name plus minus wave) = None
capacitor_of (Mos name drain gate source bulk part len width) = None

-- the sum of the capacitors at a free node; None for any other name
abbrev pub free_farads : DeckValue → List ℕ → Option ℤ
free_farads d n = when (is_free d n) (total_farads d n)

-- the first cause against this sum at a free node, and against a value: no capacitance, the value's own, too much
abbrev pub sum_cause : List ℕ → Option EditRefusal → ℤ → Option EditRefusal
sum_cause node value sum = first_of (
    when (int_eq sum (pos 0)) (Uncapped node)
    ∷ value
    ∷ when (not (int_le sum (pos (10 ^ 12)))) (Limit NodeFarads node)
    ∷ [])

-- the first cause against what the deck has at one node, and against a value; a driven node may have any sum
abbrev pub node_cause : DeckValue → List ℕ → Option EditRefusal → Option EditRefusal
node_cause d node value = elim (free_farads d node) [ None ↦ value | Some sum ↦ sum_cause node value sum ]

-- what is known of the nodes of a deck, where the sum at one of them is so much more
abbrev pub known_with : DeckValue → List ℕ → ℤ → List NodeFacts
known_with d node more =
    map (λ n. if bytes_eq n node
    then record (known d.elements n) { farads = (known d.elements n).farads +ℤ more }
    else known d.elements n) (nodes d)

-- the edit sets a value of the element of this name: its cause is that of the node and the value,
-- the sum at the node becomes so much more, and all else that is kept of names and nodes stays
pub record IsAtNode (d : DeckValue) (name node : List ℕ) (more : ℤ) (e : Edit) : Type 0 where
  pub cause : edit_cause d e ≡ node_cause (edited d e) node (edit_limit e)
  pub sets : edited d e ≡ record d { elements = set_named name (changed e) d.elements }
  pub room : (n : List ℕ) → FitsSigned w128 (farads_of n d.elements +ℤ more)
  pub table : IsTable (edited d e) (nodes d) (known_with d node more)
  pub index : edit_cause d e ≡ None
      → IsIndex (edited d e) (map name_of d.elements) (nodes d) (known_with d node more)
