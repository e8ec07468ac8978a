-- An edit of a value that nothing but the element itself can have anything against.
use Rattle.std.specs.Prelude.{◌≡◌, ℕ, List, None, map}
use Rattle.std.specs.Option.{option_or}
use Rattle.semantics.specs.Deck.{DeckValue, name_of, nodes}
use Rattle.deck_cards.specs.declared.edit.Edit.{Edit}
use Rattle.deck_cards.specs.Edits.{changed, edit_cause, edit_limit, edited, set_cause, set_named}
use Rattle.deck_cards.specs.Facts.{IsIndex, known}

-- the edit sets a value of the element of this name, its cause is that of the element or of the value, and all that is kept of names and nodes stays
pub record IsAlone (d : DeckValue) (name : List ℕ) (e : Edit) : Type 0 where
  pub cause : edit_cause d e ≡ option_or (set_cause d name (changed e)) (edit_limit e)
  pub sets : edited d e ≡ record d { elements = set_named name (changed e) d.elements }
  pub index : edit_cause d e ≡ None → IsIndex (edited d e) (map name_of d.elements) (nodes d) (map (known d.elements) (nodes d))
