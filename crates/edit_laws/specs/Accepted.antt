-- Edits that a valid deck accepts, and what no edit changes.
use Rattle.std.specs.Prelude.{◌≡◌, true, List, None}
use Rattle.std.specs.List.{list_all}
use Rattle.semantics.specs.Deck.{DeckValue}
use Rattle.semantics.specs.Edit.{SameFrame}
use Rattle.semantics.specs.Valid.{is_valid}
use Rattle.deck_cards.specs.declared.edit.Edit.{Edit}
use Rattle.deck_cards.specs.Edits.{accepts, edit_cause, edit_rises}

-- the deck is valid, and accepts the edit
pub record IsAccepted (d : DeckValue) (e : Edit) : Type 0 where
  pub valid : is_valid d ≡ true
  pub rises : edit_rises e ≡ true
  pub free : edit_cause d e ≡ None

-- the deck is valid, and accepts these edits in turn
pub record AreAccepted (d : DeckValue) (es : List Edit) : Type 0 where
  pub valid : is_valid d ≡ true
  pub rise : list_all edit_rises es ≡ true
  pub taken : accepts d es ≡ true

-- the new deck has all but initial voltages and elements as the old one has it
pub record KeepsFrame (old new : DeckValue) : Type 0 where
  pub frame : SameFrame old new
  pub title : new.title ≡ old.title
  pub uic : new.uic ≡ old.uic
