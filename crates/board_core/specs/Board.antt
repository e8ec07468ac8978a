-- A board: a deck, the edits that it accepted one after the other, and the version that it shows.
use Rattle.std.specs.Prelude.{◌≡◌, ℕ, ◌≤◌, true, List, length, take}
use Rattle.semantics.specs.Deck.{DeckValue}
use Rattle.deck_cards.specs.declared.edit.Edit.{Edit}
use Rattle.deck_cards.specs.Edits.{accepts, after}
use Rattle.version_book.specs.Version.{VersionValue}

-- the deck that it began with, the edits accepted so far, and the number of edits of the version that it shows
pub record BoardValue : Type 0 where
  pub base : DeckValue
  pub edits : List Edit
  pub reached : ℕ

-- the version after the first k of these edits
abbrev pub version : DeckValue → List Edit → ℕ → VersionValue
version base edits k = record { base = base; edits = take k edits; deck = after base (take k edits) }

-- a version after as many of these edits as it counts
pub record IsVersionOf (base : DeckValue) (edits : List Edit) (v : VersionValue) : Type 0 where
  pub is : v ≡ version base edits (length v.edits)
  pub within : length v.edits ≤ length edits

-- the edits were accepted in turn, the deck is the one after all of them, and the version that is shown is one of them
pub record IsBoard (base : DeckValue) (edits : List Edit) (deck : DeckValue) (shown : VersionValue) : Type 0 where
  pub accepted : accepts base edits ≡ true
  pub deck_is : deck ≡ after base edits
  pub shown_is : IsVersionOf base edits shown
