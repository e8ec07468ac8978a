-- A board: accepted edits, a record that is repaired in regions, and the version that is shown. What always holds.
use Rattle.std.specs.Prelude.{◌≡◌, ◌≢◌, ◌⊎◌, ℕ, ◌≤◌, Bool, true, List, [], ◌++◌, Option, None}
use Rattle.semantics.specs.Deck.{Name, DeckValue}
use Rattle.semantics.specs.Neighbours.{is_free}
use Rattle.semantics.specs.Record.{Record, IsRunTo}
use Rattle.semantics.specs.Pending.{IsSound, NothingPending, Pending}
use Rattle.deck_cards.specs.declared.edit.Edit.{Edit}
use Rattle.deck_cards.specs.Edits.{after}
use Rattle.edit_laws.specs.Accepted.{AreAccepted}

-- the deck of the beginning; the edits accepted since, and the deck after them; the names that the record keeps, and
-- the record; the nodes and ticks that are still to be looked at; the number of the region that has a node; which
-- regions are lent; and the edits of the version that is shown
pub record BoardValue : Type 0 where
  pub base : DeckValue
  pub edits : List Edit
  pub deck : DeckValue
  pub keeps : Name → Bool
  pub past : Record
  pub pending : Pending
  pub owner : Name → Option ℕ
  pub is_out : ℕ → Bool
  pub shown : List Edit

-- ---- the record and the version

-- nothing is pending
abbrev pub IsSettled : BoardValue → Type 0
IsSettled b = NothingPending b.pending

-- something is pending
abbrev pub IsAtWork : BoardValue → Type 0
IsAtWork b = (n : Name) × (t : ℕ) × (b.pending n t ≡ true)

-- the record is the run of the deck
abbrev pub IsRepaired : BoardValue → Type 0
IsRepaired b = IsRunTo b.deck b.past b.deck.stop

-- the version of all edits is shown
abbrev pub ShowsAll : BoardValue → Type 0
ShowsAll b = b.shown ≡ b.edits

-- two records have the same voltages up to the stop, of the names that are kept
abbrev pub SameRecord : DeckValue → (Name → Bool) → Record → Record → Type 0
SameRecord d keeps v w = (n : Name) (t : ℕ) → keeps n ≡ true → t ≤ d.stop → v n t ≡ w n t

-- ---- a board before and after a step

-- the version of all edits is shown where nothing is pending, and else the one that was shown before
abbrev pub Shows : BoardValue → BoardValue → Type 0
Shows b c = (IsSettled c × ShowsAll c) ⊎ (IsAtWork c × (c.shown ≡ b.shown))

-- the deck and its edits stay, and the names that the record keeps
pub record SameDeck (b c : BoardValue) : Type 0 where
  pub base : c.base ≡ b.base
  pub edits : c.edits ≡ b.edits
  pub deck : c.deck ≡ b.deck
  pub keeps : (n : Name) → c.keeps n ≡ b.keeps n

-- and so do the record, what is pending and the version that is shown
pub record SameWork (b c : BoardValue) : Type 0 where
  pub deck : SameDeck b c
  pub past : SameRecord b.deck b.keeps c.past b.past
  pub pending : (n : Name) (t : ℕ) → c.pending n t ≡ b.pending n t
  pub shown : c.shown ≡ b.shown

-- ---- what always holds

-- the edits are accepted in turn and give the deck; the record and what is pending are sound; a region has each pending
-- node; and the version that is shown is that of the first of the edits, of all where nothing is pending
pub record Sound (b : BoardValue) : Type 0 where
  pub accepted : AreAccepted b.base b.edits
  pub deck : b.deck ≡ after b.base b.edits
  pub repaired : IsSound b.deck b.keeps b.past b.pending
  pub owned : (n : Name) (t : ℕ) → b.pending n t ≡ true → b.owner n ≢ None
  pub shown : (more : List Edit) × (b.edits ≡ b.shown ++ more)
  pub settled : IsSettled b → ShowsAll b

-- ---- a fresh board

-- a board of a deck without edits, whose record is the run of the free nodes, and where nothing is pending
pub record Begins (d : DeckValue) (b : BoardValue) : Type 0 where
  pub base : b.base ≡ d
  pub edits : b.edits ≡ []
  pub deck : b.deck ≡ d
  pub keeps : (n : Name) → b.keeps n ≡ is_free d n
  pub past : IsRunTo d b.past d.stop
  pub pending : IsSettled b
  pub shown : b.shown ≡ []
