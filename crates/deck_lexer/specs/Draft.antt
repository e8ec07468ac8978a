-- A card while its lines are read.
use Rattle.std.specs.Prelude.{◌≡◌, ℕ, All, List, length, map}
use Rattle.deck_lexer.specs.declared.draft.Draft.{Draft}
use Rattle.deck_lexer.specs.Words.{lowered, spelled, EndsBy, IsWord}
use Rattle.deck_lexer.specs.Cards.{Card}

abbrev pub draft_words : Draft → List (List ℕ)
draft_words draft = map (spelled draft.text.items) draft.words.items

abbrev pub draft_card : Draft → Card
draft_card draft = record { line = draft.line; words = draft_words draft }

-- its spans are words of a text in lower case
pub record IsDraft (draft : Draft) : Type 0 where
  pub spans : All (EndsBy (length draft.text.items)) draft.words.items
  pub words : All IsWord (draft_words draft)
  pub lower : lowered draft.text.items ≡ draft.text.items
