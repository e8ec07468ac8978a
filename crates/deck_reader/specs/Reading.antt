-- The deck that a text says, or its first fault: that of the first card at fault, else that of its lines, else that of the whole deck.
use Rattle.std.specs.Prelude.{◌≡◌, ℕ, List, [], ◌∷◌, take_while, Bool, not, ◌==◌, if◌then◌else◌, Option, Some, None, is_none, Result, Ok, Err, ◌⊎◌}
use Rattle.std.specs.Option.{option_and_then}
use Rattle.semantics.specs.declared.element.Element.{Element}
use Rattle.semantics.specs.declared.element.Element.TheVariants.{Resistor, Capacitor, Source, Mos}
use Rattle.semantics.specs.Part.{Part}
use Rattle.semantics.specs.Deck.{DeckValue, look_up, first_some}
use Rattle.deck_lexer.specs.declared.fault.LexFault.{LexFault}
use Rattle.deck_lexer.specs.declared.fault.LexFault.TheVariants as lexer
use Rattle.deck_lexer.specs.Bytes.{line_feed}
use Rattle.deck_lexer.specs.Cards.{Card}
use Rattle.deck_lexer.specs.Reading.{deck_cards, deck_fault, deck_end}
use Rattle.deck_cards.specs.declared.edit_refusal.EditRefusal.{EditRefusal}
use Rattle.deck_cards.specs.declared.edit_refusal.EditRefusal.TheVariants as edit
use Rattle.deck_cards.specs.Causes.{first_of, uncapped, no_initial, node_farads, many_terminals}
use Rattle.deck_reader.specs.declared.why.DeckWhy.{DeckWhy}
use Rattle.deck_reader.specs.declared.why.DeckWhy.TheVariants.{NotAscii, ContinuesNothing, NoTran, NoSuchModel, Uncapped, NoInitial, Limit, NoEnd, Memory}
use Rattle.deck_reader.specs.declared.why.DeckRefusal.{DeckRefusal}
use Rattle.deck_reader.specs.declared.told.Told.{Told}
use Rattle.deck_reader.specs.Words.{Word}
use Rattle.deck_reader.specs.Numbers.{◌>>=◌}
use Rattle.deck_reader.specs.Circuit.{elements_of, line_of}
use Rattle.deck_reader.specs.Told.{nothing, with_words}

-- a fault at this line
abbrev pub at : ℕ → DeckWhy → DeckRefusal
at line why = record { line = line; why = why }

-- ---- the cards

abbrev pub at_line : {A : Type 0} → ℕ → Result A DeckWhy → Result A DeckRefusal
at_line line (Ok x) = Ok x
at_line line (Err why) = Err (at line why)

-- what these cards make of what is told, or the first fault of the first that has one
unfoldable pub told_after : Told → List Card → Result Told DeckRefusal
told_after told [] = Ok told
told_after told (card ∷ cards) = do
  next ← at_line card.line (with_words told card.line card.words)
  told_after next cards

-- ---- the lines

abbrev pub lexer_refusal : LexFault → DeckRefusal
lexer_refusal (lexer.NotAscii line) = at line NotAscii
lexer_refusal (lexer.ContinuesNothing line) = at line ContinuesNothing
lexer_refusal (lexer.NoEnd line) = at line NoEnd

-- ---- the whole deck

-- the deck that is told
unfoldable pub told_deck : List ℕ → Told → ℕ × Bool → DeckValue
told_deck title told span = record {
  title = title;
  stop = span.0;
  uic = span.1;
  grain = told.grain;
  parts = told.parts;
  initial = told.initial;
  elements = elements_of told.circuit;
}

-- a device whose part is not defined, at its line
abbrev pub missing_part : List (Word × Part) → ℕ × Element → Option DeckRefusal
missing_part parts (line, Mos name drain gate source bulk part len width) = if is_none (look_up part parts) then Some (at line (NoSuchModel part)) else None
missing_part parts (line, Resistor name first second ohms) = None
missing_part parts (line, Capacitor name plus minus farads) = None
missing_part parts (line, Source name plus minus wave) = None

unfoldable pub no_such_model : Told → Option DeckRefusal
no_such_model told = first_some (missing_part told.parts) told.circuit

-- a cause of a node, at the line that the node has
abbrev pub node_refusal : (Word → ℕ) → EditRefusal → Option DeckRefusal
node_refusal line (edit.Uncapped node) = Some (at (line node) (Uncapped node))
node_refusal line (edit.NoInitial node) = Some (at (line node) (NoInitial node))
node_refusal line (edit.Limit which node) = Some (at (line node) (Limit which node))
node_refusal line _ = None

-- the first cause of a free node: no capacitance, no initial voltage, too much capacitance, too many ends
unfoldable pub node_cause : DeckValue → Option EditRefusal
node_cause d = first_of (uncapped d ∷ no_initial d ∷ node_farads d ∷ many_terminals d ∷ [])

-- the deck, or the first fault of its nodes, which have these lines
unfoldable pub sound : (Word → ℕ) → DeckValue → Result DeckValue DeckRefusal
sound line d = elim (option_and_then (node_refusal line) (node_cause d)) [ Some refusal ↦ Err refusal | None ↦ Ok d ]

-- the deck that is told in a text of this title that ends at this line, or its first fault as a whole
unfoldable pub whole : List ℕ → ℕ → Told → Result DeckValue DeckRefusal
whole title end told = elim told.span [
  | None ↦ Err (at end NoTran)
  | Some span ↦ elim (no_such_model told) [
    | Some refusal ↦ Err refusal
    | None ↦ sound (line_of told.circuit) (told_deck title told span)
  ]
]

-- ---- the text

-- the title: what stands before the first LF
abbrev pub title_of : List ℕ → List ℕ
title_of text = take_while (λ b. not (b == line_feed)) text

-- what the cards say, and the line that ends the deck; or the first fault of a card, else that of the lines
unfoldable pub told_in : List ℕ → Result (Told × ℕ) DeckRefusal
told_in text = do
  told ← told_after nothing (deck_cards text)
  elim (deck_fault text) [
    | Some fault ↦ Err (lexer_refusal fault)
    | None ↦ Ok (told, deck_end text)
  ]

-- the deck, or the first fault
unfoldable pub deck_in : List ℕ → Result DeckValue DeckRefusal
deck_in text = do
  told ← told_in text
  whole (title_of text) told.1 told.0

-- the answer is what the text says, or want of memory with line 0, which may come at any time
abbrev pub Reads : {A : Type 0} → Result A DeckRefusal → Result A DeckRefusal → Type 0
Reads (Ok x) said = said ≡ Ok x
Reads (Err refusal) said = (refusal ≡ at 0 Memory) ⊎ (said ≡ Err refusal)
