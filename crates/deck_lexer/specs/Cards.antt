-- What each line of a deck is, and the cards that the lines make.
use Rattle.std.specs.Prelude.{ℕ, Bool, false, ◌==◌, List, [], ◌∷◌, ◌++◌, if◌then◌else◌, drop, fold, codes, bytes_eq}
use Rattle.deck_lexer.specs.Bytes.{asterisk, plus}
use Rattle.deck_lexer.specs.Lines.{Line}
use Rattle.deck_lexer.specs.Words.{words_of, split_words, code_of}

-- A card: the number of its line, and its words with those of the lines that continue it.
pub record Card : Type 0 where
  pub line : ℕ
  pub words : List (List ℕ)

-- What a line of a deck is.
pub data Kind : Type 0 where
  title : Kind
  comment : Kind
  continuation : Kind
  blank : Kind
  end : Kind
  new_card : Kind

-- Whether this is the first byte of a line.
abbrev pub begins_with : ℕ → List ℕ → Bool
begins_with b [] = false
begins_with b (x ∷ xs) = x == b

-- A line without words is blank, and one whose first word is `.end` ends the deck.
abbrev pub kind_by_words : List (List ℕ) → Kind
kind_by_words [] = blank
kind_by_words (word ∷ words) = if bytes_eq word (codes ".end") then end else new_card

-- Line 1 is the title, a line that begins with `*` is a comment, and one that begins with `+` is a continuation.
unfoldable pub kind_of : Line → Kind
kind_of (number, line) =
    if number == 1 then title
    else if begins_with asterisk line then comment
    else if begins_with plus line then continuation
    else kind_by_words (words_of line)

-- The words of a line that continues a card: those after its `+`.
abbrev pub continued_words : List ℕ → List (List ℕ)
continued_words line = split_words (drop 1 (code_of line))

-- The cards, where these words follow those of the last one.
abbrev pub with_words : List Card → List (List ℕ) → List Card
with_words [] words = []
with_words (card ∷ []) words = record card { words = card.words ++ words } ∷ []
with_words (card ∷ next ∷ more) words = card ∷ with_words (next ∷ more) words

-- The cards with one more line of this kind.
abbrev pub with_line_of : Kind → List Card → Line → List Card
with_line_of continuation cards (number, line) = with_words cards (continued_words line)
with_line_of new_card cards (number, line) = cards ++ record { line = number; words = words_of line } ∷ []
with_line_of title cards line = cards
with_line_of comment cards line = cards
with_line_of blank cards line = cards
with_line_of end cards line = cards

-- The cards with one more line: a continuation goes to the last card, over the lines that make none.
abbrev pub with_line : List Card → Line → List Card
with_line cards line = with_line_of (kind_of line) cards line

-- The cards after these and the lines that follow them.
abbrev pub with_lines : List Card → List Line → List Card
with_lines cards lines = fold with_line cards lines
