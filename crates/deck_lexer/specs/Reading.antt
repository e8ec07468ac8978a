-- How far the lines of a deck are read: up to the first line at fault, or to the one that ends the deck.
use Rattle.std.specs.Prelude.{ℕ, Bool, true, false, not, ◌&&◌, ◌||◌, ◌==◌, nat_le, nat_lt, List, [], ◌∷◌, length, Option, Some, None, option_map, unwrap_or, find, take_while, if◌then◌else◌}
use Rattle.std.specs.List.{list_all}
use Rattle.std.specs.Option.{option_or}
use Rattle.deck_lexer.specs.declared.fault.LexFault.{LexFault}
use Rattle.deck_lexer.specs.declared.fault.LexFault.TheVariants.{NotAscii, ContinuesNothing, NoEnd}
use Rattle.deck_lexer.specs.Bytes.{tab, carriage_return, space}
use Rattle.deck_lexer.specs.Lines.{Line, is_empty, lines_of, numbered_lines}
use Rattle.deck_lexer.specs.Cards.{Card, Kind, title, comment, continuation, end, kind_of, with_line, with_lines}

-- A byte that a deck may have: below 128 and, but for a tab and a CR, not below 32.
abbrev pub is_allowed : ℕ → Bool
is_allowed b = (nat_le space b && nat_lt b 128) || (b == tab) || (b == carriage_return)

-- The bytes of the title and of a comment line are not looked at, those of every other line are.
abbrev pub is_looked_at : Kind → Bool
is_looked_at title = false
is_looked_at comment = false
is_looked_at _ = true

-- Whether a line continues a card.
abbrev pub is_continuation : Kind → Bool
is_continuation continuation = true
is_continuation _ = false

-- Whether a line ends the deck.
abbrev pub is_end : Kind → Bool
is_end end = true
is_end _ = false

-- What is wrong with a line of this kind, where these cards stand before it.
abbrev pub fault_by_kind : Kind → List Card → Line → Option LexFault
fault_by_kind kind cards (number, line) =
    if is_looked_at kind && not (list_all is_allowed line) then Some (NotAscii number)
    else if is_continuation kind && is_empty cards then Some (ContinuesNothing number)
    else None

-- What is wrong with a line, where these cards stand before it.
abbrev pub fault_of : List Card → Line → Option LexFault
fault_of cards line = fault_by_kind (kind_of line) cards line

-- The first word of the line is `.end`.
abbrev pub ends_deck : Line → Bool
ends_deck line = is_end (kind_of line)

-- The lines up to the first that ends the deck, and that one.
abbrev pub through_end : List Line → List Line
through_end [] = []
through_end (line ∷ lines) = line ∷ (if ends_deck line then [] else through_end lines)

-- The fault of the first line at fault, where these cards stand before the lines.
abbrev pub first_fault : List Card → List Line → Option LexFault
first_fault cards [] = None
first_fault cards (line ∷ lines) = option_or (fault_of cards line) (first_fault (with_line cards line) lines)

-- The lines before the one with this number.
abbrev pub lines_before : ℕ → List Line → List Line
lines_before number lines = take_while (λ line. nat_lt line.0 number) lines

-- The number of the line that ends the deck.
abbrev pub end_line : List Line → Option ℕ
end_line lines = option_map (λ line. line.0) (find ends_deck lines)

-- The number that a fault tells.
abbrev pub line_of : LexFault → ℕ
line_of (NotAscii number) = number
line_of (ContinuesNothing number) = number
line_of (NoEnd number) = number

-- The lines of a text that are looked at.
unfoldable pub read_lines : List ℕ → List Line
read_lines text = through_end (numbered_lines text)

-- The fault of the first of these lines that is at fault.
unfoldable pub line_fault : List ℕ → Option LexFault
line_fault text = first_fault [] (read_lines text)

-- A line at fault, or a text in which no line ends the deck.
abbrev pub fault_or_no_end : Option LexFault → Option ℕ → ℕ → Option LexFault
fault_or_no_end (Some fault) stop count = Some fault
fault_or_no_end None (Some number) count = None
fault_or_no_end None None count = Some (NoEnd count)

-- Where a line is at fault, or no line ends the deck, this is 0.
abbrev pub end_or_0 : Option LexFault → Option ℕ → ℕ
end_or_0 (Some fault) stop = 0
end_or_0 None stop = unwrap_or stop 0

-- Where a line is at fault, the words before it stay.
abbrev pub kept_lines : Option LexFault → List Line → List Line
kept_lines (Some fault) lines = lines_before (line_of fault) lines
kept_lines None lines = lines

-- What is wrong with the text of a deck: its first line at fault or, where there is none, that no line ends it.
unfoldable pub deck_fault : List ℕ → Option LexFault
deck_fault text = fault_or_no_end (line_fault text) (end_line (read_lines text)) (length (lines_of text))

-- The number of the line that ends the deck; 0 where there is a fault.
unfoldable pub deck_end : List ℕ → ℕ
deck_end text = end_or_0 (line_fault text) (end_line (read_lines text))

-- The cards of a deck: those of the lines that are looked at, up to the line at fault.
unfoldable pub deck_cards : List ℕ → List Card
deck_cards text = with_lines [] (kept_lines (line_fault text) (read_lines text))
