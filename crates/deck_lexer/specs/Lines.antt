-- The lines of a text.
use Rattle.std.specs.Prelude.{ℕ, Bool, true, false, ◌==◌, List, [], ◌∷◌, if◌then◌else◌}
use Rattle.std.specs.List.{slice_split, enumerate_from}
use Rattle.deck_lexer.specs.Bytes.{line_feed}

-- whether a list has no element
abbrev pub is_empty : {X : Type 0} → List X → Bool
is_empty [] = true
is_empty (x ∷ xs) = false

-- The pieces, without the last where that one is empty
abbrev pub without_empty_last : List (List ℕ) → List (List ℕ)
without_empty_last [] = []
without_empty_last (piece ∷ []) = if is_empty piece then [] else piece ∷ []
without_empty_last (piece ∷ next ∷ more) = piece ∷ without_empty_last (next ∷ more)

-- A line ends at each LF
abbrev pub ends_line : ℕ → Bool
ends_line b = b == line_feed

-- The lines of a text: it is cut at each LF, and an empty last piece is no line.
unfoldable pub lines_of : List ℕ → List (List ℕ)
lines_of text = without_empty_last (slice_split ends_line text)

-- A line, after its number.
abbrev pub Line : Type 0
Line = ℕ × List ℕ

-- The lines of a text with their numbers, from 1 on.
abbrev pub numbered_lines : List ℕ → List Line
numbered_lines text = enumerate_from 1 (lines_of text)
