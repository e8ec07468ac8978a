-- The words of a card, and what they stand for.
use Rattle.std.specs.Prelude.{ℕ, ◌-◌, List, [], ◌∷◌, length, Option, Some, None, Bool, true, false, if◌then◌else◌, codes, slice_get}
use Rattle.std.specs.List.{position_from}
use Rattle.std.specs.Str.{bytes_eq}

-- a word, as its bytes, in lower case
abbrev pub Word : Type 0
Word = List ℕ

-- `gnd` is ground, as `0` is
abbrev pub node : Word → Word
node name = if bytes_eq name (codes "gnd") then codes "0" else name

-- the place of the first of these words that is this one
abbrev pub place_of : Word → List Word → Option ℕ
place_of w words = position_from (λ word. bytes_eq word w) 0 words

-- whether this word stands last
abbrev pub ends_with : List Word → Word → Bool
ends_with words w = elim (slice_get words (length words - 1)) [ None ↦ false | Some word ↦ bytes_eq word w ]

-- whether there is none, and whether they stand in pairs
abbrev pub is_empty : List Word → Bool
is_empty [] = true
is_empty (word ∷ words) = false

unfoldable pub are_pairs : List Word → Bool
are_pairs [] = true
are_pairs (a ∷ []) = false
are_pairs (a ∷ b ∷ words) = are_pairs words
