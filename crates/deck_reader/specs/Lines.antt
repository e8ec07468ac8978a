-- What the words of a line say from a place on.
use Rattle.std.specs.Prelude.{ℕ, ℤ, List, drop, Result, Ok}
use Rattle.semantics.specs.declared.element.Element.{Element}
use Rattle.deck_lexer.specs.Cards.{Card}
use Rattle.deck_reader.specs.declared.why.DeckWhy.{DeckWhy}
use Rattle.deck_reader.specs.Numbers.{◌>>=◌}
use Rattle.deck_reader.specs.Sources.{source_points, wave_of}
use Rattle.deck_reader.specs.Elements.{element}

-- an element
unfoldable pub element_at : Card → ℕ → Result Element DeckWhy
element_at line from = element (drop from line.words)

-- the voltage of a source
unfoldable pub wave_at : Card → ℕ → Result (List (ℕ × ℤ)) DeckWhy
wave_at line from = do
  points ← source_points (drop from line.words)
  Ok (wave_of points)
