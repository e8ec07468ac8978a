-- What the body keeps of voltages while it reads them, and while it looks at them from the last to the first. It defines nothing of a deck.
use Rattle.std.specs.Prelude.{◌≡◌, ℤ, Bool, ◌&&◌, List, fold, Option, is_some, Result, Ok}
use Rattle.std.specs.List.{list_all, list_any}
use Rattle.std.specs.Str.{bytes_eq}
use Rattle.semantics.specs.Deck.{look_up}
use Rattle.semantics.specs.Valid.{small_volts}
use Rattle.deck_cards.specs.Settled.{put}
use Rattle.deck_reader.specs.declared.why.DeckWhy.{DeckWhy}
use Rattle.deck_reader.specs.Words.{Word}
use Rattle.deck_reader.specs.Numbers.{◌>>=◌}
use Rattle.deck_reader.specs.Dots.{voltages_of}
use Rattle.deck_reader.specs.Told.{voltage_limit}

-- these are the names of the voltages, and the first of these that is outside its limit
pub record IsSeen (voltages : List (Word × ℤ)) (names : List Word) (limit : Option DeckWhy) : Type 0 where
  pub later : (n : Word) → list_any (bytes_eq n) names ≡ is_some (look_up n voltages)
  pub first : voltage_limit voltages ≡ limit

-- what voltages of a card leave of those before, and whether each of them is in its limit, as are those before it
unfoldable pub held : List (Word × ℤ) → Bool → List Word → Result (List (Word × ℤ) × Bool) DeckWhy
held before small words = do
  voltages ← voltages_of words
  Ok (fold put before voltages, small && list_all (λ p. small_volts p.1) voltages)
