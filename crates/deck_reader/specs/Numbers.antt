-- What words say as numbers, and what a reader answers.
use Rattle.std.specs.Prelude.{◌≡◌, ℤ, List, [], ◌∷◌, ◌⊎◌, Result, Ok, Err}
use Rattle.std.specs.declared.vec.Vec.{Vec}
use Rattle.spice_num.specs.declared.units.Unit.{Unit as NumUnit}
use Rattle.spice_num.specs.Number.{number_of}
use Rattle.deck_reader.specs.declared.why.DeckWhy.{DeckWhy}
use Rattle.deck_reader.specs.declared.why.DeckWhy.TheVariants.{BadNumber, Memory}
use Rattle.deck_reader.specs.Words.{Word}

infixl 10 ◌>>=◌
abbrev pub ◌>>=◌ : {A B E : Type 0} → Result A E → (A → Result B E) → Result B E
Ok x >>= f = f x
Err e >>= f = Err e

-- the answer is what is said, or want of memory, which may come at any time
abbrev pub Gives : {A : Type 0} → Result A DeckWhy → Result A DeckWhy → Type 0
Gives (Ok x) said = said ≡ Ok x
Gives (Err why) said = (why ≡ Memory) ⊎ (said ≡ Err why)

-- the same of the items of a vector
abbrev pub GivesItems : {A G : Type 0} → Result (Vec A G) DeckWhy → Result (List A) DeckWhy → Type 0
GivesItems (Ok v) said = said ≡ Ok v.items
GivesItems (Err why) said = (why ≡ Memory) ⊎ (said ≡ Err why)

-- the whole number of the unit that a word says
unfoldable pub number : NumUnit → Word → Result ℤ DeckWhy
number unit word = elim (number_of unit word) [ Ok z ↦ Ok z | Err refusal ↦ Err (BadNumber word) ]

-- those that words say, or the first that is none
unfoldable pub numbers : NumUnit → List Word → Result (List ℤ) DeckWhy
numbers unit [] = Ok []
numbers unit (word ∷ words) = do
  z ← number unit word
  zs ← numbers unit words
  Ok (z ∷ zs)
