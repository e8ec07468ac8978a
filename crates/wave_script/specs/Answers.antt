-- What the words of a line say where they say no command, and what a reader answers.
use Rattle.std.specs.Prelude.{◌≡◌, ◌⊎◌, ℕ, ℤ, Result, Ok, Err}
use Rattle.spice_num.specs.declared.units.Unit.{Unit as NumUnit}
use Rattle.deck_reader.specs.declared.why.DeckWhy.{DeckWhy}
use Rattle.deck_reader.specs.declared.why.DeckWhy.TheVariants as deck
use Rattle.deck_reader.specs.Words.{Word}
use Rattle.deck_reader.specs.Numbers.{number}
use Rattle.wave_script.specs.declared.why.ScriptWhy.{ScriptWhy}
use Rattle.wave_script.specs.declared.why.ScriptWhy.TheVariants.{BadCard, BadNumber, Memory}
use Rattle.wave_script.specs.declared.why.ScriptRefusal.{ScriptRefusal}

-- ---- the words of a card in a script

-- a fault of the words of a card: a bad number is told as one of the script
abbrev pub card_why : DeckWhy → ScriptWhy
card_why (deck.BadNumber word) = BadNumber word
card_why deck.Memory = Memory
card_why why = BadCard why

-- what the words of a card say, in a script
abbrev pub in_script : {A : Type 0} → Result A DeckWhy → Result A ScriptWhy
in_script (Ok x) = Ok x
in_script (Err why) = Err (card_why why)

-- the whole number of the unit that a word says
abbrev pub value : NumUnit → Word → Result ℤ ScriptWhy
value unit word = in_script (number unit word)

-- ---- answers

-- the answer is what is said, or want of memory, which may come at any time
abbrev pub Says : {A : Type 0} → Result A ScriptWhy → Result A ScriptWhy → Type 0
Says (Ok x) said = said ≡ Ok x
Says (Err why) said = (why ≡ Memory) ⊎ (said ≡ Err why)

-- a fault at this line
abbrev pub at : ℕ → ScriptWhy → ScriptRefusal
at line why = record { line = line; why = why }

-- the same of a whole line; want of memory has line 0
abbrev pub Reads : {A : Type 0} → Result A ScriptRefusal → Result A ScriptRefusal → Type 0
Reads (Ok x) said = said ≡ Ok x
Reads (Err refusal) said = (refusal ≡ at 0 Memory) ⊎ (said ≡ Err refusal)
