-- The lines of a script that are edits, by their words behind the first.
use Rattle.std.specs.Prelude.{List, [], ◌∷◌, if◌then◌else◌, Result, Ok, Err}
use Rattle.spice_num.specs.declared.units.Unit.TheVariants.{Ohm, Farad, Volt}
use Rattle.deck_lexer.specs.Cards.{begins_with}
use Rattle.deck_cards.specs.declared.edit.Edit.TheVariants.{SetR, SetC, SetWave, SetModel, SetIc, Add, Remove}
use Rattle.deck_reader.specs.Words.{Word, node}
use Rattle.deck_reader.specs.Numbers.{◌>>=◌}
use Rattle.deck_reader.specs.Sources.{source_points, wave_of}
use Rattle.deck_reader.specs.Elements.{element}
use Rattle.wave_script.specs.declared.command.Command.{Command}
use Rattle.wave_script.specs.declared.command.Command.TheVariants.{Edit}
use Rattle.wave_script.specs.declared.why.ScriptWhy.{ScriptWhy}
use Rattle.wave_script.specs.declared.why.ScriptWhy.TheVariants.{WrongWords}
use Rattle.wave_script.specs.Answers.{in_script, value}

-- `set NAME VALUE`: a resistance where the name begins with `r`, else a capacitance
unfoldable pub set_line : List Word → Result Command ScriptWhy
set_line (name ∷ word ∷ []) =
    if begins_with 114 name then (do
      ohms ← value Ohm word
      Ok (Edit (SetR name ohms)))
    else (do
      farads ← value Farad word
      Ok (Edit (SetC name farads)))
set_line _ = Err WrongWords

-- `wave NAME`, and the words of the card of a source behind its nodes
unfoldable pub wave_line : List Word → Result Command ScriptWhy
wave_line (name ∷ word ∷ words) = do
  points ← in_script (source_points (word ∷ words))
  Ok (Edit (SetWave name (wave_of points)))
wave_line _ = Err WrongWords

-- `model NAME PART`
unfoldable pub model_line : List Word → Result Command ScriptWhy
model_line (name ∷ part ∷ []) = Ok (Edit (SetModel name part))
model_line _ = Err WrongWords

-- `ic NODE VOLTS`
unfoldable pub ic_line : List Word → Result Command ScriptWhy
ic_line (name ∷ word ∷ []) = do
  volts ← value Volt word
  Ok (Edit (SetIc (node name) volts))
ic_line _ = Err WrongWords

-- `add`, and the words of the card of an element
unfoldable pub add_line : List Word → Result Command ScriptWhy
add_line [] = Err WrongWords
add_line (word ∷ words) = do
  e ← in_script (element (word ∷ words))
  Ok (Edit (Add e))

-- `del NAME`
unfoldable pub del_line : List Word → Result Command ScriptWhy
del_line (name ∷ []) = Ok (Edit (Remove name))
del_line _ = Err WrongWords
