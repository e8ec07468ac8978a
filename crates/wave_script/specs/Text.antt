-- The text of each cause, as it is printed behind the line.
use Rattle.std.specs.Prelude.{ℕ, List, ◌++◌, codes}
use Rattle.deck_reader.specs.Text as deck
use Rattle.wave_script.specs.declared.why.ScriptWhy.{ScriptWhy}
use Rattle.wave_script.specs.declared.why.ScriptWhy.TheVariants.{NotAscii, UnknownCommand, WrongWords, BadCard, BadNumber, NoSuchPin, Memory}

abbrev pub cause_text : ScriptWhy → List ℕ
cause_text NotAscii = codes "not ascii"
cause_text (UnknownCommand word) = codes "unknown command " ++ word
cause_text WrongWords = codes "wrong words"
cause_text (BadCard why) = codes "bad card " ++ deck.cause_text why
cause_text (BadNumber word) = codes "bad number " ++ word
cause_text (NoSuchPin word) = codes "no such pin " ++ word
cause_text Memory = codes "memory"
