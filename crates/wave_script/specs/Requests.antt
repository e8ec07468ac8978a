-- The lines of a script that are no edits, by their words behind the first.
use Rattle.std.specs.Prelude.{ℕ, ℤ, pos, int_le, nat_le, unsigned_abs, List, [], ◌∷◌, if◌then◌else◌, Some, None, Result, Ok, Err, codes}
use Rattle.std.specs.Str.{bytes_eq}
use Rattle.spice_num.specs.declared.units.Unit.TheVariants.{Time}
use Rattle.deck_reader.specs.Words.{Word, node}
use Rattle.deck_reader.specs.Numbers.{◌>>=◌}
use Rattle.wave_script.specs.declared.command.Command.{Command}
use Rattle.wave_script.specs.declared.command.Command.TheVariants.{Run, Look, Show, Events, Pin, UsePin, Unpin, Work}
use Rattle.wave_script.specs.declared.why.ScriptWhy.{ScriptWhy}
use Rattle.wave_script.specs.declared.why.ScriptWhy.TheVariants.{UnknownCommand, WrongWords, BadNumber, NoSuchPin}
use Rattle.wave_script.specs.Answers.{value}
use Rattle.wave_script.specs.Pins.{Bound, is_bound}

-- `run`, `look` or `work`, alone
unfoldable pub lone_line : Command → List Word → Result Command ScriptWhy
lone_line command [] = Ok command
lone_line command _ = Err WrongWords

-- a time that is not below 0
unfoldable pub tick : Word → Result ℕ ScriptWhy
tick word = do
  z ← value Time word
  if int_le (pos 0) z then Ok (unsigned_abs z) else Err (BadNumber word)

-- A B: two times, of which the first is not above the second
unfoldable pub range : Word → Word → Result (ℕ × ℕ) ScriptWhy
range first last = do
  a ← tick first
  b ← tick last
  if nat_le a b then Ok (a, b) else Err WrongWords

-- `show NODE` or `show NODE A B`
unfoldable pub show_line : List Word → Result Command ScriptWhy
show_line (name ∷ []) = Ok (Show (node name) None)
show_line (name ∷ first ∷ last ∷ []) = do
  ticks ← range first last
  Ok (Show (node name) (Some ticks))
show_line _ = Err WrongWords

-- `events` or `events A B`
unfoldable pub events_line : List Word → Result Command ScriptWhy
events_line [] = Ok (Events None)
events_line (first ∷ last ∷ []) = do
  ticks ← range first last
  Ok (Events (Some ticks))
events_line _ = Err WrongWords

-- `pin W`
unfoldable pub pin_line : List Word → Result Command ScriptWhy
pin_line (name ∷ []) = Ok (Pin name)
pin_line _ = Err WrongWords

-- `use W`, of a name that is bound
unfoldable pub use_line : Bound → List Word → Result Command ScriptWhy
use_line pins (name ∷ []) = if is_bound pins name then Ok (UsePin name) else Err (NoSuchPin name)
use_line pins _ = Err WrongWords

-- `unpin W`, of a name that is bound
unfoldable pub unpin_line : Bound → List Word → Result Command ScriptWhy
unpin_line pins (name ∷ []) = if is_bound pins name then Ok (Unpin name) else Err (NoSuchPin name)
unpin_line pins _ = Err WrongWords

-- any of them, by its first word, where these names are bound
unfoldable pub request_of : Bound → Word → List Word → Result Command ScriptWhy
request_of pins first words =
    if bytes_eq first (codes "run") then lone_line Run words
    else if bytes_eq first (codes "look") then lone_line Look words
    else if bytes_eq first (codes "show") then show_line words
    else if bytes_eq first (codes "events") then events_line words
    else if bytes_eq first (codes "pin") then pin_line words
    else if bytes_eq first (codes "use") then use_line pins words
    else if bytes_eq first (codes "unpin") then unpin_line pins words
    else if bytes_eq first (codes "work") then lone_line Work words
    else Err (UnknownCommand first)
