-- The commands of a script, each with its line, or its first fault.
use Rattle.std.specs.Prelude.{ℕ, List, [], ◌∷◌, ◌++◌, not, if◌then◌else◌, Option, Some, None, Result, Ok, Err, codes}
use Rattle.std.specs.List.{list_all}
use Rattle.std.specs.Str.{bytes_eq}
use Rattle.deck_lexer.specs.Bytes.{asterisk}
use Rattle.deck_lexer.specs.Lines.{Line, numbered_lines}
use Rattle.deck_lexer.specs.Words.{words_of}
use Rattle.deck_lexer.specs.Cards.{begins_with}
use Rattle.deck_lexer.specs.Reading.{is_allowed}
use Rattle.deck_reader.specs.Words.{Word}
use Rattle.deck_reader.specs.Numbers.{◌>>=◌}
use Rattle.wave_script.specs.declared.command.Command.{Command}
use Rattle.wave_script.specs.declared.said.Said.{Said}
use Rattle.wave_script.specs.declared.why.ScriptWhy.{ScriptWhy}
use Rattle.wave_script.specs.declared.why.ScriptWhy.TheVariants.{NotAscii}
use Rattle.wave_script.specs.declared.why.ScriptRefusal.{ScriptRefusal}
use Rattle.wave_script.specs.Answers.{at}
use Rattle.wave_script.specs.Pins.{Bound, no_pins, bound_after}
use Rattle.wave_script.specs.Edits.{set_line, wave_line, model_line, ic_line, add_line, del_line}
use Rattle.wave_script.specs.Requests.{request_of}

-- ---- one line

-- the command of a first word and the words behind it, where these names are bound
unfoldable pub command_of : Bound → Word → List Word → Result Command ScriptWhy
command_of pins first words =
    if bytes_eq first (codes "set") then set_line words
    else if bytes_eq first (codes "wave") then wave_line words
    else if bytes_eq first (codes "model") then model_line words
    else if bytes_eq first (codes "ic") then ic_line words
    else if bytes_eq first (codes "add") then add_line words
    else if bytes_eq first (codes "del") then del_line words
    else request_of pins first words

-- that of all words of a line; a line without words has none
unfoldable pub command_in : Bound → List Word → Result (Option Command) ScriptWhy
command_in pins [] = Ok None
command_in pins (first ∷ words) = do
  command ← command_of pins first words
  Ok (Some command)

-- that of the bytes of a line: one that begins with `*` has none, and its bytes are not looked at
unfoldable pub line_says : Bound → List ℕ → Result (Option Command) ScriptWhy
line_says pins line =
    if begins_with asterisk line then Ok None
    else if not (list_all is_allowed line) then Err NotAscii
    else command_in pins (words_of line)

-- ---- all lines

-- what the lines so far have said with one more command, if there is one
abbrev pub with_command : Said → ℕ → Option Command → Said
with_command said line None = said
with_command said line (Some command) =
    record { commands = said.commands ++ (line, command) ∷ []; pins = bound_after said.pins command }

-- what they have said with one more line, or the fault of that line
unfoldable pub with_line : Said → Line → Result Said ScriptRefusal
with_line said (number, line) = elim (line_says said.pins line) [
  | Ok command ↦ Ok (with_command said number command)
  | Err why ↦ Err (at number why)
]

-- what these lines make of what was said, or the fault of the first line that has one
unfoldable pub said_after : Said → List Line → Result Said ScriptRefusal
said_after said [] = Ok said
said_after said (line ∷ lines) = do
  next ← with_line said line
  said_after next lines

-- no line has said anything
abbrev pub nothing : Said
nothing = record { commands = []; pins = no_pins }

-- the commands of a text, each with the number of its line; or its first fault
unfoldable pub script_in : List ℕ → Result (List (ℕ × Command)) ScriptRefusal
script_in text = do
  said ← said_after nothing (numbered_lines text)
  Ok said.commands
