-- What the program answers to its words and to the bytes of its deck and script.
use Rattle.std.specs.Prelude.{◌≡◌, ℕ, nat_lt, if◌then◌else◌, List, ◌++◌, length, Option, Some, None, Result, Ok, Err, codes, ◌⊎◌, IfSome}
use Rattle.std.specs.Fmt.{decimal}
use Rattle.std.specs.Option.{option_map}
use Rattle.std.specs.Io.KnownBytes.{Appends}
use Rattle.outside.specs.Causes.{Rose}
use Rattle.outside.specs.Content.{AppendsFront}
use Rattle.outside.specs.declared.reading.TheConstants.{READ_LIMIT}
use Rattle.semantics.specs.Deck.{DeckValue}
use Rattle.semantics.specs.Text.{default_output}
use Rattle.deck_reader.specs.declared.why.DeckRefusal.{DeckRefusal}
use Rattle.deck_reader.specs.Reading.{deck_in}
use Rattle.deck_reader.specs.Text.{cause_text}
use Rattle.wave_script.specs.declared.command.Command.{Command}
use Rattle.wave_script.specs.Lines.{script_in}
use Rattle.wave_text.specs.Answers.{script_text}
use Rattle.script_session.specs.Session.{IsOutput}
use Rattle.wave_shell.specs.declared.status.Status.{Status}
use Rattle.wave_shell.specs.declared.status.Status.TheVariants as status
use Rattle.wave_shell.specs.declared.refusal.Refusal.{Refusal}
use Rattle.wave_shell.specs.declared.refusal.Refusal.TheVariants as refused
use Rattle.wave_shell.specs.declared.job.Job.{Job}
use Rattle.wave_shell.specs.Words.{files, deck_name, script_name}

-- the exit status
abbrev pub code : Status → ℕ
code status.Ok = 0
code status.Memory = 1
code status.Words = 2
code status.Deck = 3
code status.Script = 4
code status.Read = 5
code status.Write = 6

-- ---- what the words and the bytes fix

-- the deck in these bytes, or why they are none
unfoldable pub judged_deck : List ℕ → Result DeckValue Refusal
judged_deck bytes =
    if nat_lt READ_LIMIT (length bytes) then Err refused.DeckTooLong
    else elim (deck_in bytes) [ Err r ↦ Err (refused.Deck r) | Ok d ↦ Ok d ]

-- the commands in these bytes, each with its line, or why they are no script
unfoldable pub judged_script : List ℕ → Result (List (ℕ × Command)) Refusal
judged_script bytes =
    if nat_lt READ_LIMIT (length bytes) then Err refused.ScriptTooLong
    else elim (script_in bytes) [ Err r ↦ Err (refused.Script r) | Ok lines ↦ Ok lines ]

-- a deck alone, and a deck with the lines that are to be played on it
abbrev pub alone : DeckValue → Job
alone d = record { deck = d; script = None }

abbrev pub with_script : DeckValue → List (ℕ × Command) → Job
with_script d lines = record { deck = d; script = Some lines }

-- the deck with the script of this name, where there is one; None where that hangs on bytes that are not told
unfoldable pub judged_job : (List ℕ → Option (List ℕ)) → Option (List ℕ) → DeckValue → Option (Result Job Refusal)
judged_job bytes None d = Some (Ok (alone d))
judged_job bytes (Some name) d =
    option_map (λ text. elim (judged_script text) [ Err r ↦ Err r | Ok lines ↦ Ok (with_script d lines) ]) (bytes name)

-- the job that the words and the bytes give, or the first refusal: of the words, of the deck, of the script; None where
-- that hangs on bytes that are not told
unfoldable pub judged : (List ℕ → Option (List ℕ)) → List (List ℕ) → Option (Result Job Refusal)
judged bytes words = elim (files words) [
  | None ↦ Some (Err refused.Words)
  | Some f ↦ elim (bytes f.deck) [
    | None ↦ None
    | Some text ↦ elim (judged_deck text) [ Err r ↦ Some (Err r) | Ok d ↦ judged_job bytes f.script d ]
  ]
]

-- ---- what is written

-- deck LINE CAUSE
unfoldable pub deck_text : DeckRefusal → List ℕ
deck_text r = codes "deck " ++ (decimal r.line ++ (codes " " ++ (cause_text r.why ++ codes "\n")))

-- the status of a refusal, and its text
abbrev pub status_of : Refusal → Status
status_of refused.Words = status.Words
status_of refused.DeckTooLong = status.Deck
status_of (refused.Deck r) = status.Deck
status_of refused.ScriptTooLong = status.Script
status_of (refused.Script r) = status.Script

abbrev pub text_of : Refusal → List ℕ
text_of refused.Words = codes "words do not fit the command\n"
text_of refused.DeckTooLong = codes "deck 0 too long\n"
text_of (refused.Deck r) = deck_text r
text_of refused.ScriptTooLong = codes "script 0 too long\n"
text_of (refused.Script r) = script_text r

-- without a script a deck prints version 0 and the wave of each node; with one, a text that its lines may print
abbrev pub MayPrint : DeckValue → Option (List (ℕ × Command)) → List ℕ → Type 0
MayPrint d None text = text ≡ default_output d
MayPrint d (Some lines) text = IsOutput d lines text

-- the status and the whole text that a refusal or a job may have
abbrev pub MaySay : Result Job Refusal → Status → List ℕ → Type 0
MaySay (Err r) result text = (result ≡ status_of r) × (text ≡ text_of r)
MaySay (Ok j) result text = (result ≡ status.Ok) × MayPrint j.deck j.script text

-- such a status was given, and its text was written whole
abbrev pub Says : Result Job Refusal → Status → Option (List ℕ) → Option (List ℕ) → Type 0
Says j result old new = (text : List ℕ) × MaySay j result text × Appends old new text

-- a front of such a text was written
abbrev pub SaysFront : Result Job Refusal → Option (List ℕ) → Option (List ℕ) → Type 0
SaysFront j old new = (text : List ℕ) × ((s : Status) × MaySay j s text) × AppendsFront old new text

-- ---- faults

-- the statuses that tell of the outside and of memory, and not of the words, the deck and the script
abbrev pub IsFault : Status → Type 0
IsFault status.Read = Unit {0}
IsFault status.Write = Unit {0}
IsFault status.Memory = Unit {0}
IsFault status.Ok = ⊥
IsFault status.Words = ⊥
IsFault status.Deck = ⊥
IsFault status.Script = ⊥

-- the count of this name rose; no name has none
abbrev pub NameRose : (List ℕ → ℕ) → (List ℕ → ℕ) → Option (List ℕ) → Type 0
NameRose before now None = ⊥
NameRose before now (Some name) = Rose (before name) (now name)

-- where the bytes of the name are told they are a valid deck
abbrev pub IsValidWhereTold : (List ℕ → Option (List ℕ)) → Option (List ℕ) → Type 0
IsValidWhereTold bytes None = Unit {0}
IsValidWhereTold bytes (Some name) = IfSome (bytes name) (λ text. (d : DeckValue) × (judged_deck text ≡ Ok d))

-- why reading may fail: the count of the deck's name rose; or that of the script's did, and the deck is valid
abbrev pub MayFailToRead : (List ℕ → Option (List ℕ)) → (List ℕ → ℕ) → (List ℕ → ℕ) → List (List ℕ) → Type 0
MayFailToRead bytes before now words =
    NameRose before now (deck_name words)
    ⊎ (NameRose before now (script_name words) × IsValidWhereTold bytes (deck_name words))
