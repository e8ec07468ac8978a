-- How the parts of the program's one call may end; it defines nothing that is printed.
use Rattle.std.specs.Prelude.{◌≡◌, ℕ, List, [], Option, None, Result, Ok, Err, ◌⊎◌, IfSome}
use Rattle.std.specs.Io.KnownBytes.{Appends}
use Rattle.outside.specs.Causes.{Rose}
use Rattle.outside.specs.Content.{AppendsFront}
use Rattle.wave_shell.specs.declared.status.Status.{Status}
use Rattle.wave_shell.specs.declared.status.Status.TheVariants as status
use Rattle.wave_shell.specs.declared.refusal.Refusal.{Refusal}
use Rattle.wave_shell.specs.declared.refusal.Refusal.TheVariants as refused
use Rattle.wave_shell.specs.declared.refusal.Stop.{Stop}
use Rattle.wave_shell.specs.declared.refusal.Stop.TheVariants as stop
use Rattle.wave_shell.specs.declared.job.Job.{Job}
use Rattle.wave_shell.specs.Words.{files, script_name}
use Rattle.wave_shell.specs.Program.{judged, MayFailToRead, Says, SaysFront}

-- ---- reading and judging

-- the answer is what was judged, or memory was wanting
abbrev pub Judges : {A : Type 0} → Result A Refusal → Result A Stop → Type 0
Judges said (Ok x) = said ≡ Ok x
Judges said (Err (stop.Refused r)) = said ≡ Err r
Judges said (Err stop.Memory) = Unit {0}
Judges said (Err stop.Read) = ⊥

-- the same of a file whose bytes may be told, and which could be read where the count of its faults did not rise
abbrev pub JudgesFile : {A : Type 0} → (List ℕ → Result A Refusal) → Option (List ℕ) → ℕ → ℕ → Result A Stop → Type 0
JudgesFile judge told before now (Ok x) = IfSome told (λ text. judge text ≡ Ok x)
JudgesFile judge told before now (Err (stop.Refused r)) = IfSome told (λ text. judge text ≡ Err r)
JudgesFile judge told before now (Err stop.Memory) = Unit {0}
JudgesFile judge told before now (Err stop.Read) = Rose before now

-- a refusal of the deck, and one of the script
abbrev pub IsOfDeck : Refusal → Type 0
IsOfDeck refused.DeckTooLong = Unit {0}
IsOfDeck (refused.Deck r) = Unit {0}
IsOfDeck refused.Words = ⊥
IsOfDeck refused.ScriptTooLong = ⊥
IsOfDeck (refused.Script r) = ⊥

abbrev pub IsOfScript : Refusal → Type 0
IsOfScript refused.ScriptTooLong = Unit {0}
IsOfScript (refused.Script r) = Unit {0}
IsOfScript refused.Words = ⊥
IsOfScript refused.DeckTooLong = ⊥
IsOfScript (refused.Deck r) = ⊥

-- where there is a refusal it is such a one
abbrev pub Refuses : {A : Type 0} → (Refusal → Type 0) → Result A Stop → Type 0
Refuses Such (Ok x) = Unit {0}
Refuses Such (Err (stop.Refused r)) = Such r
Refuses Such (Err stop.Memory) = Unit {0}
Refuses Such (Err stop.Read) = Unit {0}

-- words that fit are not refused, and a script is only where it is named
abbrev pub Concerns : List (List ℕ) → Refusal → Type 0
Concerns words refused.Words = files words ≡ None
Concerns words refused.DeckTooLong = Unit {0}
Concerns words (refused.Deck r) = Unit {0}
Concerns words refused.ScriptTooLong = script_name words ≡ None → ⊥
Concerns words (refused.Script r) = script_name words ≡ None → ⊥

-- the job of the words, or why there is none
abbrev pub JudgesWords : (List ℕ → Option (List ℕ)) → (List ℕ → ℕ) → (List ℕ → ℕ) → List (List ℕ)
    → Result Job Stop → Type 0
JudgesWords bytes before now words (Ok j) = IfSome (judged bytes words) (λ said. said ≡ Ok j)
JudgesWords bytes before now words (Err (stop.Refused r)) =
    IfSome (judged bytes words) (λ said. said ≡ Err r) × Concerns words r
JudgesWords bytes before now words (Err stop.Memory) = Unit {0}
JudgesWords bytes before now words (Err stop.Read) = MayFailToRead bytes before now words

-- ---- writing

-- a text was written with this status, or a front of it where the sink failed
abbrev pub Tells : Status → List ℕ → Status → Option (List ℕ) → Option (List ℕ) → ℕ → ℕ → Type 0
Tells s text result old new before now =
    ((result ≡ s) × Appends old new text)
    ⊎ ((result ≡ status.Write) × Rose before now × AppendsFront old new text)

-- nothing was written, with this status
abbrev pub IsSilent : Status → Status → Option (List ℕ) → Option (List ℕ) → Type 0
IsSilent s result old new = (result ≡ s) × Appends old new []

-- how a job or a refusal may end: its text was written; or the sink failed, or memory ran out, after a front of one
abbrev pub Ends : Result Job Refusal → Status → Option (List ℕ) → Option (List ℕ) → ℕ → ℕ → Type 0
Ends j result old new before now =
    Says j result old new
    ⊎ (((result ≡ status.Write) × Rose before now × SaysFront j old new)
    ⊎ ((result ≡ status.Memory) × SaysFront j old new))

-- the same of what the words gave
abbrev pub Answers : Result Job Stop → Status → Option (List ℕ) → Option (List ℕ) → ℕ → ℕ → Type 0
Answers (Ok j) result old new before now = Ends (Ok j) result old new before now
Answers (Err (stop.Refused r)) result old new before now = Ends (Err r) result old new before now
Answers (Err stop.Memory) result old new before now = IsSilent status.Memory result old new
Answers (Err stop.Read) result old new before now = IsSilent status.Read result old new
