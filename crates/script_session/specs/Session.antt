-- What the lines of a script print, one after the other, and which numbers of versions they may show.
use Rattle.std.specs.Prelude.{◌≡◌, ℕ, ◌+◌, ◌==◌, nat_le, Bool, true, ◌&&◌, List, [], ◌∷◌, ◌++◌, length, map, take, Option, Some, None, unwrap_or, Result, Ok, Err}
use Rattle.semantics.specs.Deck.{DeckValue, Name, look_up, nodes}
use Rattle.semantics.specs.Text.{version_text}
use Rattle.deck_cards.specs.declared.edit.Edit.{Edit}
use Rattle.deck_cards.specs.declared.edit_refusal.EditRefusal.{EditRefusal}
use Rattle.deck_cards.specs.Edits.{after, edit_cause}
use Rattle.deck_cards.specs.Settled.{put}
use Rattle.wave_script.specs.declared.command.Command.{Command}
use Rattle.wave_script.specs.declared.command.Command.TheVariants as command
use Rattle.wave_text.specs.Answers.{edit_text, pinned_text, unpinned_text, using_text, work_text}
use Rattle.wave_text.specs.Happened.{events_text}
use Rattle.wave_text.specs.Shown.{show_text}

-- how far a script has come: the deck that it began with, the edits accepted so far, the number of the current version,
-- that of the last `run` or `look` (at first 0), and each name that a line has pinned or unpinned, with the number of the
-- version that it is bound to now
pub record SessionValue : Type 0 where
  pub base : DeckValue
  pub edits : List Edit
  pub current : ℕ
  pub reached : ℕ
  pub pins : List (Name × Option ℕ)

-- no line has been played
abbrev pub opened : DeckValue → SessionValue
opened d = record { base = d; edits = []; current = 0; reached = 0; pins = [] }

-- the deck after the first k of the edits
abbrev pub version : SessionValue → ℕ → DeckValue
version s k = after s.base (take k s.edits)

-- the number of the version that a name is bound to
abbrev pub bound : SessionValue → Name → ℕ
bound s name = unwrap_or (unwrap_or (look_up name s.pins) None) s.current

-- what an edit is answered: the number of edits that are accepted with it, or the first cause against it
unfoldable pub answer_to : SessionValue → Edit → Result ℕ EditRefusal
answer_to s e = elim (edit_cause (after s.base s.edits) e) [
  | None ↦ Ok (length s.edits + 1)
  | Some cause ↦ Err cause
]

-- the session after an edit; one that is refused changes nothing
unfoldable pub with_edit : SessionValue → Edit → SessionValue
with_edit s e = elim (edit_cause (after s.base s.edits) e) [
  | None ↦ record s { edits = s.edits ++ e ∷ [] }
  | Some cause ↦ s
]

-- what a line prints; k is the number that `run` and `look` show, or that `work` counts. What is shown is told of the deck
-- after as many edits as the current version has, and of nothing else
unfoldable pub says : SessionValue → ℕ → ℕ → Command → List ℕ
says s k line (command.Edit e) = edit_text line (answer_to s e)
says s k line command.Run = version_text k
says s k line command.Look = version_text k
says s k line (command.Show node range) = show_text (version s s.current) node range
says s k line (command.Events range) = events_text (version s s.current) range
says s k line (command.Pin name) = pinned_text name s.current
says s k line (command.UsePin name) = using_text name (bound s name)
says s k line (command.Unpin name) = unpinned_text name
says s k line command.Work = work_text k

-- how far the script has come after the line
unfoldable pub moved : SessionValue → ℕ → Command → SessionValue
moved s k (command.Edit e) = with_edit s e
moved s k command.Run = record s { current = k; reached = k }
moved s k command.Look = record s { current = k; reached = k }
moved s k (command.Show node range) = s
moved s k (command.Events range) = s
moved s k (command.Pin name) = record s { pins = put s.pins (name, Some s.current) }
moved s k (command.UsePin name) = record s { current = bound s name }
moved s k (command.Unpin name) = record s { pins = put s.pins (name, None) }
moved s k command.Work = s

-- `run` shows the number of all accepted edits; `look` shows none above it and none below that of an earlier `run` or `look`
unfoldable pub may_show : SessionValue → ℕ → Command → Bool
may_show s k command.Run = k == length s.edits
may_show s k command.Look = nat_le s.reached k && nat_le k (length s.edits)
may_show s k (command.Edit e) = true
may_show s k (command.Show node range) = true
may_show s k (command.Events range) = true
may_show s k (command.Pin name) = true
may_show s k (command.UsePin name) = true
may_show s k (command.Unpin name) = true
may_show s k command.Work = true

-- a line is played: it prints the text, and the script has come as far as the second session
pub record Plays (s : SessionValue) (line : ℕ) (c : Command) (text : List ℕ) (next : SessionValue) : Type 0 where
  pub number : ℕ
  pub may : may_show s number c ≡ true
  pub text_is : text ≡ says s number line c
  pub next_is : next ≡ moved s number c

-- the lines are played, one after the other, and print the text
abbrev pub Prints : SessionValue → List (ℕ × Command) → List ℕ → Type 0
Prints s [] text = text ≡ []
Prints s (l ∷ ls) text = (next : SessionValue) × (first : List ℕ) × (rest : List ℕ)
    × Plays s l.0 l.1 first next × Prints next ls rest × (text ≡ first ++ rest)

-- a script may print this text of a deck
abbrev pub IsOutput : DeckValue → List (ℕ × Command) → List ℕ → Type 0
IsOutput d lines text = Prints (opened d) lines text

-- what stands for no script: `look`, and `show` for each node in the order of the nodes
abbrev pub default_script : DeckValue → List (ℕ × Command)
default_script d = (1, command.Look) ∷ map (λ n. (1, command.Show n None)) (nodes d)
