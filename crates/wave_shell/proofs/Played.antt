-- The lines of a script, played one after the other: what they may print, and that they may print something.
use Rattle.std.proofs.Common.{◌≡◌, ℕ, ◌+◌, ◌≤◌, Bool, true, false, List, [], ◌∷◌, ◌++◌, length, drop, Option, Some, None, refl, sym, subst, add-one, arith}
use Rattle.std.specs.Prelude.{nat_le, ◌&&◌, slice_get}
use Rattle.std.proofs.lemmas.Bool.{eqb-true, eq-eqb, leb-true, le-leb}
use Rattle.std.proofs.lemmas.List.{length_push, append_assoc, append-nil, drop_all}
use Rattle.std.proofs.lemmas.Option.{get_or_from_slice_get, slice_get_within}
use Rattle.std.proofs.Math.Seq.{drop-cons}
use Rattle.semantics.specs.Deck.{DeckValue}
use Rattle.deck_cards.specs.declared.edit.Edit.{Edit}
use Rattle.deck_cards.specs.declared.edit_refusal.EditRefusal.{EditRefusal}
use Rattle.deck_cards.specs.Edits.{after, edit_cause}
use Rattle.wave_script.specs.declared.command.Command.{Command}
use Rattle.wave_script.specs.declared.command.Command.TheVariants as command
use Rattle.script_session.proofs.Printed.{rises}
use Rattle.script_session.specs.Session.{SessionValue, opened, says, moved, may_show, Plays, Prints, IsOutput}

-- ---- how far a script has come

-- the last version that was shown has no more edits than were accepted
abbrev pub IsInReach : SessionValue → Type 0
IsInReach s = s.reached ≤ length s.edits

-- each line keeps it
pub keeps_reach : (s next : SessionValue) (line : ℕ) (c : Command) (text : List ℕ) → IsInReach s
    → Plays s line c text next → IsInReach next
keeps_reach s next line c text h p = (rises s line c text next h p).1

moves_in_reach : (s : SessionValue) (k line : ℕ) (c : Command) → IsInReach s → may_show s k c ≡ true
    → IsInReach (moved s k c)
moves_in_reach s k line c h may = keeps_reach s (moved s k c) line c (says s k line c) h
    (record { number = k; may = may; text_is = refl; next_is = refl })

-- ---- each script may print something

-- a line may show the number of all accepted edits
all_may : (s : SessionValue) (c : Command) → IsInReach s → may_show s (length s.edits) c ≡ true
unfolding may_show
all_may s (command.Edit e) h = refl
all_may s command.Run h = eq-eqb (length s.edits) (length s.edits) refl
all_may s command.Look h = rw (
  le-leb s.reached (length s.edits) h,
  le-leb (length s.edits) (length s.edits)
      (omega arith),
) refl
all_may s (command.Show node range) h = refl
all_may s (command.Events range) h = refl
all_may s (command.Pin name) h = refl
all_may s (command.UsePin name) h = refl
all_may s (command.Unpin name) h = refl
all_may s command.Work h = refl

pub prints_some : (lines : List (ℕ × Command)) (s : SessionValue) → IsInReach s → (text : List ℕ) × Prints s lines text
prints_some [] s h = ([], refl)
prints_some (l ∷ ls) s h =
    let k = length s.edits in
    let more = prints_some ls (moved s k l.1) (moves_in_reach s k l.0 l.1 h (all_may s l.1 h)) in
    let first = says s k l.0 l.1 in (
      first ++ more.0,
      (
        moved s k l.1,
        first,
        more.0,
        record
            { number = k; may = all_may s l.1 h; text_is = refl; next_is = refl },
        more.1,
        refl,
      ),
    )

-- ---- what was printed, and what the lines that are left print

-- with each text that the lines from a place on may print, what was printed is one that all lines may print
pub record GoesOn (d : DeckValue) (lines : List (ℕ × Command)) (place : ℕ) (now : SessionValue) (done : List ℕ) : Type
    0 where
  pub reach : IsInReach now
  pub goes : (more : List ℕ) → Prints now (drop place lines) more → IsOutput d lines (done ++ more)

pub begins : (d : DeckValue) (lines : List (ℕ × Command)) (s : SessionValue) → s ≡ opened d → GoesOn d lines 0 s []
begins d lines s is = record {
  reach = subst IsInReach (sym is) (omega arith);
  goes =
      λ more h. subst (λ (t : SessionValue). Prints t lines more) is h;
}

-- the lines from a place on begin with the line there
from_place : (lines : List (ℕ × Command)) (place : ℕ) (l : ℕ × Command) → slice_get lines place ≡ Some l
    → drop place lines ≡ l ∷ drop (place + 1) lines
from_place lines place l at = rw (
  add-one,
  drop-cons lines place l (slice_get_within lines place l at),
  get_or_from_slice_get lines place l l at,
) refl

pub goes_further : (d : DeckValue) (lines : List (ℕ × Command)) (place line : ℕ) (c : Command)
    (now next : SessionValue) (done text : List ℕ)
    → slice_get lines place ≡ Some (line, c) → GoesOn d lines place now done → Plays now line c text next
    → GoesOn d lines (place + 1) next (done ++ text)
goes_further d lines place line c now next done text at so_far p = record {
  reach = keeps_reach now next line c text so_far.reach p;
  goes = λ more h. rw append_assoc (so_far.goes (text ++ more)
      (rw (from_place lines place (line, c) at) (next, text, more, p, h, refl)));
}

-- after the last line it is one that all lines may print
pub all_played : (d : DeckValue) (lines : List (ℕ × Command)) (place : ℕ) (now : SessionValue) (done : List ℕ)
    → GoesOn d lines place now done → length lines ≤ place → IsOutput d lines done
all_played d lines place now done so_far end =
    subst (λ (text : List ℕ). IsOutput d lines text) (append-nil done)
    (so_far.goes [] (subst (λ (ls : List (ℕ × Command)). Prints now ls []) (sym (drop_all place lines end)) refl))

-- before that it is the front of one
pub front_played : (d : DeckValue) (lines : List (ℕ × Command)) (place : ℕ) (now : SessionValue) (done : List ℕ)
    → GoesOn d lines place now done → (more : List ℕ) × IsOutput d lines (done ++ more)
front_played d lines place now done so_far = let some =
    prints_some (drop place lines) now so_far.reach in (some.0, so_far.goes some.0 some.1)
