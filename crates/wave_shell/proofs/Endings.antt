-- How the parts of the call end: texts that were told, and scripts that were played.
use Rattle.std.proofs.Common.{◌≡◌, ℕ, ◌+◌, ◌≤◌, List, [], ◌++◌, length, take, drop, Option, Some, None, Result, Ok, Err, refl, sym, ◌∙◌, ap, inl, inr, ⊎_elim, subst, arith}
use Rattle.std.specs.Prelude.{IfOk, MatchResult, slice_get}
use Rattle.std.specs.Io.KnownBytes.{Appends}
use Rattle.std.proofs.lemmas.List.{append_assoc, append-nil, take-append-drop}
use Rattle.std.proofs.Math.Seq.{take-append_seam}
use Rattle.outside.specs.Causes.{Rose}
use Rattle.outside.specs.Content.{AppendsFront}
use Rattle.semantics.specs.Deck.{DeckValue}
use Rattle.semantics.specs.Text.{default_output}
use Rattle.wave_script.specs.declared.command.Command.{Command}
use Rattle.script_session.specs.Session.{SessionValue, opened, Plays}
use Rattle.wave_shell.specs.declared.status.Status.{Status}
use Rattle.wave_shell.specs.declared.status.Status.TheVariants as status
use Rattle.wave_shell.specs.declared.refusal.Refusal.{Refusal}
use Rattle.wave_shell.specs.declared.job.Job.{Job}
use Rattle.wave_shell.specs.Program.{status_of, text_of, with_script, MayPrint, MaySay, SaysFront}
use Rattle.wave_shell.specs.Endings.{Ends, IsSilent, Tells}
use Rattle.wave_shell.proofs.Played.{GoesOn, begins, goes_further, prints_some, all_played, front_played}

-- ---- bytes that were appended

pub appends_none : (old : Option (List ℕ)) → Appends old old []
appends_none None = tt
appends_none (Some xs) = sym (append-nil xs)

pub appends_more : (old mid new : Option (List ℕ)) (a b : List ℕ) → Appends old mid a → Appends mid new b
    → Appends old new (a ++ b)
appends_more None mid new a b first then = tt
appends_more (Some xs) None new a b first then = absurd first
appends_more (Some xs) (Some ys) None a b first then = absurd then
appends_more (Some xs) (Some ys) (Some zs) a b first then =
    then ∙ ap (λ (l : List ℕ). l ++ b) first ∙ append_assoc xs a b

-- a front of a text was appended
front_is : (old new : Option (List ℕ)) (text front rest : List ℕ) → Appends old new front → text ≡ front ++ rest
    → AppendsFront old new text
front_is old new text front rest h is = (
  length front,
  subst (λ (l : List ℕ). Appends old new l)
      (sym (ap (λ (l : List ℕ). take (length front) l) is ∙ take-append_seam front rest)) h,
)

-- ---- one job or refusal

-- it may have some text
some_text : (d : DeckValue) (script : Option (List (ℕ × Command))) → (text : List ℕ) × MayPrint d script text
some_text d None = (default_output d, refl)
some_text d (Some lines) = prints_some lines (opened d) (omega arith)

-- where nothing was written, a front of that was
pub nothing_said : (j : Result Job Refusal) (old new : Option (List ℕ)) → Appends old new [] → SaysFront j old new
nothing_said (Err r) old new h = (text_of r, (status_of r, (refl, refl)), (0, h))
nothing_said (Ok j) old new h = let some = some_text j.deck j.script in (some.0, (status.Ok, (refl, some.1)), (0, h))

-- a text that may be said was told
pub told : (j : Result Job Refusal) (s : Status) (text : List ℕ) (result : Status) (old new : Option (List ℕ))
    (k l : ℕ) → MaySay j s text → Tells s text result old new k l → Ends j result old new k l
told j s text result old new k l may tells = ⊎_elim
    (λ (given : (result ≡ s) × Appends old new text). inl
    (text, subst (λ (t : Status). MaySay j t text) (sym given.0) may, given.1))
    (λ (failed : (result ≡ status.Write) × Rose k l × AppendsFront old new text). inr
    (inl (failed.0, failed.1, (text, (s, may), failed.2))))
    tells

-- the text of a refusal was told
pub refusal_told : (r said : Refusal) (result : Status) (old new : Option (List ℕ)) (k l : ℕ) → r ≡ said
    → Tells (status_of said) (text_of said) result old new k l → Ends (Err r) result old new k l
refusal_told r said result old new k l is tells = told (Err r) (status_of said) (text_of said) result old new k l
    (ap status_of (sym is), ap text_of (sym is)) tells

-- memory was wanting before anything was written
pub silent : (j : Result Job Refusal) (result : Status) (old new : Option (List ℕ)) (k l : ℕ)
    → IsSilent status.Memory result old new → Ends j result old new k l
silent j result old new k l h = inr (inr (h.0, nothing_said j old new h.1))

-- the waves of a deck alone were told, where they could be made
pub waves_told : {X E : Type 0} (bytes : X → List ℕ) (j : Job) (made : Result X E) (result : Status)
    (old new : Option (List ℕ)) (k l : ℕ) → j.script ≡ None
    → IfOk made (λ text. bytes text ≡ default_output j.deck)
    → MatchResult made (λ text. Tells status.Ok (bytes text) result old new k l)
    (λ _. IsSilent status.Memory result old new) → Ends (Ok j) result old new k l
waves_told bytes j (Ok text) result old new k l none is tells =
    told (Ok j) status.Ok (bytes text) result old new k l
    (refl, subst (λ (s : Option (List (ℕ × Command))). MayPrint j.deck s (bytes text)) (sym none) is) tells
waves_told bytes j (Err e) result old new k l none is tells = silent (Ok j) result old new k l tells

-- ---- a script

abbrev pub played : DeckValue → List (ℕ × Command) → Result Job Refusal
played d lines = Ok (with_script d lines)

-- its lines so far were played, and their text was written
pub record IsPlayed (d : DeckValue) (lines : List (ℕ × Command)) (place : ℕ) (now : SessionValue)
    (old new : Option (List ℕ)) : Type 0 where
  pub done : List ℕ
  pub goes : GoesOn d lines place now done
  pub written : Appends old new done

pub none_played : (d : DeckValue) (lines : List (ℕ × Command)) (s : SessionValue) (old : Option (List ℕ))
    → s ≡ opened d → IsPlayed d lines 0 s old old
none_played d lines s old is = record { done = []; goes = begins d lines s is; written = appends_none old }

-- its end
pub ends_played : (d : DeckValue) (lines : List (ℕ × Command)) (place : ℕ) (now : SessionValue)
    (old new : Option (List ℕ)) (k l : ℕ)
    → IsPlayed d lines place now old new → length lines ≤ place → Ends (played d lines) status.Ok old new k l
ends_played d lines place now old new k l h end = inl
    (h.done, (refl, all_played d lines place now h.done h.goes end), h.written)

-- memory was wanting at a line
pub stops_wanting : (d : DeckValue) (lines : List (ℕ × Command)) (place : ℕ) (now : SessionValue)
    (old new : Option (List ℕ)) (k l : ℕ)
    → IsPlayed d lines place now old new → Ends (played d lines) status.Memory old new k l
stops_wanting d lines place now old new k l h =
    let rest = front_played d lines place now h.done h.goes in
    inr (inr (
      refl,
      (
        h.done ++ rest.0,
        (status.Ok, (refl, rest.1)),
        front_is old new (h.done ++ rest.0) h.done rest.0
            h.written refl,
      ),
    ))

-- a line was played, and all of its text was written
pub plays_on : (d : DeckValue) (lines : List (ℕ × Command)) (place line : ℕ) (c : Command) (now next : SessionValue)
    (old mid new : Option (List ℕ)) (text : List ℕ)
    → slice_get lines place ≡ Some (line, c) → IsPlayed d lines place now old mid → Plays now line c text next
    → Appends mid new text → IsPlayed d lines (place + 1) next old new
plays_on d lines place line c now next old mid new text at h p appended = record {
  done = h.done ++ text;
  goes = goes_further d lines place line c now next h.done text at h.goes p;
  written = appends_more old mid new h.done text h.written appended;
}

-- the text of a front of it and what is left
cut : (done text more : List ℕ) (n : ℕ) → (done ++ text) ++ more ≡ (done ++ take n text) ++ (drop n text ++ more)
cut done text more n =
    ap (λ (t : List ℕ). (done ++ t) ++ more) (sym (take-append-drop n text))
    ∙ ap (λ (l : List ℕ). l ++ more) (sym (append_assoc done (take n text) (drop n text)))
    ∙ append_assoc (done ++ take n text) (drop n text) more

-- a line was played, and the sink failed at its text
pub stops_writing : (d : DeckValue) (lines : List (ℕ × Command)) (place line : ℕ) (c : Command)
    (now next : SessionValue) (old mid new : Option (List ℕ)) (text : List ℕ) (k m l : ℕ)
    → slice_get lines place ≡ Some (line, c) → IsPlayed d lines place now old mid → Plays now line c text next
    → AppendsFront mid new text → k ≤ m → Rose m l
    → Ends (played d lines) status.Write old new k l
stops_writing d lines place line c now next old mid new text k m l at h p front low rose =
    let further = goes_further d lines place line c now next h.done text at h.goes p in
    let rest = front_played d lines (place + 1) next (h.done ++ text) further in
    let n = front.0 in
    let written : Appends old new (h.done ++ take n text) =
    appends_more old mid new h.done (take n text) h.written front.1 in
    inr (inl (
      refl,
      omega arith,
      (
        (h.done ++ text) ++ rest.0,
        (status.Ok, (refl, rest.1)),
        front_is old new ((h.done ++ text) ++ rest.0) (h.done ++ take n text) (drop n text ++ rest.0) written
            (cut h.done text rest.0 n),
      ),
    ))
