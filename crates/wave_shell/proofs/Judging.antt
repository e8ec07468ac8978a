-- What the words and the bytes of the files give.
use Rattle.std.proofs.Common.{◌≡◌, ℕ, ◌≤◌, ◌<◌, Bool, true, false, List, Option, Some, None, Result, Ok, Err, refl, sym, ◌∙◌, inl, inr, subst, arith}
use Rattle.std.specs.Prelude.{IfSome, IsErrAnd, length}
use Rattle.std.specs.Option.{option_map}
use Rattle.std.specs.Str.{bytes_eq}
use Rattle.std.proofs.lemmas.Bool.{le-ltb, lt-ltb, false≢true}
use Rattle.std.proofs.lemmas.Slice.Eq.{bytes_eq-Decides}
use Rattle.outside.specs.Causes.{Rose}
use Rattle.outside.specs.Content.{SameElsewhere}
use Rattle.outside.specs.declared.reading.TheConstants.{READ_LIMIT}
use Rattle.semantics.specs.Deck.{DeckValue}
use Rattle.deck_reader.specs.declared.why.DeckRefusal.{DeckRefusal}
use Rattle.deck_reader.specs.Reading.{deck_in}
use Rattle.wave_script.specs.declared.command.Command.{Command}
use Rattle.wave_script.specs.declared.why.ScriptRefusal.{ScriptRefusal}
use Rattle.wave_script.specs.Lines.{script_in}
use Rattle.wave_shell.specs.declared.refusal.Refusal.{Refusal}
use Rattle.wave_shell.specs.declared.refusal.Refusal.TheVariants as refused
use Rattle.wave_shell.specs.declared.refusal.Stop.{Stop}
use Rattle.wave_shell.specs.declared.refusal.Stop.TheVariants as stop
use Rattle.wave_shell.specs.declared.job.Job.{Job}
use Rattle.wave_shell.specs.Words.{FilesValue, files, script_name}
use Rattle.wave_shell.specs.Program.{judged, judged_deck, judged_job, judged_script, alone, with_script}
use Rattle.wave_shell.specs.Endings.{Concerns, IsOfDeck, IsOfScript, JudgesFile, JudgesWords, Refuses}

-- ---- one file

pub deck_is : (bytes : List ℕ) (d : DeckValue) → length bytes ≤ READ_LIMIT → deck_in bytes ≡ Ok d
    → judged_deck bytes ≡ Ok d
unfolding judged_deck
deck_is bytes d short is = rw (le-ltb READ_LIMIT (length bytes) short) (rw is refl)

pub deck_refused : (bytes : List ℕ) (r : DeckRefusal) → length bytes ≤ READ_LIMIT → deck_in bytes ≡ Err r
    → judged_deck bytes ≡ Err (refused.Deck r)
unfolding judged_deck
deck_refused bytes r short is = rw (le-ltb READ_LIMIT (length bytes) short) (rw is refl)

pub deck_long : (bytes : List ℕ) → READ_LIMIT < length bytes → judged_deck bytes ≡ Err refused.DeckTooLong
unfolding judged_deck
deck_long bytes long = rw (lt-ltb READ_LIMIT (length bytes) long) refl

pub script_is : (bytes : List ℕ) (lines : List (ℕ × Command)) → length bytes ≤ READ_LIMIT → script_in bytes ≡ Ok lines
    → judged_script bytes ≡ Ok lines
unfolding judged_script
script_is bytes lines short is = rw (le-ltb READ_LIMIT (length bytes) short) (rw is refl)

pub script_refused : (bytes : List ℕ) (r : ScriptRefusal) → length bytes ≤ READ_LIMIT → script_in bytes ≡ Err r
    → judged_script bytes ≡ Err (refused.Script r)
unfolding judged_script
script_refused bytes r short is = rw (le-ltb READ_LIMIT (length bytes) short) (rw is refl)

pub script_long : (bytes : List ℕ) → READ_LIMIT < length bytes → judged_script bytes ≡ Err refused.ScriptTooLong
unfolding judged_script
script_long bytes long = rw (lt-ltb READ_LIMIT (length bytes) long) refl

-- a fact of all bytes that are told is a fact of what is judged of them
pub each_told : (o : Option (List ℕ)) (P Q : List ℕ → Type 0) → ((text : List ℕ) → P text → Q text) → IfSome o P
    → IfSome o Q
each_told None P Q step h = tt
each_told (Some text) P Q step h = step text h

-- ---- the words

pub unfit : (b : List ℕ → Option (List ℕ)) (f g : List ℕ → ℕ) (words : List (List ℕ)) → files words ≡ None
    → JudgesWords b f g words (Err (stop.Refused refused.Words))
unfolding judged
unfit b f g words none = (rw (none, judged) refl, none)

-- ---- the deck

-- a deck at fault is told
deck_told : (b : List ℕ → Option (List ℕ)) (words : List (List ℕ)) (named : FilesValue) (r : Refusal)
    → files words ≡ Some named
    → IfSome (b named.deck) (λ text. judged_deck text ≡ Err r) → IfSome (judged b words) (λ said. said ≡ Err r)
unfolding judged
deck_told b words named r is h = rw (is, judged) (by (b named.deck) h)
  where
    by : (o : Option (List ℕ)) → IfSome o (λ text. judged_deck text ≡ Err r)
        → IfSome (elim o as (λ _. Option (Result Job Refusal)) [
          | None ↦ None
          | Some text ↦ elim (judged_deck text) as (λ _. Option (Result Job Refusal))
              [ Err s ↦ Some (Err s) | Ok d ↦ judged_job b named.script d ]
        ]) (λ said. said ≡ Err r)
    by None h = tt
    by (Some text) h = rw h refl

-- a valid deck leaves it to the script
deck_passes : (b : List ℕ → Option (List ℕ)) (words : List (List ℕ)) (named : FilesValue) (d : DeckValue)
    (j : Result Job Refusal) → files words ≡ Some named
    → IfSome (b named.deck) (λ text. judged_deck text ≡ Ok d)
    → IfSome (judged_job b named.script d) (λ said. said ≡ j) → IfSome (judged b words) (λ said. said ≡ j)
unfolding judged
deck_passes b words named d j is valid h = rw (is, judged) (by (b named.deck) valid)
  where
    by : (o : Option (List ℕ)) → IfSome o (λ text. judged_deck text ≡ Ok d)
        → IfSome (elim o as (λ _. Option (Result Job Refusal)) [
          | None ↦ None
          | Some text ↦ elim (judged_deck text) as (λ _. Option (Result Job Refusal))
              [ Err s ↦ Some (Err s) | Ok d ↦ judged_job b named.script d ]
        ]) (λ said. said ≡ j)
    by None valid = tt
    by (Some text) valid = rw valid h

of_deck : (words : List (List ℕ)) (r : Refusal) → IsOfDeck r → Concerns words r
of_deck words refused.DeckTooLong h = tt
of_deck words (refused.Deck r) h = tt
of_deck words refused.Words h = absurd h
of_deck words refused.ScriptTooLong h = absurd h
of_deck words (refused.Script r) h = absurd h

pub deck_stops : (b : List ℕ → Option (List ℕ)) (f g : List ℕ → ℕ) (words : List (List ℕ)) (named : FilesValue)
    (s : Stop) → files words ≡ Some named
    → JudgesFile {A = DeckValue} judged_deck (b named.deck) (f named.deck) (g named.deck) (Err s)
    → Refuses {A = DeckValue} IsOfDeck (Err s) → JudgesWords b f g words (Err s)
deck_stops b f g words named (stop.Refused r) is h kind = (deck_told b words named r is h, of_deck words r kind)
deck_stops b f g words named stop.Read is h kind = inl (rw is h)
deck_stops b f g words named stop.Memory is h kind = tt

pub deck_alone : (b : List ℕ → Option (List ℕ)) (f g : List ℕ → ℕ) (words : List (List ℕ)) (named : FilesValue)
    (d : DeckValue) → files words ≡ Some named → named.script ≡ None
    → IfSome (b named.deck) (λ text. judged_deck text ≡ Ok d) → JudgesWords b f g words (Ok (alone d))
unfolding judged_job
deck_alone b f g words named d is none valid = deck_passes b words named d (Ok (alone d)) is valid
    (rw (none, judged_job) refl)

-- ---- the script

-- where the deck is valid, a script at fault is told
script_told : (b : List ℕ → Option (List ℕ)) (words : List (List ℕ)) (named : FilesValue) (name : List ℕ)
    (d : DeckValue) (r : Refusal) → files words ≡ Some named → named.script ≡ Some name
    → IfSome (b named.deck) (λ text. judged_deck text ≡ Ok d) → IfSome (b name) (λ text. judged_script text ≡ Err r)
    → IfSome (judged b words) (λ said. said ≡ Err r)
unfolding judged_job
script_told b words named name d r is one valid h =
    deck_passes b words named d (Err r) is valid (rw (one, judged_job) (by (b name) h))
  where
    by : (o : Option (List ℕ)) → IfSome o (λ text. judged_script text ≡ Err r)
        → IfSome (option_map (λ text. elim (judged_script text) as (λ _. Result Job Refusal)
        [ Err s ↦ Err s | Ok lines ↦ Ok (with_script d lines) ]) o) (λ said. said ≡ Err r)
    by None h = tt
    by (Some text) h = rw h refl

pub script_passes : (b : List ℕ → Option (List ℕ)) (f g : List ℕ → ℕ) (words : List (List ℕ)) (named : FilesValue)
    (name : List ℕ) (d : DeckValue) (lines : List (ℕ × Command))
    → files words ≡ Some named → named.script ≡ Some name
    → IfSome (b named.deck) (λ text. judged_deck text ≡ Ok d)
    → IfSome (b name) (λ text. judged_script text ≡ Ok lines) → JudgesWords b f g words (Ok (with_script d lines))
unfolding judged_job
script_passes b f g words named name d lines is one valid h =
    deck_passes b words named d (Ok (with_script d lines)) is valid (rw (one, judged_job) (by (b name) h))
  where
    by : (o : Option (List ℕ)) → IfSome o (λ text. judged_script text ≡ Ok lines)
        → IfSome (option_map (λ text. elim (judged_script text) as (λ _. Result Job Refusal)
        [ Err s ↦ Err s | Ok ls ↦ Ok (with_script d ls) ]) o) (λ said. said ≡ Ok (with_script d lines))
    by None h = tt
    by (Some text) h = rw h refl

script_is_named : (words : List (List ℕ)) (named : FilesValue) (name : List ℕ) → files words ≡ Some named
    → named.script ≡ Some name → script_name words ≡ Some name
script_is_named words named name is one = rw (is, script_name) one

of_script : (words : List (List ℕ)) (r : Refusal) (name : List ℕ) → script_name words ≡ Some name → IsOfScript r
    → Concerns words r
of_script words refused.ScriptTooLong name is h = λ none. let clash : Some name ≡ None = sym is ∙ none in cc
of_script words (refused.Script r) name is h = λ none. let clash : Some name ≡ None = sym is ∙ none in cc
of_script words refused.Words name is h = absurd h
of_script words refused.DeckTooLong name is h = absurd h
of_script words (refused.Deck r) name is h = absurd h

-- a count that rose later rose
rose_later : (before mid now : ℕ) → before ≤ mid → Rose mid now → Rose before now
rose_later before mid now low rose = omega arith

pub script_stops : (b : List ℕ → Option (List ℕ)) (f g : List ℕ → ℕ) (mid : ℕ) (words : List (List ℕ))
    (named : FilesValue) (name : List ℕ) (d : DeckValue) (s : Stop)
    → files words ≡ Some named → named.script ≡ Some name → IfSome (b named.deck) (λ text. judged_deck text ≡ Ok d)
    → f name ≤ mid
    → JudgesFile {A = List (ℕ × Command)} judged_script (b name) mid (g name) (Err s)
    → Refuses {A = List (ℕ × Command)} IsOfScript (Err s) → JudgesWords b f g words (Err s)
script_stops b f g mid words named name d (stop.Refused r) is one valid low h kind = (
  script_told b words named name d r is one valid h,
  of_script words r name
      (script_is_named words named name is one) kind,
)
script_stops b f g mid words named name d stop.Read is one valid low h kind =
    inr (
      rw (script_is_named words named name is one) (rose_later (f name) mid (g name) low h),
      rw is
          (each_told (b named.deck) (λ text. judged_deck text ≡ Ok d)
          (λ text. (e : DeckValue) × (judged_deck text ≡ Ok e)) (λ text valid. (d, valid)) valid),
    )
script_stops b f g mid words named name d stop.Memory is one valid low h kind = tt

-- what a `?` hands on
pub handed_on : {A : Type 0} (r : Result A Stop) (s : Stop) (P : Result A Stop → Type 0) → IsErrAnd r (λ x. x ≡ s)
    → P (Err s) → P r
handed_on (Ok x) s P h p = absurd h
handed_on (Err x) s P h p = subst (λ y. P (Err y)) (sym h) p

-- ---- what reading leaves

-- where no count falls at one name and the others stay, none falls
pub none_falls : (name : List ℕ) (f g : List ℕ → ℕ) → f name ≤ g name → SameElsewhere name f g → (other : List ℕ)
    → f other ≤ g other
none_falls name f g here elsewhere other = by (bytes_eq other name) refl
  where
    by : (b : Bool) → bytes_eq other name ≡ b → f other ≤ g other
    by true e = subst (λ n. f n ≤ g n) (sym ((bytes_eq-Decides other name).0 e)) here
    by false e = omega (
      arith,
      elsewhere other (λ same. absurd
          (false≢true (sym e ∙ (bytes_eq-Decides other name).1 same))),
    )
