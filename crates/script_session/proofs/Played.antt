-- What is played of each command, in one step.
use Rattle.std.proofs.Common.{◌≡◌, ℕ, ◌≤◌, ◌+◌, Bool, true, false, ◌&&◌, nat_le, List, [], ◌∷◌, ◌++◌, length, take, Option, Some, None, Result, Ok, Err, IfOk, OnOk, OnErr, refl, sym, ◌∙◌, ap, arith, subst}
use Rattle.std.proofs.lemmas.List.{length-append}
use Rattle.std.proofs.lemmas.Bool.{le-leb, eq-eqb, false≢true}
use Rattle.semantics.specs.Deck.{DeckValue, Name}
use Rattle.semantics.specs.Text.{version_text}
use Rattle.deck_cards.specs.declared.edit.Edit.{Edit}
use Rattle.deck_cards.specs.Answers.{Answers, Refuses}
use Rattle.deck_cards.specs.Edits.{after, edit_cause}
use Rattle.deck_cards.specs.declared.edit_refusal.EditRefusal.{EditRefusal}
use Rattle.deck_cards.specs.declared.edit_refusal.EditRefusal.TheVariants as refusal
use Rattle.deck_cards.specs.Settled.{put}
use Rattle.version_book.specs.Version.{VersionValue}
use Rattle.wave_script.specs.declared.command.Command.{Command}
use Rattle.wave_script.specs.declared.command.Command.TheVariants as command
use Rattle.wave_text.specs.Answers.{edit_text, pinned_text, unpinned_text, using_text, work_text}
use Rattle.wave_text.specs.Happened.{events_text}
use Rattle.wave_text.specs.Shown.{show_text}
use Rattle.board_core.specs.Board.{BoardValue, IsVersionOf}
use Rattle.script_session.specs.Held.{Bindings, is_wanting, session}
use Rattle.script_session.specs.Session.{SessionValue, answer_to, bound, may_show, moved, says, version, with_edit, Plays}

-- the deck of a version of these edits
pub deck_is : (base : DeckValue) (es : List Edit) (v : VersionValue) → IsVersionOf base es v → v.deck ≡ after base (take (length v.edits) es)
deck_is base es v h = ap (λ (x : VersionValue). x.deck) h.is

pub played_edit : (s : SessionValue) (line : ℕ) (e : Edit) (text : List ℕ) (n : SessionValue)
    → text ≡ edit_text line (answer_to s e) → n ≡ with_edit s e → Plays s line (command.Edit e) text n
unfolding says moved may_show
played_edit s line e text n t is = record { number = 0; may = refl; text_is = t; next_is = is }

pub played_run : (s : SessionValue) (line : ℕ) (text : List ℕ) (n : SessionValue)
    → text ≡ version_text (length s.edits) → n ≡ record s { current = length s.edits; reached = length s.edits } → Plays s line command.Run text n
unfolding says moved may_show
played_run s line text n t is = record { number = length s.edits; may = eq-eqb (length s.edits) (length s.edits) refl; text_is = t; next_is = is }

pub played_look : (s : SessionValue) (line : ℕ) (text : List ℕ) (n : SessionValue)
    → s.reached ≤ length s.edits → text ≡ version_text s.reached → n ≡ record s { current = s.reached } → Plays s line command.Look text n
unfolding says moved may_show
played_look s line text n within t is = record {
  number = s.reached;
  may = rw (le-leb s.reached s.reached (omega arith), le-leb s.reached (length s.edits) within) refl;
  text_is = t;
  next_is = is;
}

pub played_show : (s : SessionValue) (line : ℕ) (node : Name) (range : Option (ℕ × ℕ)) (text : List ℕ)
    → text ≡ show_text (version s s.current) node range → Plays s line (command.Show node range) text s
unfolding says moved may_show
played_show s line node range text t = record { number = 0; may = refl; text_is = t; next_is = refl }

pub played_events : (s : SessionValue) (line : ℕ) (range : Option (ℕ × ℕ)) (text : List ℕ)
    → text ≡ events_text (version s s.current) range → Plays s line (command.Events range) text s
unfolding says moved may_show
played_events s line range text t = record { number = 0; may = refl; text_is = t; next_is = refl }

pub played_pin : (s : SessionValue) (line : ℕ) (name : Name) (text : List ℕ) (n : SessionValue)
    → text ≡ pinned_text name s.current → n ≡ record s { pins = put s.pins (name, Some s.current) } → Plays s line (command.Pin name) text n
unfolding says moved may_show
played_pin s line name text n t is = record { number = 0; may = refl; text_is = t; next_is = is }

pub played_use : (s : SessionValue) (line : ℕ) (name : Name) (text : List ℕ) (n : SessionValue)
    → text ≡ using_text name (bound s name) → n ≡ record s { current = bound s name } → Plays s line (command.UsePin name) text n
unfolding says moved may_show
played_use s line name text n t is = record { number = 0; may = refl; text_is = t; next_is = is }

pub played_unpin : (s : SessionValue) (line : ℕ) (name : Name) (text : List ℕ) (n : SessionValue)
    → text ≡ unpinned_text name → n ≡ record s { pins = put s.pins (name, None) } → Plays s line (command.Unpin name) text n
unfolding says moved may_show
played_unpin s line name text n t is = record { number = 0; may = refl; text_is = t; next_is = is }

pub played_work : (s : SessionValue) (line k : ℕ) (text : List ℕ) → text ≡ work_text k → Plays s line command.Work text s
unfolding says moved may_show
played_work s line k text t = record { number = k; may = refl; text_is = t; next_is = refl }

-- ---- an edit

-- a refusal that is not for want of memory is the cause
refused : (x : EditRefusal) (cause : Option EditRefusal) → Refuses x cause → is_wanting (Err x) ≡ false → cause ≡ Some x
refused (refusal.NoSuchName n) cause is told = is
refused (refusal.WrongKind n) cause is told = is
refused (refusal.DuplicateName n) cause is told = is
refused (refusal.NoSuchModel n) cause is told = is
refused (refusal.NotGrounded n) cause is told = is
refused (refusal.TwoDrivers n) cause is told = is
refused (refusal.Uncapped n) cause is told = is
refused (refusal.NoInitial n) cause is told = is
refused (refusal.Limit which n) cause is told = is
refused refusal.Memory cause is told = absurd (false≢true (sym told))

-- an answer that is not want of memory is the one to the edit
pub answered : (b m : BoardValue) (v : VersionValue) (pins : Bindings) (e : Edit) (r : Result ℕ EditRefusal) → Answers r (edit_cause (after b.base b.edits) e)
    → IfOk r (λ k. k ≡ length m.edits) → OnOk r (m ≡ record b { edits = b.edits ++ e ∷ [] }) → is_wanting r ≡ false → r ≡ answer_to (session b v pins) e
unfolding answer_to
answered b m v pins e (Ok k) cause count more told =
    let edits : m.edits ≡ b.edits ++ e ∷ [] = ap (λ (x : BoardValue). x.edits) more in
    let longer : length (b.edits ++ e ∷ []) ≡ length b.edits + 1 = length-append b.edits (e ∷ []) in
    let is : k ≡ length b.edits + 1 = count ∙ ap (λ (xs : List Edit). length xs) edits ∙ longer in
    let here : answer_to (session b v pins) e ≡ Ok (length b.edits + 1) = rw (cause, answer_to) refl in
    ap Ok is ∙ sym here
answered b m v pins e (Err x) cause count more told =
    let here : answer_to (session b v pins) e ≡ Err x = rw (refused x (edit_cause (after b.base b.edits) e) cause told, answer_to) refl in
    sym here

-- an accepted edit is put behind the others, and a refused one changes nothing
pub edited : (b m : BoardValue) (v : VersionValue) (pins : Bindings) (e : Edit) (r : Result ℕ EditRefusal) → Answers r (edit_cause (after b.base b.edits) e)
    → OnOk r (m ≡ record b { edits = b.edits ++ e ∷ [] }) → OnErr r (m ≡ b) → is_wanting r ≡ false → session m v pins ≡ with_edit (session b v pins) e
unfolding with_edit
edited b m v pins e (Ok k) cause more same told =
    let here : with_edit (session b v pins) e ≡ record (session b v pins) { edits = b.edits ++ e ∷ [] } = rw (cause, with_edit) refl in
    ap (λ x. session x v pins) more ∙ sym here
edited b m v pins e (Err x) cause more same told =
    let here : with_edit (session b v pins) e ≡ session b v pins = rw (refused x (edit_cause (after b.base b.edits) e) cause told, with_edit) refl in
    ap (λ x. session x v pins) same ∙ sym here

-- ---- a call that answers

pub on_ok : {A B P : Type 0} (r : Result A B) → P → OnOk r P
on_ok (Ok x) p = p
on_ok (Err x) p = tt

pub gives : {A B R : Type 0} {P Q : A → Type 0} (r : Result A B) → ((x : A) → P x → R → Q x) → IfOk r P → OnOk r R → IfOk r Q
gives (Ok x) make p q = make x p q
gives (Err x) make p q = tt

pub then_ok : {A B : Type 0} {P Q : A → Type 0} (r : Result A B) → ((x : A) → P x → Q x) → IfOk r P → IfOk r Q
then_ok (Ok x) make p = make x p
then_ok (Err x) make p = tt

-- what is played of a command that is known
pub for_command : {A B : Type 0} (bytes : A → List ℕ) (s n : SessionValue) (line : ℕ) (c d : Command) (r : Result A B)
    → c ≡ d → IfOk r (λ t. Plays s line d (bytes t) n) → IfOk r (λ t. Plays s line c (bytes t) n)
for_command bytes s n line c d r is h = subst (λ x. IfOk r (λ t. Plays s line x (bytes t) n)) (sym is) h

-- the deck of the current version
pub current_deck : (b : BoardValue) (v : VersionValue) (pins : Bindings) (s : SessionValue) → IsVersionOf b.base b.edits v → session b v pins ≡ s → v.deck ≡ version s s.current
current_deck b v pins s h view = deck_is b.base b.edits v h ∙ ap (λ (x : SessionValue). version x x.current) view

pub both_ok : {A B : Type 0} (P Q : Type 0) (r : Result A B) → OnOk r P → OnOk r Q → OnOk r (P × Q)
both_ok P Q (Ok x) p q = (p, q)
both_ok P Q (Err x) p q = tt
