-- An accepted edit takes one stretch of elements out and puts another in.
use Rattle.std.proofs.Common.{◌≡◌, ◌≢◌, ◌⊎◌, ◌↔◌, ℕ, true, false, List, [], ◌∷◌, ◌++◌, Option, Some, None, unwrap_or, is_none, option_and_then, option_to_list, refl, sym, ap, ◌∙◌, inl, inr}
use Rattle.std.proofs.lemmas.Bool.{false≢true}
use Rattle.std.proofs.lemmas.List.{append-nil}
use Rattle.std.proofs.lemmas.Option.{none-some}
use Rattle.semantics.specs.declared.element.Element.{Element}
use Rattle.semantics.specs.Deck.{DeckValue}
use Rattle.semantics.specs.Valid.{is_valid}
use Rattle.semantics.specs.Edit.{IsChanged, IsEdit, IsOnlyIn}
use Rattle.record_laws.specs.Laws.{IsValidEdit}
use Rattle.record_laws.proofs.Edits.{edit_initial, valid_names}
use Rattle.deck_cards.specs.declared.edit_refusal.EditRefusal.TheVariants.{NoSuchName, WrongKind}
use Rattle.deck_cards.specs.declared.edit.Edit.{Edit}
use Rattle.deck_cards.specs.declared.edit.Edit.TheVariants.{SetR, SetC, SetWave, SetModel, SetIc, Add, Remove}
use Rattle.deck_cards.specs.Edits.{edit_cause, edited, named, place_cause, set_cause, set_named, without_name, with_ohms, with_farads, with_wave, with_part}
use Rattle.deck_cards.proofs.Accepted.{found_cause, kind_cause, placed, stays_valid}
use Rattle.deck_cards.proofs.Firsts.{none_when}
use Rattle.deck_cards.proofs.Standing.{found}
use Rattle.edit_laws.specs.Accepted.{IsAccepted, KeepsFrame}
use Rattle.edit_laws.specs.Changed.{Comes, Goes, element_after, element_before}
use Rattle.edit_laws.proofs.Same.{same_option}
use Rattle.edit_laws.proofs.Stretch.{Stretch, all_of, alone_in}

-- ---- the stretch

set_stretch : (d : DeckValue) (n : List ℕ) (f : Element → Option Element) → is_valid d ≡ true → set_cause d n f ≡ None
    → Stretch d.elements (set_named n f d.elements) (named n d.elements) (option_and_then f (named n d.elements))
set_stretch d n f valid free = by (named n d.elements) refl free
  where
    at : (x : Element) (o : Option Element) → named n d.elements ≡ Some x → f x ≡ o → kind_cause d n o ≡ None
        → Stretch d.elements (set_named n f d.elements) (named n d.elements) (option_and_then f (named n d.elements))
    at x None here is bad = absurd (none-some (WrongKind n) (sym bad))
    at x (Some y) here is ok =
        let s = found n d.elements x (valid_names d valid) here in
        let after : option_and_then f (named n d.elements) ≡ Some y = ap (option_and_then f) here ∙ is in
        record {
          before = s.before;
          after = s.after;
          was = s.was ∙ ap (λ o. s.before ++ (option_to_list o ++ s.after)) (sym here);
          now = s.set f ∙ (ap (λ o. s.before ++ (unwrap_or o x ∷ s.after)) is ∙ ap (λ o. s.before ++ (option_to_list o ++ s.after)) (sym after));
        }

    by : (o : Option Element) → named n d.elements ≡ o → found_cause d n f o ≡ None
        → Stretch d.elements (set_named n f d.elements) (named n d.elements) (option_and_then f (named n d.elements))
    by None here bad = absurd (none-some (NoSuchName n) (sym bad))
    by (Some x) here ok = at x (f x) here refl ok

removed_stretch : (d : DeckValue) (n : List ℕ) → is_valid d ≡ true → is_none (named n d.elements) ≡ false
    → Stretch d.elements (without_name n d.elements) (named n d.elements) None
removed_stretch d n valid there = by (named n d.elements) refl there
  where
    by : (o : Option Element) → named n d.elements ≡ o → is_none o ≡ false → Stretch d.elements (without_name n d.elements) (named n d.elements) None
    by None here bad = absurd (false≢true (sym bad))
    by (Some x) here ok =
        let s = found n d.elements x (valid_names d valid) here in
        record {
          before = s.before;
          after = s.after;
          was = s.was ∙ ap (λ o. s.before ++ (option_to_list o ++ s.after)) (sym here);
          now = s.out;
        }

pub stretch : (d : DeckValue) (e : Edit) → is_valid d ≡ true → edit_cause d e ≡ None → Stretch d.elements (edited d e).elements (element_before d e) (element_after d e)
unfolding edited place_cause element_before element_after
stretch d (SetR name ohms) valid free = set_stretch d name (with_ohms ohms) valid (placed d (SetR name ohms) free)
stretch d (SetC name farads) valid free = set_stretch d name (with_farads farads) valid (placed d (SetC name farads) free)
stretch d (SetWave name wave) valid free = set_stretch d name (with_wave wave) valid (placed d (SetWave name wave) free)
stretch d (SetModel name part) valid free = set_stretch d name (with_part part) valid (placed d (SetModel name part) free)
stretch d (SetIc node volts) valid free = record { before = []; after = d.elements; was = refl; now = refl }
stretch d (Add e) valid free = record { before = d.elements; after = []; was = sym (append-nil d.elements); now = refl }
stretch d (Remove name) valid free = removed_stretch d name valid (none_when (is_none (named name d.elements)) (NoSuchName name) (placed d (Remove name) free))

-- ---- what goes and what comes

pub goes : (d : DeckValue) (e : Edit) (x : Element) → IsAccepted d e → IsOnlyIn d (edited d e) x ↔ Goes d e x
goes d e x h =
    let s = stretch d e h.valid h.free in
    alone_in d (edited d e) s.before s.after (element_before d e) (element_after d e) (valid_names d h.valid) s.was s.now x

pub comes : (d : DeckValue) (e : Edit) (x : Element) → IsAccepted d e → IsOnlyIn (edited d e) d x ↔ Comes d e x
comes d e x h =
    let s = stretch d e h.valid h.free in
    alone_in (edited d e) d s.before s.after (element_after d e) (element_before d e) (valid_names (edited d e) (stays_valid d e h.valid h.rises h.free)) s.now s.was x

pub changes : (d : DeckValue) (e : Edit) (x : Element) → IsAccepted d e → IsChanged d (edited d e) x ↔ (Goes d e x ⊎ Comes d e x)
changes d e x h = (to, from)
  where
    to : IsChanged d (edited d e) x → Goes d e x ⊎ Comes d e x
    to (inl old) = inl ((goes d e x h).0 old)
    to (inr new) = inr ((comes d e x h).0 new)

    from : Goes d e x ⊎ Comes d e x → IsChanged d (edited d e) x
    from (inl old) = inl ((goes d e x h).1 old)
    from (inr new) = inr ((comes d e x h).1 new)

-- ---- the edit

pub keeps_frame : (d : DeckValue) (e : Edit) → KeepsFrame d (edited d e)
unfolding edited
keeps_frame d (SetR name ohms) = record { frame = record { stop = refl; grain = refl; parts = refl }; title = refl; uic = refl }
keeps_frame d (SetC name farads) = record { frame = record { stop = refl; grain = refl; parts = refl }; title = refl; uic = refl }
keeps_frame d (SetWave name wave) = record { frame = record { stop = refl; grain = refl; parts = refl }; title = refl; uic = refl }
keeps_frame d (SetModel name part) = record { frame = record { stop = refl; grain = refl; parts = refl }; title = refl; uic = refl }
keeps_frame d (SetIc node volts) = record { frame = record { stop = refl; grain = refl; parts = refl }; title = refl; uic = refl }
keeps_frame d (Add e) = record { frame = record { stop = refl; grain = refl; parts = refl }; title = refl; uic = refl }
keeps_frame d (Remove name) = record { frame = record { stop = refl; grain = refl; parts = refl }; title = refl; uic = refl }

pub one_edit : (d : DeckValue) (e : Edit) → IsAccepted d e → IsEdit d (edited d e)
one_edit d e h = by (same_option (element_before d e) (element_after d e))
  where
    s : Stretch d.elements (edited d e).elements (element_before d e) (element_after d e)
    s = stretch d e h.valid h.free

    by : (element_before d e ≡ element_after d e) ⊎ (element_before d e ≢ element_after d e) → IsEdit d (edited d e)
    by (inl same) = edit_initial d (edited d e) (keeps_frame d e).frame (s.now ∙ (ap (λ o. s.before ++ (option_to_list o ++ s.after)) (sym same) ∙ sym s.was))
    by (inr other) = record {
      frame = (keeps_frame d e).frame;
      before = s.before;
      gone = option_to_list (element_before d e);
      come = option_to_list (element_after d e);
      after = s.after;
      was = s.was;
      now = s.now;
      lost = all_of (IsChanged d (edited d e)) (element_before d e) (λ x is. inl ((goes d e x h).1 (is, λ new. other (is ∙ sym new))));
      made = all_of (IsChanged d (edited d e)) (element_after d e) (λ x is. inr ((comes d e x h).1 (is, λ old. other (old ∙ sym is))));
    }

pub valid_edit : (d : DeckValue) (e : Edit) → IsAccepted d e → IsValidEdit d (edited d e)
valid_edit d e h = record { old_valid = h.valid; new_valid = stays_valid d e h.valid h.rises h.free; edit = one_edit d e h }
