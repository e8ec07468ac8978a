-- Edits one after another: what they leave of a deck, and one edit more.
use Rattle.std.proofs.Common.{◌≡◌, ◌↔◌, Bool, true, false, ◌&&◌, List, [], ◌∷◌, ◌++◌, Option, Some, None, is_none, refl, sym, ap, ◌∙◌}
use Rattle.std.specs.List.{list_all}
use Rattle.std.proofs.lemmas.Bool.{false≢true}
use Rattle.semantics.specs.Deck.{DeckValue}
use Rattle.semantics.specs.Valid.{is_valid}
use Rattle.deck_cards.specs.declared.edit_refusal.EditRefusal.{EditRefusal}
use Rattle.deck_cards.specs.declared.edit.Edit.{Edit}
use Rattle.deck_cards.specs.Edits.{accepts, after, edit_cause, edit_rises, edited}
use Rattle.deck_cards.proofs.Accepted.{stays_valid}
use Rattle.deck_cards.proofs.Named.{and_both}
use Rattle.edit_laws.specs.Accepted.{AreAccepted, IsAccepted, KeepsFrame}
use Rattle.edit_laws.proofs.Edited.{keeps_frame}

no_cause : (o : Option EditRefusal) → is_none o ≡ true → o ≡ None
no_cause None is = refl
no_cause (Some cause) is = absurd (false≢true is)

valid_from : (d : DeckValue) (es : List Edit) → is_valid d ≡ true → list_all edit_rises es ≡ true → accepts d es ≡ true → is_valid (after d es) ≡ true
unfolding accepts after
valid_from d [] valid rise taken = valid
valid_from d (e ∷ es) valid rise taken =
    let r = and_both (edit_rises e) (list_all edit_rises es) rise in
    let t = and_both (is_none (edit_cause d e)) (accepts (edited d e) es) taken in
    valid_from (edited d e) es (stays_valid d e valid r.0 (no_cause (edit_cause d e) t.0)) r.1 t.1

pub valid_after : (d : DeckValue) (es : List Edit) → AreAccepted d es → is_valid (after d es) ≡ true
valid_after d es h = valid_from d es h.valid h.rise h.taken

same_then : (a b c : DeckValue) → KeepsFrame a b → KeepsFrame b c → KeepsFrame a c
same_then a b c one two = record {
  frame = record { stop = two.frame.stop ∙ one.frame.stop; grain = two.frame.grain ∙ one.frame.grain; parts = two.frame.parts ∙ one.frame.parts };
  title = two.title ∙ one.title;
  uic = two.uic ∙ one.uic;
}

pub frame_after : (d : DeckValue) (es : List Edit) → KeepsFrame d (after d es)
unfolding after
frame_after d [] = record { frame = record { stop = refl; grain = refl; parts = refl }; title = refl; uic = refl }
frame_after d (e ∷ es) = same_then d (edited d e) (after (edited d e) es) (keeps_frame d e) (frame_after (edited d e) es)

pub after_more : (d : DeckValue) (es : List Edit) (e : Edit) → after d (es ++ e ∷ []) ≡ edited (after d es) e
unfolding after
after_more d [] e = refl
after_more d (x ∷ es) e = after_more (edited d x) es e

and_true : (b : Bool) → (b && true) ≡ b
and_true true = refl
and_true false = refl

and_then : (a b c : Bool) → (a && (b && c)) ≡ ((a && b) && c)
and_then true b c = refl
and_then false b c = refl

pub accepts_more : (d : DeckValue) (es : List Edit) (e : Edit) → accepts d (es ++ e ∷ []) ≡ (accepts d es && is_none (edit_cause (after d es) e))
unfolding accepts after
accepts_more d [] e = and_true (is_none (edit_cause d e))
accepts_more d (x ∷ es) e =
    ap (λ b. is_none (edit_cause d x) && b) (accepts_more (edited d x) es e)
    ∙ and_then (is_none (edit_cause d x)) (accepts (edited d x) es) (is_none (edit_cause (after (edited d x) es) e))

-- ---- one edit more of those that are accepted

rise_more : (es : List Edit) (e : Edit) → list_all edit_rises (es ++ e ∷ []) ≡ (list_all edit_rises es && edit_rises e)
rise_more [] e = and_true (edit_rises e)
rise_more (x ∷ es) e = ap (λ b. edit_rises x && b) (rise_more es e) ∙ and_then (edit_rises x) (list_all edit_rises es) (edit_rises e)

both : (a b : Bool) → a ≡ true → b ≡ true → (a && b) ≡ true
both a b first second = λ i. first i && second i

pub further : (d : DeckValue) (es : List Edit) (e : Edit) → AreAccepted d (es ++ e ∷ []) ↔ (AreAccepted d es × IsAccepted (after d es) e)
further d es e = (to, from)
  where
    to : AreAccepted d (es ++ e ∷ []) → AreAccepted d es × IsAccepted (after d es) e
    to h =
        let r = and_both (list_all edit_rises es) (edit_rises e) (sym (rise_more es e) ∙ h.rise) in
        let t = and_both (accepts d es) (is_none (edit_cause (after d es) e)) (sym (accepts_more d es e) ∙ h.taken) in (
          record { valid = h.valid; rise = r.0; taken = t.0 },
          record { valid = valid_from d es h.valid r.0 t.0; rises = r.1; free = no_cause (edit_cause (after d es) e) t.1 },
        )

    from : AreAccepted d es × IsAccepted (after d es) e → AreAccepted d (es ++ e ∷ [])
    from h = record {
      valid = h.0.valid;
      rise = rise_more es e ∙ both (list_all edit_rises es) (edit_rises e) h.0.rise h.1.rises;
      taken = accepts_more d es e ∙ both (accepts d es) (is_none (edit_cause (after d es) e)) h.0.taken (ap is_none h.1.free);
    }
