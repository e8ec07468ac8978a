use Rattle.std.proofs.Common.{◌≡◌, ◌∙◌, ℕ, List, true, Option, Some, None, is_none, ap, refl, subst, sym}
use Rattle.std.specs.List.{list_all}
use Rattle.semantics.specs.declared.element.Element.{Element}
use Rattle.semantics.specs.Deck.{DeckValue}
use Rattle.semantics.specs.Valid.{is_grounded, is_valid}
use Rattle.deck_cards.specs.declared.edit_refusal.EditRefusal.{EditRefusal}
use Rattle.deck_cards.specs.declared.edit_refusal.EditRefusal.TheVariants.{NoSuchName}
use Rattle.deck_cards.specs.Answers.{Refuses}
use Rattle.deck_cards.specs.Causes.{when}
use Rattle.deck_cards.specs.Edits.{edit_cause, edited, named, place_cause, without_name}
use Rattle.deck_cards.proofs.Accepted.{fits, fits_removed}
use Rattle.deck_cards.proofs.Firsts.{handed_on, refuses_first}
use Rattle.deck_cards.proofs.Standing.{elements_to}
use Rattle.deck_cards.proofs.apply.remove.Goals as goal

grounded : (d : DeckValue) (n : List ℕ) → is_valid d ≡ true → when (is_none (named n d.elements)) (NoSuchName n) ≡ None → list_all is_grounded (without_name n d.elements) ≡ true
grounded d n valid none = by (named n d.elements) refl none
  where
    by : (o : Option Element) → named n d.elements ≡ o → ◌≡◌ {A = Option EditRefusal} (when (is_none o) (NoSuchName n)) None → list_all is_grounded (without_name n d.elements) ≡ true
    by None at bad = absurd (cc)
    by (Some x) at ok = (fits_removed d n x (fits d valid) at).grounded

pub returns-in_err-find-clause-cause : goal.returns-in_err-find-clause-cause
unfolding edit_cause place_cause
returns-in_err-find-clause-cause c =
    let e = c.in_err-find.field-0.0 in
    handed_on c.from_residual.result e _ c.from_residual.ensures.1 (refuses_first e _ _ (subst (Refuses e) (sym (ap (place_cause c.args.kept.now) c.requires)) c.in_err-find.ensures.cause))

pub remake-requires-clause-place : goal.remake-requires-clause-place
unfolding place_cause
remake-requires-clause-place c = ap (place_cause c.args.kept.now) c.requires ∙ c.in_ok-find.ensures.cause

pub remake-requires-clause-elements : goal.remake-requires-clause-elements
unfolding edited
remake-requires-clause-elements c =
    let d = c.args.kept.now in
    ap (edited d) c.requires ∙ ap (elements_to d) (sym (c.in_ok-elements.ensures ∙ ap (without_name c.args.name.now) c.elements.ensures))

pub remake-requires-clause-grounded : goal.remake-requires-clause-grounded
remake-requires-clause-grounded c =
    ap (list_all is_grounded) (c.in_ok-elements.ensures ∙ ap (without_name c.args.name.now) c.elements.ensures) ∙ grounded c.args.kept.now c.args.name.now c.known.ensures c.in_ok-find.ensures.cause
