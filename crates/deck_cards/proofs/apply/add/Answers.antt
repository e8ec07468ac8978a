use Rattle.std.proofs.Common.{◌≡◌, ◌∙◌, [], ◌∷◌, ◌++◌, true, ap, subst, sym}
use Rattle.std.specs.List.{list_all}
use Rattle.semantics.specs.Valid.{is_grounded}
use Rattle.deck_cards.specs.Answers.{Refuses}
use Rattle.deck_cards.specs.Edits.{edit_cause, edited, place_cause}
use Rattle.deck_cards.proofs.Accepted.{all_more, fits}
use Rattle.deck_cards.proofs.Firsts.{handed_on, refuses_first}
use Rattle.deck_cards.proofs.Standing.{elements_to}
use Rattle.deck_cards.proofs.apply.add.Goals as goal

pub returns-in_err-check_add-clause-cause : goal.returns-in_err-check_add-clause-cause
unfolding edit_cause place_cause
returns-in_err-check_add-clause-cause c =
    let e = c.in_err-check_add.field-0.0 in
    handed_on c.from_residual.result e _ c.from_residual.ensures.1 (refuses_first e _ _ (subst (Refuses e) (sym (ap (place_cause c.args.kept.now) c.requires)) c.in_err-check_add.ensures.cause))

pub remake-requires-clause-place : goal.remake-requires-clause-place
unfolding place_cause
remake-requires-clause-place c = ap (place_cause c.args.kept.now) c.requires ∙ c.in_ok-check_add.ensures.cause

pub remake-requires-clause-elements : goal.remake-requires-clause-elements
unfolding edited
remake-requires-clause-elements c =
    let d = c.args.kept.now in
    ap (edited d) c.requires ∙ ap (elements_to d) (sym (c.in_ok-elements.ensures ∙ ap (λ es. es ++ c.args.element.now ∷ []) c.elements.ensures))

pub remake-requires-clause-grounded : goal.remake-requires-clause-grounded
remake-requires-clause-grounded c =
    let d = c.args.kept.now in
    ap (list_all is_grounded) (c.in_ok-elements.ensures ∙ ap (λ es. es ++ c.args.element.now ∷ []) c.elements.ensures)
    ∙ all_more is_grounded d.elements c.args.element.now (fits d c.known.ensures).grounded c.in_ok-check_add.ensures.grounded
