use Rattle.std.proofs.Common.{◌≡◌, ◌∙◌, [], fold, Option, None, Result, Ok, Err, ap, subst, sym}
use Rattle.std.specs.Option.{option_or}
use Rattle.std.specs.Result.{OnOk}
use Rattle.semantics.specs.Deck.{DeckValue, nodes}
use Rattle.deck_cards.specs.declared.edit.Edit.{Edit}
use Rattle.deck_cards.specs.declared.edit_refusal.EditRefusal.{EditRefusal}
use Rattle.deck_cards.specs.Answers.{Answers, Refuses}
use Rattle.deck_cards.specs.Causes.{free_cause, size_cause, whole_with}
use Rattle.deck_cards.specs.Edits.{edit_cause, edit_limit, edited, place_cause}
use Rattle.deck_cards.proofs.Accepted.{stays_valid}
use Rattle.deck_cards.proofs.Firsts.{handed_on, refuses_first, refuses_next, answers_next}
use Rattle.deck_cards.proofs.Whole.{whole_is}
use Rattle.deck_cards.proofs.apply.check_remade.Goals as goal

cause_is : (d : DeckValue) (e : Edit) → place_cause d e ≡ None → edit_cause d e ≡ option_or (free_cause (edited d e)) (option_or (edit_limit e) (size_cause (edited d e)))
unfolding edit_cause
cause_is d e none = (λ i. option_or (none i) (whole_with (edit_limit e) (edited d e))) ∙ whole_is (edited d e) (edit_limit e)

on_ok : {A P : Type 0} (r : Result A EditRefusal) (o : Option EditRefusal) → Answers r o → (o ≡ None → P) → OnOk r P
on_ok (Ok x) o h f = f h
on_ok (Err e) o h f = tt

pub returns-in_err-check_free-clause-cause : goal.returns-in_err-check_free-clause-cause
returns-in_err-check_free-clause-cause c =
    let d = c.args.kept.now in
    let new = edited d c.args.edit.now in
    let is = sym c.requires.elements in
    let e = c.in_err-check_free.field-0.0 in
    let r = c.from_residual.result in
    subst (Answers r) (sym (cause_is d c.args.edit.now c.requires.place))
    (handed_on r e _ c.from_residual.ensures.1 (refuses_first e _ _ (c.in_err-check_free.ensures new c.requires.table (c.frame.ensures.uic ∙ ap (λ x. x.uic) is) (c.voltages.ensures ∙ ap (λ x. x.initial) is))))

pub returns-in_err-check_limit-clause-cause : goal.returns-in_err-check_limit-clause-cause
returns-in_err-check_limit-clause-cause c =
    let d = c.args.kept.now in
    let new = edited d c.args.edit.now in
    let is = sym c.requires.elements in
    let e = c.in_err-check_limit.field-0.0 in
    let r = c.from_residual-in_err-check_limit.result in
    subst (Answers r) (sym (cause_is d c.args.edit.now c.requires.place))
    (handed_on r e _ c.from_residual-in_err-check_limit.ensures.1 (refuses_next e _ _ (c.in_ok-check_free.ensures new c.requires.table (c.frame.ensures.uic ∙ ap (λ x. x.uic) is) (c.voltages.ensures ∙ ap (λ x. x.initial) is))
    (refuses_first e _ _ c.in_err-check_limit.ensures)))

pub check_sizes-requires : goal.check_sizes-requires
unfolding nodes
check_sizes-requires c = c.requires.table.names ∙ ap nodes c.requires.elements

pub returns-clause-cause : goal.returns-clause-cause
returns-clause-cause c =
    let d = c.args.kept.now in
    let new = edited d c.args.edit.now in
    let is = sym c.requires.elements in
    let r = c.check_sizes.result in
    subst (Answers r) (sym (cause_is d c.args.edit.now c.requires.place))
    (answers_next r _ _ (c.in_ok-check_free.ensures new c.requires.table (c.frame.ensures.uic ∙ ap (λ x. x.uic) is) (c.voltages.ensures ∙ ap (λ x. x.initial) is))
    (answers_next r _ _ c.in_ok-check_limit.ensures (c.check_sizes.ensures new c.requires.table (ap (λ x. x.elements) is))))

pub returns-clause-valid : goal.returns-clause-valid
returns-clause-valid c = on_ok c.check_sizes.result _ (returns-clause-cause c) (stays_valid c.args.kept.now c.args.edit.now c.frame.ensures.valid c.rising.ensures)
