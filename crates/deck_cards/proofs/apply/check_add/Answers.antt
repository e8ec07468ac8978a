use Rattle.std.proofs.Common.{subst, sym}
use Rattle.std.specs.Option.{option_map}
use Rattle.semantics.specs.Valid.{driven_of}
use Rattle.deck_cards.specs.declared.edit_refusal.EditRefusal.TheVariants.{TwoDrivers}
use Rattle.deck_cards.specs.Answers.{Answers}
use Rattle.deck_cards.specs.Causes.{first_that, is_driven, add_cause}
use Rattle.deck_cards.proofs.Firsts.{handed_on, refuses_first, refuses_next, answers_next, or_none}
use Rattle.deck_cards.proofs.apply.check_add.Goals as goal

pub returns-in_err-check_name-clause-cause : goal.returns-in_err-check_name-clause-cause
unfolding add_cause
returns-in_err-check_name-clause-cause c =
    let e = c.in_err-check_name.field-0.0 in
    handed_on c.from_residual.result e _ c.from_residual.ensures.1 (refuses_first e _ _ c.in_err-check_name.ensures)

pub returns-in_err-check_part-clause-cause : goal.returns-in_err-check_part-clause-cause
unfolding add_cause
returns-in_err-check_part-clause-cause c =
    let e = c.in_err-check_part.field-0.0 in
    handed_on c.from_residual-in_err-check_part.result e _ c.from_residual-in_err-check_part.ensures.1
    (refuses_next e _ _ c.in_ok-check_name.ensures (refuses_first e _ _ (c.in_err-check_part.ensures c.args.kept.now c.parts.ensures)))

pub returns-in_err-check_grounded-clause-cause : goal.returns-in_err-check_grounded-clause-cause
unfolding add_cause
returns-in_err-check_grounded-clause-cause c =
    let e = c.in_err-check_grounded.field-0.0 in
    handed_on c.from_residual-in_err-check_grounded.result e _ c.from_residual-in_err-check_grounded.ensures.1
    (refuses_next e _ _ c.in_ok-check_name.ensures (refuses_next e _ _ (c.in_ok-check_part.ensures c.args.kept.now c.parts.ensures) (refuses_first e _ _ c.in_err-check_grounded.ensures)))

pub returns-clause-cause : goal.returns-clause-cause
unfolding add_cause
returns-clause-cause c =
    let r = c.check_driver.result in
    answers_next r _ _ c.in_ok-check_name.ensures (answers_next r _ _ (c.in_ok-check_part.ensures c.args.kept.now c.parts.ensures) (answers_next r _ _ c.in_ok-check_grounded.ensures
    (subst (Answers r) (sym (or_none (option_map TwoDrivers (first_that (is_driven c.args.kept.now.elements) (driven_of c.args.element.now))))) c.check_driver.ensures)))
