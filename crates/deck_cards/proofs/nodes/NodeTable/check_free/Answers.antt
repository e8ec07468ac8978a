use Rattle.std.proofs.Common.{subst, sym}
use Rattle.deck_cards.specs.Answers.{Answers}
use Rattle.deck_cards.specs.Causes.{free_cause, no_initial}
use Rattle.deck_cards.proofs.Firsts.{handed_on, refuses_first, answers_next, or_none}
use Rattle.deck_cards.proofs.nodes.NodeTable.check_free.Goals as goal

pub returns-in_err-check_capped : goal.returns-in_err-check_capped
unfolding free_cause
returns-in_err-check_capped c d table same given =
    let e = c.in_err-check_capped.field-0.0 in
    handed_on c.from_residual.result e _ c.from_residual.ensures.1 (refuses_first e _ _ (c.in_err-check_capped.ensures d table))

pub returns : goal.returns
unfolding free_cause
returns c d table same given =
    let r = c.check_initial.result in
    answers_next r _ _ (c.in_ok-check_capped.ensures d table) (subst (Answers r) (sym (or_none (no_initial d))) (c.check_initial.ensures d table same given))
