use Rattle.std.proofs.Common.{◌∙◌, [], fold, ap, refl, subst, sym}
use Rattle.std.specs.List.{flat_map}
use Rattle.semantics.specs.Deck.{nodes, ends_of, with_node}
use Rattle.deck_cards.specs.Answers.{Answers}
use Rattle.deck_cards.specs.Cards.{deck_of}
use Rattle.deck_cards.specs.Causes.{value_limit, whole_cause}
use Rattle.deck_cards.proofs.Firsts.{handed_on, refuses_first, refuses_next, answers_next}
use Rattle.deck_cards.proofs.Whole.{whole_is}
use Rattle.deck_cards.proofs.deck.check_whole.Goals as goal

pub returns-in_err-check_free-clause-cause : goal.returns-in_err-check_free-clause-cause
unfolding whole_cause
returns-in_err-check_free-clause-cause c =
    let d = deck_of c.args.cards.now in
    let e = c.in_err-check_free.field-0.0 in
    let r = c.from_residual.result in
    subst (Answers r) (sym (whole_is d (value_limit d))) (handed_on r e _ c.from_residual.ensures.1 (refuses_first e _ _ (c.in_err-check_free.ensures d c.requires refl refl)))

pub returns-in_err-check_values-clause-cause : goal.returns-in_err-check_values-clause-cause
unfolding whole_cause
returns-in_err-check_values-clause-cause c =
    let d = deck_of c.args.cards.now in
    let e = c.in_err-check_values.field-0.0 in
    let r = c.from_residual-in_err-check_values.result in
    subst (Answers r) (sym (whole_is d (value_limit d))) (handed_on r e _ c.from_residual-in_err-check_values.ensures.1
    (refuses_next e _ _ (c.in_ok-check_free.ensures d c.requires refl refl) (refuses_first e _ _ c.in_err-check_values.ensures.cause)))

pub check_sizes-requires : goal.check_sizes-requires
unfolding nodes
check_sizes-requires c = c.requires.names ∙ ap (λ es. fold with_node [] (flat_map ends_of es)) (sym c.deref.ensures.value)

pub returns-clause-cause : goal.returns-clause-cause
unfolding whole_cause
returns-clause-cause c =
    let d = deck_of c.args.cards.now in
    let r = c.check_sizes.result in
    subst (Answers r) (sym (whole_is d (value_limit d)))
    (answers_next r _ _ (c.in_ok-check_free.ensures d c.requires refl refl) (answers_next r _ _ c.in_ok-check_values.ensures.cause (c.check_sizes.ensures d c.requires c.deref.ensures.value)))
