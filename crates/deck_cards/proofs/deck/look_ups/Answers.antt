use Rattle.std.proofs.Common.{◌≡◌, [], true, refl, subst, sym}
use Rattle.std.specs.List.{list_all}
use Rattle.std.specs.Option.{option_or}
use Rattle.semantics.specs.Valid.{is_grounded}
use Rattle.deck_cards.specs.Cards.{deck_of}
use Rattle.deck_cards.specs.Causes.{deck_cause}
use Rattle.deck_cards.proofs.Added.{can_add}
use Rattle.deck_cards.proofs.Firsts.{handed_on, refuses_first, refuses_next}
use Rattle.deck_cards.proofs.deck.look_ups.Goals as goal

pub returns-in_err-names-clause-cause : goal.returns-in_err-names-clause-cause
unfolding deck_cause
returns-in_err-names-clause-cause c =
    let e = c.in_err-names.field-0.0 in
    handed_on c.from_residual.result e (deck_cause (deck_of c.args.cards.now)) c.from_residual.ensures.1 (refuses_first e _ _ c.in_err-names.ensures.cause)

pub returns-in_err-check_whole-clause-cause : goal.returns-in_err-check_whole-clause-cause
unfolding deck_cause
returns-in_err-check_whole-clause-cause c =
    let e = c.in_err-check_whole.field-0.0 in
    handed_on c.from_residual-in_err-check_whole.result e (deck_cause (deck_of c.args.cards.now)) c.from_residual-in_err-check_whole.ensures.1
    (refuses_next e _ _ c.in_ok-names.ensures.cause c.in_err-check_whole.ensures.cause)

pub of-requires : goal.of-requires
of-requires c = subst (λ es. list_all is_grounded es ≡ true) (sym c.deref.ensures.value) (can_add (deck_of c.args.cards.now) [] c.args.cards.now.elements.items c.in_ok-names.ensures.cause refl refl).grounded

pub returns-clause-cause : goal.returns-clause-cause
unfolding deck_cause
returns-clause-cause c = λ i. option_or (c.in_ok-names.ensures.cause i) (c.in_ok-check_whole.ensures.cause i)
