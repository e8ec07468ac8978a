use Rattle.std.proofs.Common.{◌∙◌, Some, get_or, ap, subst, sym}
use Rattle.std.proofs.lemmas.Option.{slice_get-get_or}
use Rattle.deck_cards.specs.Answers.{Refuses}
use Rattle.deck_cards.specs.Edits.{edit_cause}
use Rattle.deck_cards.proofs.AtNode.{missing}
use Rattle.deck_cards.proofs.Firsts.{handed_on}
use Rattle.deck_cards.proofs.apply.set_farads.Goals as goal

pub returns-in_err-place-clause-cause : goal.returns-in_err-place-clause-cause
returns-in_err-place-clause-cause c =
    let d = c.args.kept.now in
    let e = c.in_err-place.field-0.0 in
    handed_on c.from_residual.result e _ c.from_residual.ensures.1
    (subst (Refuses e) (sym (ap (edit_cause d) c.requires)) (missing d c.args.name.now c.args.farads e c.in_err-place.ensures.cause))

pub set_capacitor-requires-clause-named : goal.set_capacitor-requires-clause-named
set_capacitor-requires-clause-named c =
    let i = c.in_ok-place.place in
    let x = c.index-elements-place.result in
    sym c.in_ok-place.ensures.found ∙ slice_get-get_or c.args.kept.now.elements i x c.in_ok-place.ensures.within
    ∙ ap Some (sym (c.index-elements-place.is ∙ ap (λ l. get_or l i x) c.elements.ensures))
