use Rattle.std.proofs.Common.{◌≡◌, ◌∙◌, ◌<◌, None, Some, length, slice_get, option_and_then, is_none, false, ap, subst, sym}
use Rattle.std.proofs.lemmas.List.{length-map}
use Rattle.semantics.specs.Deck.{name_of}
use Rattle.deck_cards.specs.declared.edit_refusal.EditRefusal.TheVariants.{NoSuchName}
use Rattle.deck_cards.specs.Causes.{when}
use Rattle.deck_cards.specs.Edits.{named}
use Rattle.deck_cards.proofs.Finding.{named_by, there}
use Rattle.deck_cards.proofs.apply.find.Goals as goal

pub returns-in_ok-copy-in-None-clause-cause : goal.returns-in_ok-copy-in-None-clause-cause
returns-in_ok-copy-in-None-clause-cause c =
    let es = c.args.kept.now.elements in
    let n = c.args.name.now in
    let none = named_by n es c.element_names.result.now.keys c.get_index_of.result c.get_index_of.ensures.index c.element_names.ensures ∙ ap (option_and_then (slice_get es)) c.in-None.is in
    (λ i. when (is_none (none i)) (NoSuchName n)) ∙ ap (λ m. Some (NoSuchName m)) (sym c.in_ok-copy-in-None.ensures)

pub returns-in-Some-clause-found : goal.returns-in-Some-clause-found
returns-in-Some-clause-found c =
    let es = c.args.kept.now.elements in
    sym (named_by c.args.name.now es c.element_names.result.now.keys c.get_index_of.result c.get_index_of.ensures.index c.element_names.ensures ∙ ap (option_and_then (slice_get es)) c.in-Some.is)

pub returns-in-Some-clause-cause : goal.returns-in-Some-clause-cause
returns-in-Some-clause-cause c =
    let es = c.args.kept.now.elements in
    let within = subst (λ k. c.in-Some.place < k) (ap length c.element_names.ensures ∙ length-map es name_of) c.in-Some.ensures.within in
    let some = ap is_none (sym (returns-in-Some-clause-found c)) ∙ there es c.in-Some.place within in
    λ i. when (some i) (NoSuchName c.args.name.now)
