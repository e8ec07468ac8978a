use Rattle.std.proofs.Common.{◌∙◌, ap, sym}
use Rattle.std.specs.List.{position, zip}
use Rattle.std.specs.Option.{option_map}
use Rattle.deck_cards.specs.declared.edit_refusal.EditRefusal.TheVariants.{NoInitial}
use Rattle.deck_cards.proofs.FreeNodes.{no_initial_is}
use Rattle.deck_cards.proofs.nodes.NodeTable.check_initial.Goals as goal

pub returns-in-None : goal.returns-in-None
returns-in-None c = λ d table same given.
    let is = no_initial_is d c.args.self.now.names.keys c.args.self.now.facts.items c.first_without_voltage-place.result table c.args.uic c.args.initial.now.entries same given (c.first_without_voltage-place.ensures.place ∙ ap (position _) (λ i. zip (c.deref.ensures.value i) (c.as_slice-names.ensures.keys i))) in
    sym is ∙ ap (option_map NoInitial) (sym c.in_ok-named.ensures ∙ c.in-None.is)

pub returns-in-Some : goal.returns-in-Some
returns-in-Some c = λ d table same given.
    let is = no_initial_is d c.args.self.now.names.keys c.args.self.now.facts.items c.first_without_voltage-place.result table c.args.uic c.args.initial.now.entries same given (c.first_without_voltage-place.ensures.place ∙ ap (position _) (λ i. zip (c.deref.ensures.value i) (c.as_slice-names.ensures.keys i))) in
    sym is ∙ ap (option_map NoInitial) (sym c.in_ok-named.ensures ∙ c.in-Some.is)
