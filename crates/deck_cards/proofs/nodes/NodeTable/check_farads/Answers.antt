use Rattle.std.proofs.Common.{◌∙◌, ap, sym}
use Rattle.std.specs.List.{position}
use Rattle.std.specs.Option.{option_map}
use Rattle.deck_cards.specs.declared.edit_refusal.EditRefusal.TheVariants.{Limit}
use Rattle.deck_cards.specs.declared.which.Which.TheVariants.{NodeFarads}
use Rattle.deck_cards.proofs.FreeNodes.{node_farads_is}
use Rattle.deck_cards.proofs.nodes.NodeTable.check_farads.Goals as goal

pub returns-in-None : goal.returns-in-None
returns-in-None c = λ d table.
    let is = node_farads_is d c.args.self.now.names.keys c.args.self.now.facts.items c.first_over_capped.result table (c.first_over_capped.ensures ∙ ap (position _) c.deref.ensures.value) in
    sym is ∙ ap (option_map (Limit NodeFarads)) (sym c.in_ok-named.ensures ∙ c.in-None.is)

pub returns-in-Some : goal.returns-in-Some
returns-in-Some c = λ d table.
    let is = node_farads_is d c.args.self.now.names.keys c.args.self.now.facts.items c.first_over_capped.result table (c.first_over_capped.ensures ∙ ap (position _) c.deref.ensures.value) in
    sym is ∙ ap (option_map (Limit NodeFarads)) (sym c.in_ok-named.ensures ∙ c.in-Some.is)
