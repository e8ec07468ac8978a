use Rattle.std.proofs.Common.{◌∙◌, ap, sym}
use Rattle.std.specs.List.{position}
use Rattle.std.specs.Option.{option_map}
use Rattle.deck_cards.specs.declared.edit_refusal.EditRefusal.TheVariants.{Uncapped}
use Rattle.deck_cards.proofs.FreeNodes.{uncapped_is}
use Rattle.deck_cards.proofs.nodes.NodeTable.check_capped.Goals as goal

pub returns-in-None : goal.returns-in-None
returns-in-None c = λ d table.
    let is = uncapped_is d c.args.self.now.names.keys c.args.self.now.facts.items c.first_uncapped.result table (c.first_uncapped.ensures ∙ ap (position _) c.deref.ensures.value) in
    sym is ∙ ap (option_map Uncapped) (sym c.in_ok-named.ensures ∙ c.in-None.is)

pub returns-in-Some : goal.returns-in-Some
returns-in-Some c = λ d table.
    let is = uncapped_is d c.args.self.now.names.keys c.args.self.now.facts.items c.first_uncapped.result table (c.first_uncapped.ensures ∙ ap (position _) c.deref.ensures.value) in
    sym is ∙ ap (option_map Uncapped) (sym c.in_ok-named.ensures ∙ c.in-Some.is)
