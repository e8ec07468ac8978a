use Rattle.std.proofs.Common.{◌∙◌, [], map, ap, refl, sym}
use Rattle.std.specs.List.{position, zip, flat_map}
use Rattle.std.specs.Option.{option_map}
use Rattle.deck_cards.specs.declared.edit_refusal.EditRefusal.TheVariants.{Limit}
use Rattle.deck_cards.specs.declared.which.Which.TheVariants.{Terminals}
use Rattle.deck_cards.specs.Facts.{terminals_of}
use Rattle.deck_cards.proofs.FreeNodes.{many_terminals_is}
use Rattle.deck_cards.proofs.nodes.NodeTable.check_terminals.Goals as goal

pub returns-in-None : goal.returns-in-None
returns-in-None c d table same =
    let t = c.args.self.now in
    let counts = c.in_ok-counts.ensures ∙ ap (λ es. map (λ n. terminals_of n es) t.names.keys) same in
    let place = c.first_crowded.ensures.place ∙ ap (position _) (λ i. zip (c.deref.ensures.value i) (c.deref-2.ensures.value i)) in
    let is = many_terminals_is d t.names.keys t.facts.items c.first_crowded.result table c.in_ok-counts.counts.items counts place in
    sym is ∙ ap (option_map (Limit Terminals)) (sym c.in_ok-named.ensures ∙ c.in-None.is)

pub returns : goal.returns
returns c d table same =
    let t = c.args.self.now in
    let counts = c.in_ok-counts.ensures ∙ ap (λ es. map (λ n. terminals_of n es) t.names.keys) same in
    let place = c.first_crowded.ensures.place ∙ ap (position _) (λ i. zip (c.deref.ensures.value i) (c.deref-2.ensures.value i)) in
    let is = many_terminals_is d t.names.keys t.facts.items c.first_crowded.result table c.in_ok-counts.counts.items counts place in
    sym is ∙ ap (option_map (Limit Terminals)) (sym c.in_ok-named.ensures ∙ c.in-Some.is)
