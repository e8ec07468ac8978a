use Rattle.std.proofs.Common.{◌∙◌, ap, refl, [], map, fold}
use Rattle.std.specs.List.{flat_map}
use Rattle.semantics.specs.Deck.{nodes, ends_of, with_node}
use Rattle.semantics.specs.Valid.{differ}
use Rattle.deck_cards.specs.Facts.{known}
use Rattle.deck_cards.proofs.Differ.{differ-nodes}
use Rattle.deck_cards.proofs.nodes.NodeTable.of.Goals as goal

pub facts_of-requires-clause-differ : goal.facts_of-requires-clause-differ
facts_of-requires-clause-differ c = ap differ c.in_ok-names.ensures ∙ differ-nodes (flat_map ends_of c.args.elements.now) [] refl

pub returns : goal.returns
unfolding nodes
returns c d same =
    let names = c.in_ok-names.ensures ∙ ap (λ l. fold with_node [] (flat_map ends_of l)) same in
    record { names = names; facts = c.in_ok-facts.ensures ∙ (λ i. map (known (same i)) (names i)) }
