use Rattle.std.proofs.Common.{◌≡◌, [], take, fold}
use Rattle.std.specs.List.{flat_map}
use Rattle.semantics.specs.Deck.{ends_of, with_node}
use Rattle.deck_cards.proofs.nodes.names_of.Given as goal

abbrev pub invariant-loop-element : goal.invariant-loop-element
invariant-loop-element l = l.names.keys ≡ fold with_node [] (flat_map ends_of (take l.element-index l.elements))
