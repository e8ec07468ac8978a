use Rattle.std.proofs.Common.{◌≡◌, [], drop}
use Rattle.deck_cards.specs.Causes.{many_nodes_from}
use Rattle.deck_cards.proofs.counts.check_nodes.Given as goal

abbrev pub invariant-loop-element : goal.invariant-loop-element
invariant-loop-element l = many_nodes_from [] l.elements ≡ many_nodes_from l.names.keys (drop l.element-index l.elements)
