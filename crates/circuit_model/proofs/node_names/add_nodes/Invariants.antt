-- The nodes so far are put behind the names.
use Rattle.std.proofs.Common.{◌≡◌, fold, take}
use Rattle.semantics.specs.Deck.{nodes, with_node}
use Rattle.circuit_model.proofs.node_names.add_nodes.Given as goal

abbrev pub invariant-loop-i : goal.invariant-loop-i
invariant-loop-i l = l.names.keys ≡ fold with_node l.initial.names.keys (take l.i (nodes l.deck))
