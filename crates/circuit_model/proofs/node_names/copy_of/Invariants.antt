-- The names so far are copied.
use Rattle.std.proofs.Common.{◌≡◌, [], fold, take}
use Rattle.semantics.specs.Deck.{with_node}
use Rattle.circuit_model.proofs.node_names.copy_of.Given as goal

abbrev pub invariant-loop-name : goal.invariant-loop-name
invariant-loop-name l = l.copy.keys ≡ fold with_node [] (take l.name-index l.names.keys)
