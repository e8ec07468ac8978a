-- The places so far are those of the names so far.
use Rattle.std.proofs.Common.{◌≡◌, map, take}
use Rattle.semantics.specs.Deck.{nodes}
use Rattle.circuit_model.specs.Ends.{number}
use Rattle.circuit_model.proofs.circuit.places_of.Given as goal

abbrev pub invariant-loop-node : goal.invariant-loop-node
invariant-loop-node l = l.places.items ≡ map (number (nodes l.deck)) (take l.node l.names)
