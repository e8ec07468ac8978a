-- The voltages so far are those of the nodes so far.
use Rattle.std.proofs.Common.{◌≡◌, map, take}
use Rattle.semantics.specs.Deck.{nodes}
use Rattle.semantics.specs.Run.{run}
use Rattle.circuit_model.proofs.volts.first_volts.Given as goal

abbrev pub invariant-loop-node : goal.invariant-loop-node
invariant-loop-node l = l.volts.items ≡ map (run l.deck 0) (take l.node (nodes l.deck))
