-- The nodes below this one are at the next tick, and the others not yet.
use Rattle.std.proofs.Common.{◌≡◌, ◌+◌, ◌<◌, ◌≤◌, ℕ, [], length, get_or}
use Rattle.semantics.specs.Deck.{nodes}
use Rattle.semantics.specs.Run.{run}
use Rattle.circuit_model.specs.Ends.{no_volts}
use Rattle.circuit_model.proofs.volts.advance.Given as goal

abbrev pub invariant-loop-node : goal.invariant-loop-node
invariant-loop-node l = record {
  done : (i : ℕ) → i < l.node → get_or l.volts i no_volts ≡ run l.deck (l.tick + 1) (get_or (nodes l.deck) i []);
  rest : (i : ℕ) → l.node ≤ i → i < length (nodes l.deck) → get_or l.volts i no_volts ≡ run l.deck l.tick (get_or (nodes l.deck) i []);
}
