-- The nodes up to here have their rates, and the others what flows into them.
use Rattle.std.proofs.Common.{◌≡◌, ℕ, ◌<◌, ◌≤◌, [], get_or, length, pos}
use Rattle.semantics.specs.Deck.{nodes}
use Rattle.semantics.specs.Wave.{rate}
use Rattle.circuit_model.specs.Wiring.{devices_of, inflows}
use Rattle.circuit_model.proofs.network.Network.find_rates.Given as goal

abbrev pub invariant-loop-node : goal.invariant-loop-node
invariant-loop-node l = record {
  done : (i : ℕ) → i < l.node → get_or l.rates i (pos 0) ≡ rate l.self l.tick (get_or (nodes l.self) i []);
  rest : (i : ℕ) → l.node ≤ i → i < length (nodes l.self) → get_or l.rates i (pos 0) ≡ inflows l.self.grain i (devices_of l.self (nodes l.self)) l.cells;
}
