-- What flowed so far, with what is still to flow, is the whole; and it is small.
use Rattle.std.proofs.Common.{◌≡◌, ℕ, ◌<◌, ◌≤◌, ◌*◌, ◌^◌, ◌+ℤ◌, get_or, drop, length, pos}
use Rattle.std.specs.Prelude.{unsigned_abs}
use Rattle.semantics.specs.Deck.{nodes}
use Rattle.circuit_model.specs.Wiring.{inflows}
use Rattle.circuit_model.proofs.network.Network.find_currents.Given as goal

abbrev pub invariant-loop-k : goal.invariant-loop-k
invariant-loop-k l = record {
  flows : (i : ℕ) → i < length (nodes l.self) → get_or l.rates i (pos 0) +ℤ inflows l.self.grain i (drop l.k l.devices) (drop l.k l.cells) ≡ inflows l.self.grain i l.devices l.cells;
  small : (i : ℕ) → unsigned_abs (get_or l.rates i (pos 0)) ≤ 2 * 10 ^ 12 * l.k;
}
