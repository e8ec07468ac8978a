-- The devices up to here are in their cells, the others still in their old ones, and what they change is still to be noted.
use Rattle.std.proofs.Common.{◌≡◌, ◌++◌, ◌+◌, ℕ, ◌≤◌, map, take, drop, get_or}
use Rattle.circuit_model.specs.Ends.{volts_at}
use Rattle.circuit_model.specs.Wiring.{device_cells, changes}
use Rattle.circuit_model.proofs.network.Network.enter_cells.Given as goal

abbrev pub invariant-loop-k : goal.invariant-loop-k
invariant-loop-k l = record {
  done : take l.k l.cells ≡ map (device_cells l.self.grain (volts_at l.volts)) (take l.k l.devices);
  rest : (j : ℕ) → l.k ≤ j → get_or l.cells j (0, 0) ≡ get_or l.initial.cells j (0, 0);
  noted : l.events ++ changes l.self.grain (l.tick + 1) (volts_at l.volts) (drop l.k l.devices) (drop l.k l.initial.cells) ≡ l.initial.events ++ changes l.self.grain (l.tick + 1) (volts_at l.volts) l.devices l.initial.cells;
}
