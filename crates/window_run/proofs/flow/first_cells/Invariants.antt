-- The devices before this one are in their cells, and flow so.
use Rattle.std.proofs.Common.{◌≡◌, ◌<◌, ℕ, get_or, length, pos}
use Rattle.window_run.specs.Net.{inflows}
use Rattle.window_run.specs.Stage.{cell_of, no_cells}
use Rattle.window_run.specs.Circuit.{net_of}
use Rattle.window_run.proofs.flow.first_cells.Given as goal

abbrev pub invariant-loop-device : goal.invariant-loop-device
invariant-loop-device l = record {
  count_cells : length l.cells.items ≡ l.device;
  count_amps : length l.amps.items ≡ l.device;
  cells : (k : ℕ) → k < l.device → get_or l.cells.items k no_cells ≡ cell_of (net_of l.circuit) l.lines l.now k;
  amps : (k : ℕ) → k < l.device → get_or l.amps.items k (pos 0) ≡ (net_of l.circuit).amps k (get_or l.cells.items k no_cells);
  rates : (i : ℕ) → i < (net_of l.circuit).nodes → get_or l.rates i (pos 0) ≡ inflows (net_of l.circuit) i (λ k. get_or l.amps.items k (pos 0)) l.device;
}
