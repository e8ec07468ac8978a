-- The nodes before this one that are driven.
use Rattle.std.proofs.Common.{◌≡◌, ◌<◌, ℕ, true}
use Rattle.std.specs.Prelude.{Contains}
use Rattle.window_run.specs.Circuit.{net_of}
use Rattle.window_run.proofs.open.driven_nodes.Given as goal

abbrev pub invariant-loop-node : goal.invariant-loop-node
invariant-loop-node l = record {
  driven : (i : ℕ) → Contains l.nodes.items i → (i < (net_of l.circuit).nodes) × ((net_of l.circuit).driven i ≡ true);
  all : (i : ℕ) → i < l.node → (net_of l.circuit).driven i ≡ true → Contains l.nodes.items i;
}
