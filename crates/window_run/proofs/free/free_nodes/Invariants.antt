-- The free numbers so far.
use Rattle.std.proofs.Common.{◌≡◌}
use Rattle.window_run.proofs.FreeNumbers.{free_below}
use Rattle.window_run.proofs.free.free_nodes.Given as goal

abbrev pub invariant-loop-node : goal.invariant-loop-node
invariant-loop-node l = l.nodes.items ≡ free_below l.circuit l.node
