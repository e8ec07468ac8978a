-- The nodes so far have begun.
use Rattle.std.proofs.Common.{◌≡◌}
use Rattle.scratch_run.specs.Starts.{HasFirst}
use Rattle.scratch_run.proofs.starts.started.Given as goal

abbrev pub invariant-loop-node : goal.invariant-loop-node
invariant-loop-node l = record {
  stop : l.past.stop ≡ l.circuit.deck.stop;
  first : HasFirst l.circuit l.past l.node;
}
