-- The lines of the numbers so far.
use Rattle.std.proofs.Common.{◌≡◌, length}
use Rattle.window_run.specs.Intake.{AreFirst}
use Rattle.window_run.proofs.intake.first_lines.Given as goal

abbrev pub invariant-loop-node : goal.invariant-loop-node
invariant-loop-node l = record {
  count : length l.lines.items ≡ l.node;
  first : AreFirst l.circuit l.past l.from l.lines.items;
}
