-- The waves of the nodes below this one have the line, and the others not yet.
use Rattle.std.proofs.Common.{◌≡◌, ℕ, ◌<◌, ◌≤◌, [], length, get_or}
use Rattle.circuit_model.specs.Lines.{continued, line_of}
use Rattle.circuit_model.proofs.ticks.add_lines.Given as goal

abbrev pub invariant-loop-node : goal.invariant-loop-node
invariant-loop-node l = record {
  count : length l.waves ≡ length l.initial.waves;
  done : (i : ℕ) → i < l.node → get_or l.waves i [] ≡ continued (get_or l.initial.waves i []) (line_of l.tick l.volts l.rates i);
  rest : (i : ℕ) → l.node ≤ i → get_or l.waves i [] ≡ get_or l.initial.waves i [];
}
