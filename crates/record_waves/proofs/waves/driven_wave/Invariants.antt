-- The lines so far are those that begin up to the tick.
use Rattle.std.proofs.Common.{◌≡◌, ◌<◌, ◌-◌, suc, max}
use Rattle.semantics.specs.Wave.{entries_below}
use Rattle.circuit_model.specs.Numbers.{name_at}
use Rattle.record_waves.proofs.waves.driven_wave.Given as goal

abbrev pub invariant-loop-turn : goal.invariant-loop-turn
invariant-loop-turn l = record {
  inside : l.tick < max 1 l.circuit.deck.stop;
  lines : l.lines.items ≡ entries_below l.circuit.deck (suc l.tick) (name_at l.circuit l.node);
}

abbrev pub decreases-loop-turn : goal.decreases-loop-turn
decreases-loop-turn l = max 1 l.circuit.deck.stop - l.tick
