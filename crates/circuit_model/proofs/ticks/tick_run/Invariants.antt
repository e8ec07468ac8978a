-- The run is at the tick.
use Rattle.circuit_model.specs.State.{IsAt}
use Rattle.circuit_model.proofs.ticks.tick_run.Given as goal

abbrev pub invariant-loop-tick : goal.invariant-loop-tick
invariant-loop-tick l = IsAt l.deck l.tick l.ticks
