-- Up to this point the line goes on.
use Rattle.circuit_model.proofs.Turns.{GoesOn}
use Rattle.circuit_model.proofs.source.next_turn.Given as goal

abbrev pub invariant-loop-place : goal.invariant-loop-place
invariant-loop-place l = GoesOn l.wave l.tick l.place
