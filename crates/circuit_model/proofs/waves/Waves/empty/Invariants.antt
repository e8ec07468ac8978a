-- Each turn has added one wave without lines.
use Rattle.std.proofs.Common.{◌≡◌, [], replicate}
use Rattle.circuit_model.proofs.waves.Waves.empty.Given as goal

abbrev pub invariant-loop : goal.invariant-loop
invariant-loop l = l.waves.items ≡ replicate l.counter []
