-- Each turn has added one node without devices.
use Rattle.std.proofs.Common.{◌≡◌, [], replicate}
use Rattle.circuit_model.proofs.near.Near.empty.Given as goal

abbrev pub invariant-loop : goal.invariant-loop
invariant-loop l = l.nodes.items ≡ replicate l.counter []
