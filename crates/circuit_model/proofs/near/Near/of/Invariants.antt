-- The devices so far are noted.
use Rattle.std.proofs.Common.{map}
use Rattle.circuit_model.specs.Near.{HaveNoted}
use Rattle.circuit_model.proofs.near.Near.of.Given as goal

abbrev pub invariant-loop-k : goal.invariant-loop-k
invariant-loop-k l = HaveNoted (map (λ d. d.ends) l.devices) l.k l.count l.near
