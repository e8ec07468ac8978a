-- The node's rate alone is written.
use Rattle.std.proofs.Common.{arith}
use Rattle.std.proofs.lemmas.Bool.{ltb-true}
use Rattle.std.proofs.lemmas.Int.{ints}
use Rattle.circuit_model.proofs.Flows.{added_at}
use Rattle.circuit_model.proofs.device.add_current.Goals as goal

pub returns-in-Some : goal.returns-in-Some
returns-in-Some c = λ i. rw c.in-Some.is (added_at c.args.rates.now c.in-Some.node i _ c.args.amps (ltb-true _ _ (rw c.in-Some.is at c.requires.inside)) (omega (arith, ints, c.requires.small c.in-Some.node, c.requires.amps, c.from.ensures)))
