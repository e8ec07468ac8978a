use Rattle.std.proofs.Common.{arith, take_all, length-drop}
use Rattle.outside.proofs.Written.{written_more}
use Rattle.outside.proofs.sink.write_all.Goals as goal

pub loop-rest-preserved : goal.loop-rest-preserved
loop-rest-preserved g c = (
  written_more _ _ _ _ _ _ c.in_ok-count.count (take_all _ _ (omega (arith, length-drop c.in_ok-count.count c.loop-rest.rest.now))) c.loop-rest.invariant.0 c.in_ok-count.ensures.written,
  omega (arith, c.loop-rest.invariant.1, c.in_ok-count.ensures.cause.later),
)
