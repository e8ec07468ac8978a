-- A deck stops early.
use Rattle.std.proofs.Common.{arith}
use Rattle.semantics.proofs.Limits.{limits}
use Rattle.fault_sweep.proofs.course.past_stop.Goals as goal

pub overflow_add-result : goal.overflow_add-result
overflow_add-result c = omega (arith, c.stop.ensures.stop, (limits c.args.circuit.now.deck c.stop.ensures.valid).stop)
