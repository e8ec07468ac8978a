-- The line of a free node has its pairs to its end.
use Rattle.std.proofs.Common.{arith, refl}
use Rattle.semantics.proofs.Limits.{limits}
use Rattle.fault_sweep.proofs.Courses.{free_course}
use Rattle.fault_sweep.proofs.course.Course.free.Goals as goal

pub overflow_add-result : goal.overflow_add-result
overflow_add-result c = omega (arith, c.line_end.ensures.end.by_stop, c.requires.basis.recorded.stop, (limits c.args.circuit.now.deck c.requires.basis.valid).stop)

pub returns : goal.returns
returns c = free_course c.args.circuit.now c.args.past.now c.args.node c.args.now c.line_end.result _ c.requires.basis c.requires.free c.line.ensures.line c.line.ensures.bounded c.line_end.ensures.end refl
