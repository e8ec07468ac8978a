-- The line of a driven node stays in force to its next turn.
use Rattle.std.proofs.Common.{◌∙◌, ap}
use Rattle.std.specs.Prelude.{unwrap_or}
use Rattle.fault_sweep.proofs.Courses.{driven_course}
use Rattle.fault_sweep.proofs.course.Course.driven.Goals as goal

pub returns : goal.returns
returns c =
    let until = c.unwrap_or.ensures ∙ ap (λ end. unwrap_or c.next_point.result end) c.past_stop.ensures in
    driven_course c.args.circuit.now c.args.past.now c.args.node c.args.now c.next_point.result _ c.requires.basis c.requires.driven c.requires.tick c.drive.ensures.line c.next_point.ensures until c.drive.ensures.bounds
