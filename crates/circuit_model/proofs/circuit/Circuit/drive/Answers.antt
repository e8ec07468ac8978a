-- The line of the source, which is small, with the node's sign.
use Rattle.std.proofs.Common.{ℕ, ℤ, Bool, List, arith, sym}
use Rattle.semantics.proofs.Limits.{pair_between, slope_small}
use Rattle.circuit_model.specs.Drive.{course}
use Rattle.circuit_model.specs.Numbers.{name_at}
use Rattle.circuit_model.proofs.Turns.{drive_bounds, drive_is}
use Rattle.circuit_model.proofs.circuit.Circuit.drive.Goals as goal

pub signed_line-requires-clause-num : goal.signed_line-requires-clause-num
unfolding course
signed_line-requires-clause-num c = let small = pair_between c.source-second.result.0.now c.args.tick c.source-second.ensures.source in rw c.course.ensures (omega (arith, small.0))

pub signed_line-requires-clause-rate : goal.signed_line-requires-clause-rate
unfolding course
signed_line-requires-clause-rate c = let small = slope_small c.source-second.result.0.now c.args.tick c.source-second.ensures.source in rw c.course.ensures (omega (arith, small))

pub returns-clause-line : goal.returns-clause-line
returns-clause-line c =
    let source : List (ℕ × ℤ) × Bool = (c.source-second.result.0.now, c.source-second.result.1) in
    rw (c.signed_line.ensures, c.course.ensures) (sym (drive_is c.args.self.now.deck (name_at c.args.self.now c.args.node) c.args.tick source c.source-second.ensures.driver))

pub returns-clause-bounds : goal.returns-clause-bounds
returns-clause-bounds c = λ later after short.
    rw (c.signed_line.ensures, c.course.ensures) (drive_bounds c.source-second.result.0.now c.source-second.result.1 c.args.tick later c.source-second.ensures.source after short)
