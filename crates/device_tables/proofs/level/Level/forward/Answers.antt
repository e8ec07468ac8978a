-- What is divided once by the code is divided once by the definition.
use Rattle.std.proofs.Common.{rules, ◌-ℤ◌, pos, unsigned_abs, FitsSigned, w64, ◌∙◌, arith, ◌^◌}
use Rattle.std.proofs.lemmas.Int.{ints, to_z-of_z}
use borrow.Author.Differences.{abs_is}
use Rattle.device_tables.proofs.Counts.{from_natural}
use Rattle.device_tables.proofs.Levels.{forward_is, at_least}
use Rattle.device_tables.proofs.level.Level.forward.Goals as goal

pub returns-clause-value : goal.returns-clause-value
returns-clause-value c =
    let t = c.self.inside in
    let i = c.self.invariant in
    let fits : FitsSigned w64 c.times.result = search rules in
    let kp_low = at_least 0 t.kp (pos (10 ^ 11)) i.kp_some in
    let width_low = at_least 1 t.width (pos (10 ^ 9)) i.width_some in
    let len_low = at_least 1 t.len (pos (10 ^ 9)) i.len_some in
    let above_fits : FitsSigned w64 (c.args.vgs -ℤ c.args.vto) = omega (arith, ints, abs_is c.args.vgs, abs_is c.args.vto, c.requires.vgs, c.requires.vto) in
    let square_is = rw (to_z-of_z w64 c.args.vgs c.ranges.vgs, to_z-of_z w64 c.args.vto c.ranges.vto, to_z-of_z w64 c.args.vds c.ranges.vds, to_z-of_z w64 (c.args.vgs -ℤ c.args.vto) above_fits) at c.square.ensures.value in
    to_z-of_z w64 c.times.result fits ∙ c.times.ensures ∙ rw (← c.self.view_is)
    (forward_is c.args.vto t.kp t.width t.len c.args.vgs c.args.vds (unsigned_abs t.kp) (unsigned_abs t.width) (unsigned_abs t.len) t.gain.over t.gain.under c.square.result
    (from_natural t.kp (omega (arith, ints, kp_low))) (from_natural t.width (omega (arith, ints, width_low))) (from_natural t.len (omega (arith, ints, len_low)))
    square_is i.gain_is.same i.gain_is.positive (omega (arith, ints, abs_is t.len, len_low)))
