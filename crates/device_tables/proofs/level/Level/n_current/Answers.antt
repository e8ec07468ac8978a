-- The voltages of a device whose ends change places, and its current turned.
use Rattle.std.proofs.Common.{rules, ◌-ℤ◌, ℤ, pos, FitsSigned, w64, arith}
use Rattle.std.proofs.lemmas.Int.{ints, to_z-of_z}
use borrow.Author.Differences.{abs_is}
use Rattle.device_tables.proofs.Levels.{zero_less, exchanged}
use Rattle.device_tables.proofs.level.Level.n_current.Goals as goal

pub returns-else-vds-ge0-clause-value : goal.returns-else-vds-ge0-clause-value
returns-else-vds-ge0-clause-value c =
    let r : ℤ = c.forward-else-vds-ge0.result in
    let fits : FitsSigned w64 r = search rules in
    let across_fits : FitsSigned w64 (c.args.vgs -ℤ c.args.vds) = omega (arith, ints, abs_is c.args.vgs, abs_is c.args.vds, c.requires.vgs, c.requires.vds) in
    let turned_fits : FitsSigned w64 (pos 0 -ℤ c.args.vds) = omega (arith, ints, abs_is c.args.vds, c.requires.vds) in
    let back_fits : FitsSigned w64 (pos 0 -ℤ r) = omega (arith, ints, abs_is r, c.forward-else-vds-ge0.ensures.size) in
    let below = rw (to_z-of_z w64 c.args.vds c.ranges.vds) at c.if-vds-ge0.false in
    let r_is = rw (to_z-of_z w64 c.args.vto c.ranges.vto, to_z-of_z w64 c.args.vgs c.ranges.vgs, to_z-of_z w64 c.args.vds c.ranges.vds, to_z-of_z w64 (c.args.vgs -ℤ c.args.vds) across_fits, to_z-of_z w64 (pos 0 -ℤ c.args.vds) turned_fits, zero_less c.args.vds) at c.forward-else-vds-ge0.ensures.value in
    rw (to_z-of_z w64 r fits, to_z-of_z w64 (pos 0 -ℤ r) back_fits, zero_less r)
    (exchanged c.args.vto c.args.self.now.kp c.args.self.now.width c.args.self.now.len c.args.vgs c.args.vds r below r_is)
