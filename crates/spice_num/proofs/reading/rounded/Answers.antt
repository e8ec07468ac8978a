-- The power is cut to 19, which is past the limit either way.
use Rattle.std.proofs.Common.{◌≡◌, min, arith, unsigned_abs, true, false, pos, ap}
use Rattle.std.proofs.lemmas.Int.{to_z-of_z}
use Rattle.spice_num.specs.Number.{number_limit}
use Rattle.spice_num.proofs.Rounding.{ten_pos, capped_up, capped_down, rounded_up, rounded_down}
use Rattle.spice_num.proofs.reading.rounded.Goals as goal
use lib.Signed.{le_z}
use mir.Syntax.{w128}

pub nonzero_div-result : goal.nonzero_div-result
nonzero_div-result c = omega (arith, ten_pos c.min.result)

pub returns-then-power-ge0 : goal.returns-then-power-ge0
returns-then-power-ge0 c =
    let power = to_z-of_z w128 c.args.power c.ranges.power in
    let up : le_z (pos 0) c.args.power ≡ true = rw power at c.if-power-ge0.true in
    let size : c.unsigned_abs.result ≡ unsigned_abs c.args.power = rw power at c.unsigned_abs.ensures.value in
    rw (rounded_up c.args.digits c.args.power up, c.from-digits.ensures, c.pow-tens.ensures, c.min.ensures, size)
    (capped_up c.args.digits (unsigned_abs c.args.power))

pub returns-else-power-ge0 : goal.returns-else-power-ge0
returns-else-power-ge0 c =
    let power = to_z-of_z w128 c.args.power c.ranges.power in
    let down : le_z (pos 0) c.args.power ≡ false = rw power at c.if-power-ge0.false in
    let size : c.unsigned_abs.result ≡ unsigned_abs c.args.power = rw power at c.unsigned_abs.ensures.value in
    rw (rounded_down c.args.digits c.args.power down, c.from-digits.ensures, c.pow-tens.ensures, c.min.ensures, size)
    (ap (λ n. min number_limit n) (capped_down c.args.digits (unsigned_abs c.args.power) c.requires))
