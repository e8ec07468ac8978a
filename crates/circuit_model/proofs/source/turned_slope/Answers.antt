-- A slope of a source is small, so its sign can be turned.
use Rattle.std.proofs.Common.{◌*◌, ◌^◌, ◌≤◌, refl, arith, ℤ}
use Rattle.std.specs.Prelude.{unsigned_abs}
use Rattle.std.proofs.lemmas.Int.{ints}
use Rattle.semantics.specs.Source.{slope_at}
use Rattle.semantics.proofs.Limits.{slope_small}
use Rattle.circuit_model.proofs.Sources.{turned_kept}
use Rattle.circuit_model.proofs.source.turned_slope.Goals as goal

pub overflow_sub-result : goal.overflow_sub-result
overflow_sub-result c =
    let z : ℤ = slope_at c.args.wave.now c.args.tick in
    let small : unsigned_abs z ≤ 2 * 10 ^ 9 = slope_small c.args.wave.now c.args.tick c.requires in
    rw c.slope_at-slope.ensures (omega (arith, ints, small))

pub returns-then-second : goal.returns-then-second
returns-then-second c =
    let z : ℤ = slope_at c.args.wave.now c.args.tick in
    rw (c.slope_at-slope.ensures, turned_kept z (omega (arith, slope_small c.args.wave.now c.args.tick c.requires)), c.if-second.true) refl
