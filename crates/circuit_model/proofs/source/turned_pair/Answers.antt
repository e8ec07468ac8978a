-- A voltage of a source is small, so its sign can be turned.
use Rattle.std.proofs.Common.{◌^◌, ◌≤◌, refl, arith, ℤ}
use Rattle.std.specs.Prelude.{unsigned_abs}
use Rattle.std.proofs.lemmas.Int.{ints}
use Rattle.semantics.specs.Source.{pair_at}
use Rattle.semantics.proofs.Limits.{pair_between}
use Rattle.circuit_model.proofs.Sources.{turned_kept}
use Rattle.circuit_model.proofs.source.turned_pair.Goals as goal

pub overflow_sub-result : goal.overflow_sub-result
overflow_sub-result c =
    let z : ℤ = (pair_at c.args.wave.now c.args.tick).num in
    let small : unsigned_abs z ≤ 10 ^ 19 = (pair_between c.args.wave.now c.args.tick c.requires).0 in
    rw c.pair_at-volts.ensures (omega (arith, ints, small))

pub returns-then-second : goal.returns-then-second
returns-then-second c =
    let z : ℤ = (pair_at c.args.wave.now c.args.tick).num in
    rw (c.pair_at-volts.ensures, turned_kept z (pair_between c.args.wave.now c.args.tick c.requires).0, c.if-second.true) refl
