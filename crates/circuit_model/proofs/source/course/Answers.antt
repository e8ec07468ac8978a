-- The voltage and the slope of the tick.
use Rattle.std.proofs.Common.{refl, ℤ, ◌^◌, lit<}
use mir.Syntax.{w128}
use Rattle.std.proofs.lemmas.Int.{to_z-of_z}
use Rattle.semantics.specs.Source.{pair_at}
use Rattle.semantics.proofs.Limits.{pair_between}
use Rattle.circuit_model.specs.Drive.{course}
use Rattle.circuit_model.proofs.Products.{fits_small}
use Rattle.circuit_model.proofs.source.course.Goals as goal

pub returns : goal.returns
unfolding course
returns c =
    let slope : ℤ = c.slope_at.result in
    let num : ℤ = (pair_at c.args.wave.now c.args.tick).num in
    let small = pair_between c.args.wave.now c.args.tick c.requires in
    rw (to_z-of_z w128 slope (record { sfits = c.slope_at.type_inv }), c.slope_at.ensures, c.pair_at-num.ensures, to_z-of_z w128 num (fits_small num (10 ^ 19) small.0 (lit< tt))) refl
