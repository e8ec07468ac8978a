-- Both products and their difference fit 128 bits, so the casts change nothing.
use Rattle.std.proofs.Common.{arith, refl, lit<}
use mir.Syntax.{w128}
use Rattle.std.proofs.lemmas.Int.{to_z-of_z}
use Rattle.semantics.specs.declared.fraction.Fraction.{Fraction}
use Rattle.semantics.specs.Grid.{difference}
use Rattle.circuit_model.proofs.Products.{product_fits, product_kept, difference_small, fits_small}
use Rattle.circuit_model.proofs.end.cross.Goals as goal

pub overflow_mul-result : goal.overflow_mul-result
overflow_mul-result c = product_fits c.args.a.now.num c.from.result c.args.b.now.den c.requires.a.num c.requires.b.den_high c.from.ensures

pub overflow_sub-result : goal.overflow_sub-result
overflow_sub-result c =
    let a : Fraction = c.args.a.now in
    let b : Fraction = c.args.b.now in
    rw (product_kept a.num c.from.result b.den c.requires.a.num c.requires.b.den_high c.from.ensures, product_kept b.num c.from-2.result a.den c.requires.b.num c.requires.a.den_high c.from-2.ensures)
    (fits_small (difference a b).num 40000000000000000000000000000000000000 (difference_small a b c.requires.a c.requires.b) (lit< tt))

pub returns : goal.returns
returns c =
    let a : Fraction = c.args.a.now in
    let b : Fraction = c.args.b.now in
    rw (
      product_kept a.num c.from.result b.den c.requires.a.num c.requires.b.den_high c.from.ensures,
      product_kept b.num c.from-2.result a.den c.requires.b.num c.requires.a.den_high c.from-2.ensures,
      to_z-of_z w128 (difference a b).num (fits_small (difference a b).num 40000000000000000000000000000000000000 (difference_small a b c.requires.a c.requires.b) (lit< tt)),
    )
    (record { value = refl; small = omega (arith, difference_small a b c.requires.a c.requires.b) })
