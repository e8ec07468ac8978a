-- Both products and their difference fit 128 bits.
use Rattle.std.proofs.Common.{◌*◌, ◌^◌, FitsSigned, arith}
use Rattle.std.specs.Int.{w128}
use Rattle.std.proofs.lemmas.Int.{to_z-of_z, fits_signed_from_abs}
use Rattle.semantics.specs.declared.fraction.Fraction.{Fraction}
use Rattle.semantics.specs.Grid.{difference}
use Rattle.crossing.specs.Gaps.{IsSmallFraction}
use Rattle.crossing.proofs.Casts.{product_kept}
use Rattle.crossing.proofs.Straight.{difference_size}
use Rattle.crossing.proofs.gap.minus.Goals as goal

difference_fits : (a b : Fraction) → IsSmallFraction a → IsSmallFraction b → FitsSigned w128 (difference a b).num
difference_fits a b x y =
    let size = difference_size a.num b.num a.den b.den (101 * 10 ^ 23) (10 ^ 12) x.num y.num x.den y.den in
    fits_signed_from_abs w128 (difference a b).num (omega (arith, size))

pub overflow_sub-result : goal.overflow_sub-result
overflow_sub-result c =
    let a : Fraction = c.args.a.now in
    let b : Fraction = c.args.b.now in
    rw (product_kept a.num c.from.result b.den c.requires.a.num c.requires.b.den c.from.ensures, product_kept b.num c.from-2.result a.den c.requires.b.num c.requires.a.den c.from-2.ensures)
    (difference_fits a b c.requires.a c.requires.b)

pub returns : goal.returns
returns c =
    let a : Fraction = c.args.a.now in
    let b : Fraction = c.args.b.now in
    rw (product_kept a.num c.from.result b.den c.requires.a.num c.requires.b.den c.from.ensures, product_kept b.num c.from-2.result a.den c.requires.b.num c.requires.a.den c.from-2.ensures)
    (to_z-of_z w128 (difference a b).num (difference_fits a b c.requires.a c.requires.b))
