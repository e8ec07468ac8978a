-- The product of two denominators is at least 1.
use Rattle.std.proofs.Common.{arith, ◌*◌, ◌≤◌}
use Rattle.std.proofs.lemmas.Int.{ints}
use Rattle.std.proofs.lemmas.Nat.{mul-le}
use Rattle.circuit_model.proofs.Products.{product_kept}
use Rattle.circuit_model.proofs.end.cell_between.Goals as goal

pub cell-requires-clause-positive : goal.cell-requires-clause-positive
cell-requires-clause-positive c =
    let low : 1 * 1 ≤ c.args.a.now.den * c.args.b.now.den = mul-le 1 1 c.args.a.now.den c.args.b.now.den c.requires.a.den_low c.requires.b.den_low in
    rw (product_kept c.from.result c.from-2.result c.args.b.now.den (rw c.from.ensures (omega arith)) c.requires.b.den_high c.from-2.ensures, c.from.ensures)
    (omega (arith, ints, low))
