-- Both numbers fit, so the cell is that of the gap after no tick.
use Rattle.std.proofs.Common.{rules, ℤ, FitsSigned}
use Rattle.std.specs.Int.{w128}
use Rattle.std.proofs.lemmas.Int.{to_z-of_z}
use Rattle.crossing.proofs.Cells.{begins_in}
use Rattle.crossing.proofs.gap.Gap.cell.Goals as goal

pub returns : goal.returns
returns c =
    let num : ℤ = c.args.self.now.num in
    let den : ℤ = c.args.self.now.den in
    let num_fits : FitsSigned w128 num = search rules in
    let den_fits : FitsSigned w128 den = search rules in
    begins_in c.args.grid.now c.args.self.now c.cell.result c.requires (rw (to_z-of_z w128 num num_fits, to_z-of_z w128 den den_fits) at c.cell.ensures)
