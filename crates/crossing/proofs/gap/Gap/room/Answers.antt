-- Whether an end stops the line, and how far away it is.
use Rattle.std.proofs.Common.{rules, ℤ, w64, FitsSigned, sym, arith}
use Rattle.std.proofs.lemmas.Int.{ints, to_z-of_z}
use Rattle.crossing.proofs.Cells.{cell_exists, under_end, over_end, leaves_upwards, leaves_downwards, stays_upwards, stays_downwards}
use Rattle.crossing.proofs.gap.Gap.room.Goals as goal

pub above-requires : goal.above-requires
above-requires c = cell_exists c.args.grid.now c.args.self.now c.args.cell c.requires

pub below-requires : goal.below-requires
below-requires c = cell_exists c.args.grid.now c.args.self.now c.args.cell c.requires

pub returns-in_err-above : goal.returns-in_err-above
returns-in_err-above c =
    let end = c.in_err-above.ensures.end in
    rw c.from_residual.ensures (stays_upwards c.args.grid.now c.args.self.now c.args.cell c.requires (omega (arith, ints)) (sym end))

pub returns-in_err-below : goal.returns-in_err-below
returns-in_err-below c =
    let end = c.in_err-below.ensures.end in
    rw c.from_residual-in_err-below.ensures (stays_downwards c.args.grid.now c.args.self.now c.args.cell c.requires (omega (arith, ints)) (sym end))

pub under-requires-clause-under : goal.under-requires-clause-under
under-requires-clause-under c =
    let θ : ℤ = c.in_ok-above.field-0 in
    let fits : FitsSigned w64 θ = search rules in
    let ends = c.in_ok-above.ensures in
    rw (to_z-of_z w64 θ fits) (under_end c.args.grid.now c.args.self.now c.args.cell θ c.requires ends.rising (sym ends.end))

pub over-requires-clause-over : goal.over-requires-clause-over
over-requires-clause-over c =
    let θ : ℤ = c.in_ok-below.field-0 in
    let fits : FitsSigned w64 θ = search rules in
    let ends = c.in_ok-below.ensures in
    rw (to_z-of_z w64 θ fits) (over_end c.args.grid.now c.args.self.now c.args.cell θ c.requires ends.rising (sym ends.end))

pub returns-in_ok-above : goal.returns-in_ok-above
returns-in_ok-above c =
    let θ : ℤ = c.in_ok-above.field-0 in
    let fits : FitsSigned w64 θ = search rules in
    let ends = c.in_ok-above.ensures in
    leaves_upwards c.args.grid.now c.args.self.now c.args.cell θ c.under.result c.requires (omega (arith, ints)) ends.rising (sym ends.end) (rw (to_z-of_z w64 θ fits) at c.under.ensures)

pub returns-in_ok-below : goal.returns-in_ok-below
returns-in_ok-below c =
    let θ : ℤ = c.in_ok-below.field-0 in
    let fits : FitsSigned w64 θ = search rules in
    let ends = c.in_ok-below.ensures in
    leaves_downwards c.args.grid.now c.args.self.now c.args.cell θ c.over.result c.requires (omega (arith, ints)) ends.rising (sym ends.end) (rw (to_z-of_z w64 θ fits) at c.over.ensures)
