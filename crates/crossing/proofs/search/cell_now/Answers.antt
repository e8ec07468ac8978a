-- The cell in which the gap begins is that of the lines at now.
use Rattle.std.proofs.Common.{◌≡◌, ◌+◌, add-zero, ap, ◌∙◌}
use Rattle.semantics.specs.Grid.{cell}
use Rattle.crossing.specs.Crossing.{cell_at}
use Rattle.crossing.proofs.search.cell_now.Goals as goal

pub returns : goal.returns
returns c =
    let here : c.args.now + 0 ≡ c.args.now = add-zero c.args.now in
    c.cell.ensures.cell_is ∙ ap (cell c.args.grid.now) (c.at.ensures.line 0) ∙ ap (cell_at c.args.grid.now c.args.a.now c.args.b.now) here
