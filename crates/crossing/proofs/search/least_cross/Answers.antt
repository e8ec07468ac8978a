-- Both lines are in bounds now, since they are up to the end.
use Rattle.crossing.proofs.Straight.{in_bounds_before}
use Rattle.crossing.proofs.search.least_cross.Goals as goal

pub cell_now-cell-requires-clause-a : goal.cell_now-cell-requires-clause-a
cell_now-cell-requires-clause-a c = in_bounds_before c.args.a.now c.args.now c.args.end c.requires.a_started c.requires.order c.requires.a_in_bounds

pub cell_now-cell-requires-clause-b : goal.cell_now-cell-requires-clause-b
cell_now-cell-requires-clause-b c = in_bounds_before c.args.b.now c.args.now c.args.end c.requires.b_started c.requires.order c.requires.b_in_bounds
