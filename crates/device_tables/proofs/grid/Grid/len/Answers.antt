-- The thresholds of a uniform grid rise.
use Rattle.device_tables.proofs.Laws.{kept_rises}
use Rattle.device_tables.proofs.grid.Grid.len.Goals as goal

pub returns-in-Uniform-clause-rising : goal.returns-in-Uniform-clause-rising
returns-in-Uniform-clause-rising c = rw (← c.self.view_is) (kept_rises c.self.inside.thresholds c.self.invariant)
