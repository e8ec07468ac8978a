-- Where there is no threshold, there is no other cell.
use Rattle.std.proofs.Common.{refl}
use Rattle.semantics.specs.Grid.{cell}
use Rattle.window_run.proofs.device.cross_in.Goals as goal

pub returns-in-None : goal.returns-in-None
unfolding cell
returns-in-None c = rw c.in-None.is (λ tick at. at.other_cell refl)
