-- The lines of the three ends give the two cells.
use Rattle.std.proofs.Common.{◌≡◌, refl}
use Rattle.device_tables.proofs.Laws.{cell_within}
use Rattle.window_run.specs.Stage.{cell_of}
use Rattle.window_run.proofs.Due.{pair_of}
use Rattle.window_run.proofs.device.cells_now.Goals as goal

pub returns-clause-cells : goal.returns-clause-cells
unfolding cell_of
returns-clause-cells c = rw (c.cell_in-gate_cell.ensures, c.cell_now-drain_cell.ensures, c.gate_grid.ensures, c.drain_grid.ensures, c.line_at-first.ensures.value, c.line_at-second.ensures.value, c.line_at-gate.ensures.value, c.ends-leads.ensures.first, c.ends-leads.ensures.second, c.ends-leads.ensures.gate) refl

pub returns-clause-gate : goal.returns-clause-gate
returns-clause-gate c = rw (c.cell_in-gate_cell.ensures, c.gate_grid.ensures) (cell_within _ _)

pub returns-clause-drain : goal.returns-clause-drain
returns-clause-drain c = rw (c.cell_now-drain_cell.ensures, c.drain_grid.ensures) (cell_within _ _)
