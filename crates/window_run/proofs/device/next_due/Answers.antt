-- What the two searches answer is when the device leaves its cells.
use Rattle.std.proofs.Common.{◌≡◌, ap}
use Rattle.crossing.specs.Crossing.{IsLeastCrossing}
use Rattle.window_run.specs.Net.{Cells, Net}
use Rattle.window_run.specs.Stage.{cell_of, line_at}
use Rattle.window_run.specs.Circuit.{net_of}
use Rattle.window_run.proofs.Due.{knows_due, looked_later, one_later}
use Rattle.window_run.proofs.device.next_due.Goals as goal

pub cross_in-gate_due-requires-clause-cell : goal.cross_in-gate_due-requires-clause-cell
unfolding cell_of
cross_in-gate_due-requires-clause-cell c = rw (c.gate_grid.ensures, c.line_at-gate.ensures.value, c.line_at-second.ensures.value, c.ends-leads.ensures.second, c.ends-leads.ensures.gate) (ap (λ (x : Cells). x.0) c.requires.cells)

pub next_cross-drain_due-requires-clause-cell : goal.next_cross-drain_due-requires-clause-cell
unfolding cell_of
next_cross-drain_due-requires-clause-cell c = rw (c.drain_grid-drain.ensures, c.line_at-first.ensures.value, c.line_at-second.ensures.value, c.ends-leads.ensures.first, c.ends-leads.ensures.second) (ap (λ (x : Cells). x.1) c.requires.cells)

pub returns-clause-knows : goal.returns-clause-knows
returns-clause-knows c =
    let net : Net = net_of c.args.circuit.now in
    let k = c.args.device in
    let gates : IsLeastCrossing (net.gate_grid k) (line_at c.args.lines.now (net.gate k)) (line_at c.args.lines.now (net.second k)) c.args.now c.args.end c.cross_in-gate_due.result =
    rw (c.gate_grid.ensures, c.line_at-gate.ensures.value, c.line_at-second.ensures.value, c.ends-leads.ensures.second, c.ends-leads.ensures.gate) at c.cross_in-gate_due.ensures in
    let drains : IsLeastCrossing (net.drain_grid k) (line_at c.args.lines.now (net.first k)) (line_at c.args.lines.now (net.second k)) c.args.now c.args.end c.next_cross-drain_due.result =
    rw (c.drain_grid-drain.ensures, c.line_at-first.ensures.value, c.line_at-second.ensures.value, c.ends-leads.ensures.first, c.ends-leads.ensures.second) at c.next_cross-drain_due.ensures in
    knows_due net k c.args.lines.now c.args.now c.args.end c.args.cells c.cross_in-gate_due.result c.next_cross-drain_due.result c.earlier.result c.requires.cells gates drains c.earlier.ensures.before_both c.earlier.ensures.one_of

pub returns-clause-later : goal.returns-clause-later
returns-clause-later c = one_later c.args.now c.cross_in-gate_due.result c.next_cross-drain_due.result c.earlier.result c.earlier.ensures.one_of
    (looked_later _ _ _ c.args.now c.args.end c.cross_in-gate_due.result c.cross_in-gate_due.ensures)
    (looked_later _ _ _ c.args.now c.args.end c.next_cross-drain_due.result c.next_cross-drain_due.ensures)
