-- Where the gap stays, the lines stay; the tick after its last one in the cell is the crossing.
use Rattle.std.proofs.Common.{arith}
use Rattle.crossing.proofs.Ticks.{crosses_never, crosses_after, of_lines}
use Rattle.crossing.proofs.Straight.{in_bounds_before}
use Rattle.crossing.proofs.search.next_cross.Goals as goal

pub at-requires-clause-a : goal.at-requires-clause-a
at-requires-clause-a c = in_bounds_before c.args.a.now c.args.now c.args.end c.requires.a_started c.requires.order c.requires.a_in_bounds

pub at-requires-clause-b : goal.at-requires-clause-b
at-requires-clause-b c = in_bounds_before c.args.b.now c.args.now c.args.end c.requires.b_started c.requires.order c.requires.b_in_bounds

pub returns-in_err-ticks : goal.returns-in_err-ticks
returns-in_err-ticks c =
    let told = of_lines c.args.grid.now c.args.a.now c.args.b.now c.args.now c.at.result c.args.cell c.at.ensures.line c.requires.cell in
    rw c.from_residual.ensures (crosses_never c.args.grid.now c.args.a.now c.args.b.now c.args.now c.args.end (λ k h. (told k).0 (c.in_err-ticks.ensures k)))

pub returns-then-ticks-from : goal.returns-then-ticks-from
returns-then-ticks-from c =
    let told = of_lines c.args.grid.now c.args.a.now c.args.b.now c.args.now c.at.result c.args.cell c.at.ensures.line c.requires.cell in
    crosses_after c.args.grid.now c.args.a.now c.args.b.now c.args.now c.args.end c.in_ok-ticks.ticks
    (λ k. (λ e. (c.in_ok-ticks.ensures k).0 ((told k).1 e), λ h. (told k).0 ((c.in_ok-ticks.ensures k).1 h))) (omega arith)

pub returns-else-ticks-from : goal.returns-else-ticks-from
returns-else-ticks-from c =
    let told = of_lines c.args.grid.now c.args.a.now c.args.b.now c.args.now c.at.result c.args.cell c.at.ensures.line c.requires.cell in
    crosses_never c.args.grid.now c.args.a.now c.args.b.now c.args.now c.args.end (λ k h. (told k).0 ((c.in_ok-ticks.ensures k).1 (omega (arith, h))))
