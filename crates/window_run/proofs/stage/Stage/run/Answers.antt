-- The run goes on to the next event tick.
use Rattle.std.proofs.Common.{◌≡◌, ◌<◌, ◌≤◌, ◌+◌, ℕ, List, length, map, sym, ap, ◌∙◌, arith, refl, inl, Vec, Global}
use Rattle.semantics.specs.declared.line.Line.{Line}
use Rattle.node_ramps.specs.declared.ramp.Ramp.{Ramp}
use Rattle.window_run.specs.Net.{HasEventTicks, IsEventTick, IsRun, Net}
use Rattle.histories.specs.Track.{line_of}
use Rattle.window_run.specs.Pieces.{AreTurning, PiecesKept, pairs}
use Rattle.window_run.specs.Stage.{IsSteady, IsUnderWay}
use Rattle.window_run.specs.declared.stage.Stage.{Stage}
use Rattle.window_run.specs.Circuit.{net_of}
use Rattle.window_run.proofs.Pieces.{counts_on, kept_on}
use Rattle.window_run.proofs.Runs.{event_there, later_next, run_kept, run_more, ticks_below, ticks_kept, ticks_more}
use Rattle.window_run.proofs.stage.Stage.run.Goals as goal

pub loop-next-init : goal.loop-next-init
loop-next-init g c =
    let net : Net = net_of c.args.circuit.now in
    let at : IsSteady net c.args.self.now c.args.from c.args.end = c.requires.steady in
    record {
      way = record {
        now = c.args.from;
        steady = at;
        from_first = omega arith;
        order = later_next c.args.self.now c.args.from c.next_tick-next.result c.args.end c.requires.order.0 c.next_tick-next.ensures.by_end at.due_later at.bend_later c.next_tick-next.ensures.waits;
        by_end = c.next_tick-next.ensures.by_end;
        due_next = c.next_tick-next.ensures.dues;
        bend_next = c.next_tick-next.ensures.bends;
        waits = c.next_tick-next.ensures.waits;
        pieces = c.requires.pieces;
        run = λ i s inside free h early. absurd (omega (arith, h, early));
        ticks = (c.args.from, omega arith, inl refl, tt);
      };
      most = c.requires.budget;
      kept = λ i s below free upto. refl;
      others = λ i not_free. refl;
      steps = refl;
    }

pub loop-next-preserved : goal.loop-next-preserved
loop-next-preserved g c =
    let net : Net = net_of c.args.circuit.now in
    let ps : List (List Line) = map (λ (v : Vec Ramp Global). v.items) c.loop-next.pieces in
    let way : IsUnderWay net c.loop-next.self ps c.args.from c.loop-next.next c.args.end c.loop-next.taken = c.loop-next.invariant.way in
    let more : IsRun net (pairs ps) c.args.from c.loop-next.next = run_more net c.args.from ps c.loop-next.self way.now c.loop-next.next c.args.end c.requires.net way.steady way.due_next way.bend_next way.by_end way.pieces way.run in
    let new : List (List Line) = map (λ (v : Vec Ramp Global). v.items) c.step.new.pieces in
    let next : ℕ = c.loop-next.next in
    let kept : PiecesKept net ps new next = c.in_ok-step.ensures.kept in
    let at : IsSteady net c.step.new.self next c.args.end = c.in_ok-step.ensures.steady in
    let event : IsEventTick net (pairs ps) c.args.from next = event_there net c.args.from ps c.loop-next.self way.now next c.args.end c.requires.net way.steady way.due_next way.bend_next way.by_end way.pieces way.from_first way.order (way.waits c.loop-next-test.true) in
    let ticks : HasEventTicks net (pairs ps) c.args.from (c.loop-next.taken + 1) (next + 1) = ticks_more net (pairs ps) c.args.from c.loop-next.taken way.now next way.order event way.ticks in
    record {
      way = record {
        now = next;
        steady = at;
        from_first = omega (arith, way.from_first, way.order);
        order = later_next c.step.new.self next c.next_tick-next-in-loop-next.result c.args.end c.loop-next-test.true c.next_tick-next-in-loop-next.ensures.by_end at.due_later at.bend_later c.next_tick-next-in-loop-next.ensures.waits;
        by_end = c.next_tick-next-in-loop-next.ensures.by_end;
        due_next = c.next_tick-next-in-loop-next.ensures.dues;
        bend_next = c.next_tick-next-in-loop-next.ensures.bends;
        waits = c.next_tick-next-in-loop-next.ensures.waits;
        pieces = c.in_ok-step.ensures.pieces;
        run = run_kept net ps new c.args.from next c.requires.net kept more;
        ticks = ticks_kept net ps new c.args.from next (c.loop-next.taken + 1) (next + 1) c.requires.net (omega arith) kept ticks;
      };
      most = (let h = c.if-taken-budget.true in omega (arith, h));
      kept = kept_on net (map (λ (v : Vec Ramp Global). v.items) c.args.pieces.now) ps new c.args.from next (omega (arith, way.from_first, way.order)) kept c.loop-next.invariant.kept;
      others = λ i not_free. c.in_ok-step.ensures.others i not_free ∙ c.loop-next.invariant.others i not_free;
      steps = counts_on _ _ _ (map (λ (v : Vec Ramp Global). v.items) c.args.pieces.now) ps new c.loop-next.invariant.steps c.in_ok-step.ensures.steps;
    }

pub returns-else-taken-budget-clause-run : goal.returns-else-taken-budget-clause-run
returns-else-taken-budget-clause-run g c =
    let net : Net = net_of c.args.circuit.now in
    let ps : List (List Line) = map (λ (v : Vec Ramp Global). v.items) c.loop-next.pieces in
    let way : IsUnderWay net c.loop-next.self ps c.args.from c.loop-next.next c.args.end c.loop-next.taken = c.loop-next.invariant.way in
    let more : IsRun net (pairs ps) c.args.from c.loop-next.next = run_more net c.args.from ps c.loop-next.self way.now c.loop-next.next c.args.end c.requires.net way.steady way.due_next way.bend_next way.by_end way.pieces way.run in
    more

pub returns-after-loop-next-clause-run : goal.returns-after-loop-next-clause-run
returns-after-loop-next-clause-run g c =
    let net : Net = net_of c.args.circuit.now in
    let ps : List (List Line) = map (λ (v : Vec Ramp Global). v.items) c.loop-next.pieces in
    let way : IsUnderWay net c.loop-next.self ps c.args.from c.loop-next.next c.args.end c.loop-next.taken = c.loop-next.invariant.way in
    let more : IsRun net (pairs ps) c.args.from c.loop-next.next = run_more net c.args.from ps c.loop-next.self way.now c.loop-next.next c.args.end c.requires.net way.steady way.due_next way.bend_next way.by_end way.pieces way.run in
    more

pub returns-else-taken-budget-clause-budget : goal.returns-else-taken-budget-clause-budget
returns-else-taken-budget-clause-budget g c = λ h.
    let net : Net = net_of c.args.circuit.now in
    let ps : List (List Line) = map (λ (v : Vec Ramp Global). v.items) c.loop-next.pieces in
    let way : IsUnderWay net c.loop-next.self ps c.args.from c.loop-next.next c.args.end c.loop-next.taken = c.loop-next.invariant.way in
    let same : c.args.budget ≡ c.loop-next.taken = omega (arith, c.if-taken-budget.false, c.loop-next.invariant.most) in
    rw same (ticks_below net (pairs ps) c.args.from c.loop-next.taken (way.now + 1) c.loop-next.next (omega (arith, way.order)) way.ticks)

turning : (net : Net) (s : Stage) (ps : List (List Line)) (from next end taken : ℕ) → IsUnderWay net s ps from next end taken → AreTurning net from next ps
turning net s ps from next end taken way = λ i inside free. (
  line_of s.lines.items i,
  way.pieces i inside free,
  (let h = way.steady.lines.started i (omega (arith, inside, way.steady.count_lines)) in omega (arith, h, way.order)),
)

pub returns-else-taken-budget-clause-turning : goal.returns-else-taken-budget-clause-turning
returns-else-taken-budget-clause-turning g c =
    turning (net_of c.args.circuit.now) c.loop-next.self (map (λ (v : Vec Ramp Global). v.items) c.loop-next.pieces) c.args.from c.loop-next.next c.args.end c.loop-next.taken c.loop-next.invariant.way

pub returns-after-loop-next-clause-turning : goal.returns-after-loop-next-clause-turning
returns-after-loop-next-clause-turning g c =
    turning (net_of c.args.circuit.now) c.loop-next.self (map (λ (v : Vec Ramp Global). v.items) c.loop-next.pieces) c.args.from c.loop-next.next c.args.end c.loop-next.taken c.loop-next.invariant.way
