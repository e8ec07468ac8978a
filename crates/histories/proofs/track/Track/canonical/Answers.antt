-- One line more.
use Rattle.std.proofs.Common.{◌≡◌, ◌<◌, ℕ, true, sym, ap, ◌∙◌, arith}
use Rattle.semantics.specs.declared.fraction.Fraction.{Fraction}
use Rattle.histories.specs.Track.{IsBounded, pair}
use Rattle.histories.specs.Pairs.{IsEnd, begins, line_at, lines_below}
use Rattle.histories.proofs.Waves.{begins_next, line_starts, progress, starts_at, wave_begun, wave_long, wave_more, wave_none, wave_short}
use Rattle.histories.proofs.track.Track.canonical.Goals as goal

pub returns-then-stop-eq0 : goal.returns-then-stop-eq0
returns-then-stop-eq0 c = rw (c.in_ok-push.ensures.items, c.in_ok-lines.ensures.items, c.line.ensures.line, c.if-stop-eq0.true) (sym (wave_short (pair c.args.self.now)))

pub loop-tick-init : goal.loop-tick-init
loop-tick-init c = record { by_stop = omega arith; lines = c.in_ok-lines.ensures.items ∙ wave_none (pair c.args.self.now) c.args.stop; begins_here = λ h. wave_begun (pair c.args.self.now) c.args.stop }

pub line_end-tick-requires-clause-start : goal.line_end-tick-requires-clause-start
line_end-tick-requires-clause-start c = rw (c.line-line.ensures.line, starts_at (pair c.args.self.now) c.args.stop c.loop-tick.tick) (omega (arith, c.loop-tick-test.true))

pub line_end-tick-requires-clause-pair : goal.line_end-tick-requires-clause-pair
line_end-tick-requires-clause-pair c = line_starts (pair c.args.self.now) c.args.stop c.loop-tick.tick c.line-line.result c.line-line.ensures.line

pub loop-tick-smaller : goal.loop-tick-smaller
loop-tick-smaller c =
    let end = rw c.line-line.ensures.line at c.line_end-tick.ensures in
    let more = progress (pair c.args.self.now) c.args.stop c.loop-tick.tick c.line_end-tick.result c.requires.smooth c.loop-tick-test.true end in
    omega (arith, more, end.by_stop)

pub loop-tick-preserved : goal.loop-tick-preserved
loop-tick-preserved c =
    let p : ℕ → Fraction = pair c.args.self.now in
    let stop : ℕ = c.args.stop in
    let t : ℕ = c.loop-tick.tick in
    let u : ℕ = c.line_end-tick.result in
    let end : IsEnd p stop (line_at p stop t) u = rw c.line-line.ensures.line at c.line_end-tick.ensures in
    let bounded : IsBounded (line_at p stop t) = rw c.line-line.ensures.line at c.line-line.ensures.bounded in
    let more : t < u = progress p stop t u c.requires.smooth c.loop-tick-test.true end in
    let first : begins p stop t ≡ true = c.loop-tick.invariant.begins_here c.loop-tick-test.true in
    record {
      by_stop = end.by_stop;
      lines = c.in_ok-push-2.ensures.items ∙ rw (c.loop-tick.invariant.lines, c.line-line.ensures.line) (sym (wave_more p stop t u c.requires.smooth c.loop-tick-test.true bounded end first more));
      begins_here = λ below. begins_next p stop t u c.requires.smooth c.loop-tick-test.true bounded end more below;
    }

pub returns : goal.returns
returns c =
    let whole : c.loop-tick.tick ≡ c.args.stop = omega (arith, c.loop-tick.invariant.by_stop, c.loop-tick-test.false) in
    c.loop-tick.invariant.lines ∙ ap (λ n. lines_below (pair c.args.self.now) c.args.stop n) whole ∙ sym (wave_long (pair c.args.self.now) c.args.stop (omega (arith, c.if-stop-eq0.false)))
