-- To the next pair, where that is not past the stop.
use Rattle.std.proofs.Common.{refl, sym, arith}
use Rattle.std.specs.Int.{w128}
use Rattle.std.proofs.lemmas.Int.{to_z-of_z, fits_signed_from_abs}
use Rattle.histories.specs.Track.{pair}
use Rattle.histories.proofs.Waves.{rate_below, rate_stop}
use Rattle.histories.proofs.track.Track.rate.Goals as goal

pub returns-then-tick-stop-clause-value : goal.returns-then-tick-stop-clause-value
returns-then-tick-stop-clause-value c = rw (
  to_z-of_z w128 c.step_between.result (fits_signed_from_abs w128 c.step_between.result (omega (arith, c.step_between.ensures.small))),
  c.step_between.ensures.value,
  c.requires.here,
  c.pair_in-next.ensures.pair,
  rate_below (pair c.args.self.now) c.args.stop c.args.tick c.if-tick-stop.true,
) refl

pub returns-else-tick-stop-clause-value : goal.returns-else-tick-stop-clause-value
returns-else-tick-stop-clause-value c = sym (rate_stop (pair c.args.self.now) c.args.stop c.args.tick c.if-tick-stop.false)
