-- The pair at the tick, and how it goes on.
use Rattle.std.proofs.Common.{refl, arith}
use Rattle.std.specs.Int.{w128}
use Rattle.std.proofs.lemmas.Int.{to_z-of_z, fits_signed_from_abs}
use Rattle.histories.specs.Pairs.{line_at}
use Rattle.histories.proofs.track.Track.line.Goals as goal

pub returns-clause-line : goal.returns-clause-line
unfolding line_at
returns-clause-line c = rw (
  to_z-of_z w128 c.pair_in-here.result.num (fits_signed_from_abs w128 c.pair_in-here.result.num (omega (arith, c.pair_in-here.ensures.bound, c.requires.tick, c.requires.stop))),
  to_z-of_z w128 c.rate-rate.result (fits_signed_from_abs w128 c.rate-rate.result (omega (arith, c.rate-rate.ensures.small))),
  c.rate-rate.ensures.value,
  c.pair_in-here.ensures.pair,
) refl
