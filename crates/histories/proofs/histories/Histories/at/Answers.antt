-- The pair of its record.
use Rattle.std.proofs.Common.{arith}
use Rattle.std.specs.Int.{w128}
use Rattle.std.proofs.lemmas.Int.{to_z-of_z, fits_signed_from_abs}
use Rattle.histories.proofs.Records.{pairs_of}
use Rattle.histories.proofs.histories.Histories.at.Goals as goal

pub at-pair-requires : goal.at-pair-requires
at-pair-requires c = omega (arith, c.requires.tick, c.track.ensures.stop)

pub returns-clause-pair : goal.returns-clause-pair
returns-clause-pair c = rw (
  to_z-of_z w128 c.at-pair.result.num (fits_signed_from_abs w128 c.at-pair.result.num (omega (arith, c.at-pair.ensures.bound, c.requires.tick, c.track.ensures.stop))),
  pairs_of c.args.self.now c.args.node c.track.result.now c.track.ensures.track,
) c.at-pair.ensures.pair
