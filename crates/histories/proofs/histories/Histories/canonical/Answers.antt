-- The wave of its record.
use Rattle.histories.proofs.Records.{pairs_of}
use Rattle.histories.proofs.histories.Histories.canonical.Goals as goal

pub canonical-requires-clause-smooth : goal.canonical-requires-clause-smooth
canonical-requires-clause-smooth c = rw (pairs_of c.args.self.now c.args.node c.track.result.now c.track.ensures.track, ← c.self.view_is) at c.requires.smooth

pub returns : goal.returns
returns c = rw (pairs_of c.args.self.now c.args.node c.track.result.now c.track.ensures.track, ← c.self.view_is) c.canonical.ensures
