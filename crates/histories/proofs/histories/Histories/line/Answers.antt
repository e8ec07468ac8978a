-- The line of its record.
use Rattle.histories.proofs.Records.{pairs_of}
use Rattle.histories.proofs.histories.Histories.line.Goals as goal

pub returns-clause-line : goal.returns-clause-line
returns-clause-line c = rw (pairs_of c.args.self.now c.args.node c.track.result.now c.track.ensures.track, ← c.self.view_is) c.line.ensures.line
