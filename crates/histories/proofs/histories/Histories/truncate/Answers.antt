-- The nodes before a number stay.
use Rattle.histories.proofs.Records.{kept_before, pair_before}
use Rattle.histories.proofs.histories.Histories.truncate.Goals as goal

pub returns-clause-kept : goal.returns-clause-kept
returns-clause-kept c = rw (← c.self.view_is) (kept_before (record { stop = c.self.inside.stop; tracks = c.self.inside.tracks.items }) (record { stop = c.self.inside.stop; tracks = c.truncate.new.self.items }) c.args.count c.truncate.ensures.items)

pub returns-clause-pairs : goal.returns-clause-pairs
returns-clause-pairs c = rw (← c.self.view_is) (pair_before (record { stop = c.self.inside.stop; tracks = c.self.inside.tracks.items }) (record { stop = c.self.inside.stop; tracks = c.truncate.new.self.items }) c.args.count c.truncate.ensures.items)
