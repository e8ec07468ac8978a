use Rattle.record_laws.proofs.Pending.{covers_commit}
use Rattle.record_laws.proofs.laws.law_commit.Goals as goal

pub returns : goal.returns
returns c = covers_commit
