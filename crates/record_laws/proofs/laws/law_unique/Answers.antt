use Rattle.record_laws.proofs.Unique.{unique, unique_on}
use Rattle.record_laws.proofs.laws.law_unique.Goals as goal

pub returns : goal.returns
returns c = record { all = unique; on = unique_on }
