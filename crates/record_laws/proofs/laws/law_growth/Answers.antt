use Rattle.record_laws.proofs.Faults.{others_kept}
use Rattle.record_laws.proofs.laws.law_growth.Goals as goal

pub returns : goal.returns
returns c = others_kept
