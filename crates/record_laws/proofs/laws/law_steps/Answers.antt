use Rattle.record_laws.proofs.Pending.{steps_fit}
use Rattle.record_laws.proofs.laws.law_steps.Goals as goal

pub returns : goal.returns
returns c = steps_fit
