use Rattle.record_laws.proofs.Damage.{damages_valid}
use Rattle.record_laws.proofs.laws.law_damage.Goals as goal

pub returns : goal.returns
returns c = damages_valid
