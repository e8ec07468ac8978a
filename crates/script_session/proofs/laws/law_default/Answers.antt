use Rattle.script_session.proofs.Printed.{prints_default}
use Rattle.script_session.proofs.laws.law_default.Goals as goal

pub returns : goal.returns
returns c = prints_default
