use Rattle.script_session.proofs.Printed.{looks_at_all, rises}
use Rattle.script_session.proofs.laws.law_look.Goals as goal

pub returns : goal.returns
returns c = record { all = looks_at_all; rises = rises }
