use Rattle.record_laws.proofs.Pending.{covers_edit, edit_keeps_valid}
use Rattle.record_laws.proofs.laws.law_edit.Goals as goal

pub returns : goal.returns
returns c = record { covers = covers_edit; keeps = edit_keeps_valid }
