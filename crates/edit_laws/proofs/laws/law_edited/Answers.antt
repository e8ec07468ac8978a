use Rattle.edit_laws.proofs.Edited.{one_edit, valid_edit}
use Rattle.edit_laws.proofs.laws.law_edited.Goals as goal

pub returns : goal.returns
returns c = record { edit = one_edit; valid = valid_edit }
