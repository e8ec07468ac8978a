use Rattle.worked_records.proofs.Rows.{starts, faults}
use Rattle.worked_records.proofs.kept_record.Goals as goal

pub returns : goal.returns
returns c = record { starts = starts; faults = faults }
