use Rattle.worked_records.proofs.Near.{near_resistor, near_source, far_initial}
use Rattle.worked_records.proofs.near_edits.Goals as goal

pub returns : goal.returns
returns c = record { resistor = near_resistor; source = near_source; initial = far_initial }
