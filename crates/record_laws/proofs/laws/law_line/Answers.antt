use Rattle.record_laws.proofs.Lines.{fault_line, fault_straight}
use Rattle.record_laws.proofs.laws.law_line.Goals as goal

pub returns : goal.returns
returns c = record { step = fault_line; stretch = fault_straight }
