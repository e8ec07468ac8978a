use Rattle.edit_laws.proofs.Through.{changed_through, initial_through}
use Rattle.edit_laws.proofs.laws.law_through.Goals as goal

pub returns : goal.returns
returns c = record { elements = changed_through; initial = initial_through }
