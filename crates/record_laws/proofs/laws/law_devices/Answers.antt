use Rattle.semantics.proofs.Flows.{near_sum}
use Rattle.semantics.proofs.Neighbours.{same_cells}
use Rattle.record_laws.proofs.laws.law_devices.Goals as goal

pub returns : goal.returns
returns c = record { cells = λ d v w t. same_cells d t (λ m. v m t) (λ m. w m t); sum = near_sum }
