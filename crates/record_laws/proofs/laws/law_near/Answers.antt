use Rattle.semantics.proofs.Flows.{near_suffices}
use Rattle.semantics.proofs.Neighbours.{free_suffices}
use Rattle.record_laws.proofs.laws.law_near.Goals as goal

pub returns : goal.returns
returns c = record { voltages = near_suffices; records = λ d v w t. free_suffices d t (λ m. v m t) (λ m. w m t) }
