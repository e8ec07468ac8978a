use Rattle.record_laws.proofs.Windows.{closes_set, closes_and_then, closes_beyond}
use Rattle.record_laws.proofs.laws.law_closes.Goals as goal

pub returns : goal.returns
returns c = record { set = closes_set; step = closes_and_then; far = closes_beyond }
