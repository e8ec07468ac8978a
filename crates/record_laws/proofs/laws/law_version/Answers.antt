use Rattle.record_laws.proofs.Waves.{same_wave, same_events}
use Rattle.record_laws.proofs.laws.law_version.Goals as goal

pub returns : goal.returns
returns c = record { wave = λ d w right n. same_wave d w n right; events = same_events }
