use Rattle.record_laws.proofs.Sound.{sound_settled, sound_edit, sound_commit}
use Rattle.record_laws.proofs.laws.law_sound.Goals as goal

pub returns : goal.returns
returns c = record { edit = sound_edit; commit = sound_commit; settled = sound_settled }
