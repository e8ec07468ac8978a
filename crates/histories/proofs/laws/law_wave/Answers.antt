-- By what a step without a fault is.
use Rattle.histories.proofs.Faultless.{smooth, wave_same}
use Rattle.histories.proofs.laws.law_wave.Goals as goal

pub returns-clause-smooth : goal.returns-clause-smooth
returns-clause-smooth c = λ d w n valid free faultless. smooth d w n valid free faultless

pub returns-clause-wave : goal.returns-clause-wave
returns-clause-wave c = λ d w n valid free faultless h. wave_same d w n valid free faultless h
