use Rattle.std.proofs.Common.{sym}
use Rattle.record_laws.proofs.Unique.{run_voltages, run_charged, run_starts, run_faultless}
use Rattle.record_laws.proofs.Waves.{run_wave, run_events}
use Rattle.record_laws.proofs.laws.law_run.Goals as goal

pub returns : goal.returns
returns c = record {
  voltages = run_voltages;
  is_run = λ d t n s free below. sym (run_charged d s n free);
  starts = run_starts;
  faults = run_faultless;
  wave = run_wave;
  events = run_events;
}
