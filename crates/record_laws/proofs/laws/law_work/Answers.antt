use Rattle.std.proofs.Common.{suc}
use Rattle.record_laws.proofs.Stale.{fresh_stale, stale_touched}
use Rattle.record_laws.proofs.Windows.{right_on, right_whole, right_step}
use Rattle.record_laws.proofs.laws.law_work.Goals as goal

pub returns : goal.returns
returns c = record {
  on = λ d w x among from until k beside up_to closes faultless inside.
      fresh_stale d w x among from until (right_on d w x among from until k beside up_to closes faultless inside);
  whole = λ d w x task among from until clean alone. fresh_stale d w x among from until (right_whole d w x task among from until clean alone);
  step = λ d w x task from clean. fresh_stale d w x task from (suc from) (right_step d w x task from clean);
  touched = stale_touched;
}
