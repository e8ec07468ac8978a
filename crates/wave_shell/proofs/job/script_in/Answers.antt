-- The script, or its first fault.
use Rattle.std.proofs.Common.{◌≡◌, Err, ap, ⊎_elim}
use Rattle.wave_script.specs.declared.why.ScriptWhy.TheVariants.{Memory}
use Rattle.wave_script.specs.Answers.{at}
use Rattle.wave_script.specs.Lines.{script_in}
use Rattle.wave_shell.proofs.Judging.{script_is, script_refused}
use Rattle.wave_shell.proofs.job.script_in.Goals as goal

pub returns-in-Ok-clause-judged : goal.returns-in-Ok-clause-judged
returns-in-Ok-clause-judged c = script_is c.args.bytes.now c.in-Ok.script c.requires c.in-Ok.ensures

-- a cause other than want of memory is that of the script
pub returns-in_default : goal.returns-in_default
returns-in_default c = ⊎_elim
    (λ (wanting : c.in-Err.refusal ≡ at 0 Memory). absurd (c.in_default.not-Memory (ap (λ r. r.why) wanting)))
    (λ (fault : script_in c.args.bytes.now ≡ Err c.in-Err.refusal). record
    { judged = script_refused c.args.bytes.now c.in-Err.refusal c.requires fault; kind = tt })
    c.in-Err.ensures
