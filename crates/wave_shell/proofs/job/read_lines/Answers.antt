use Rattle.std.proofs.Common.{◌≡◌, ◌<◌, length, Err, ap, ◌∙◌}
use Rattle.outside.specs.declared.reading.TheConstants.{READ_LIMIT}
use Rattle.wave_shell.specs.declared.refusal.Refusal.TheVariants.{ScriptTooLong}
use Rattle.wave_shell.specs.Program.{judged_script}
use Rattle.wave_shell.proofs.Judging.{script_long, each_told}
use Rattle.wave_shell.proofs.job.read_lines.Goals as goal

pub returns-in-Err-TooLong-clause-judged : goal.returns-in-Err-TooLong-clause-judged
returns-in-Err-TooLong-clause-judged g c =
    each_told (g.S.Shelf.bytes c.args.shelf.now c.args.name.now) (λ text. READ_LIMIT < length text)
    (λ text. judged_script text ≡ Err ScriptTooLong) script_long
    (c.read_whole.ensures.too_long (c.in-Err-TooLong.is ∙ ap Err c.in-Err-TooLong.field-0-is))
