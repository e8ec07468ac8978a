use Rattle.std.proofs.Common.{refl}
use Rattle.wave_shell.specs.declared.status.Status.TheVariants.{Memory}
use Rattle.wave_shell.proofs.Endings.{played, silent, appends_none}
use Rattle.wave_shell.proofs.play.play_script.Goals as goal

pub returns-in-Err-clause-ends : goal.returns-in-Err-clause-ends
returns-in-Err-clause-ends g c =
    silent (played c.args.deck c.args.script.now) Memory (g.K.Sink.written c.args.sink.now)
    (g.K.Sink.written c.args.sink.now) (g.K.Sink.faults c.args.sink.now) (g.K.Sink.faults c.args.sink.now)
    (refl, appends_none (g.K.Sink.written c.args.sink.now))
