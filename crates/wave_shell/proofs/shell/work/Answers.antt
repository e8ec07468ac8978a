-- The text of a deck alone is its waves.
use Rattle.std.specs.Prelude.{string_bytes}
use Rattle.wave_shell.proofs.Endings.{waves_told}
use Rattle.wave_shell.proofs.shell.work.Goals as goal

pub returns-in-None-clause-ends : goal.returns-in-None-clause-ends
returns-in-None-clause-ends g c =
    waves_told string_bytes c.args.job c.run_text.result c.say_made.result (g.K.Sink.written c.args.sink.now)
    (g.K.Sink.written c.say_made.new.sink)
    (g.K.Sink.faults c.args.sink.now) (g.K.Sink.faults c.say_made.new.sink) c.in-None.is c.run_text.ensures
    c.say_made.ensures.tells
