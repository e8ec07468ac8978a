-- The text of each refusal is told with its status.
use Rattle.wave_shell.specs.declared.refusal.Refusal.TheVariants.{Words, DeckTooLong, ScriptTooLong}
use Rattle.wave_shell.proofs.Endings.{refusal_told}
use Rattle.wave_shell.proofs.shell.refuse.Goals as goal

pub returns-in-Words-clause-ends : goal.returns-in-Words-clause-ends
returns-in-Words-clause-ends g c =
    refusal_told c.args.refusal.now Words c.say.result (g.K.Sink.written c.args.sink.now)
    (g.K.Sink.written c.say.new.sink)
    (g.K.Sink.faults c.args.sink.now) (g.K.Sink.faults c.say.new.sink) c.in-Words.is c.say.ensures.tells

pub returns-in-DeckTooLong-clause-ends : goal.returns-in-DeckTooLong-clause-ends
returns-in-DeckTooLong-clause-ends g c =
    refusal_told c.args.refusal.now DeckTooLong c.say-in-DeckTooLong.result (g.K.Sink.written c.args.sink.now)
    (g.K.Sink.written c.say-in-DeckTooLong.new.sink)
    (g.K.Sink.faults c.args.sink.now) (g.K.Sink.faults c.say-in-DeckTooLong.new.sink) c.in-DeckTooLong.is
    c.say-in-DeckTooLong.ensures.tells

pub returns-in-ScriptTooLong-clause-ends : goal.returns-in-ScriptTooLong-clause-ends
returns-in-ScriptTooLong-clause-ends g c =
    refusal_told c.args.refusal.now ScriptTooLong c.say-in-ScriptTooLong.result (g.K.Sink.written c.args.sink.now)
    (g.K.Sink.written c.say-in-ScriptTooLong.new.sink)
    (g.K.Sink.faults c.args.sink.now) (g.K.Sink.faults c.say-in-ScriptTooLong.new.sink) c.in-ScriptTooLong.is
    c.say-in-ScriptTooLong.ensures.tells
