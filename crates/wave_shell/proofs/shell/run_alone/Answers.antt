-- What the words gave was answered.
use Rattle.std.proofs.Common.{map}
use Rattle.std.specs.Prelude.{string_bytes}
use Rattle.wave_shell.proofs.Clauses.{clauses}
use Rattle.wave_shell.proofs.shell.run_alone.Goals as goal

pub returns : goal.returns
returns g c =
    let r = clauses (g.S.Shelf.bytes c.args.shelf.now) (map string_bytes c.args.words.now)
    (g.S.Shelf.faults c.args.shelf.now) (g.S.Shelf.faults c.judge-given.new.shelf)
    (g.K.Sink.written c.args.sink.now) (g.K.Sink.written c.answer.new.sink) (g.K.Sink.faults c.args.sink.now)
    (g.K.Sink.faults c.answer.new.sink)
    c.answer.result c.judge-given.result c.judge-given.ensures.judged c.answer.ensures.answers in
    record {
      answered = r.answered;
      words = r.words';
      script = r.script;
      read = r.read;
      write = r.write;
      front = r.front;
      complete = r.complete;
      names = c.judge-given.ensures.names;
      bytes = c.judge-given.ensures.bytes;
      shelf_later = c.judge-given.ensures.later;
      sink_later = c.answer.ensures.later;
    }
