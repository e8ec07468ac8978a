-- Each line's text is written behind those before it.
use Rattle.std.proofs.Common.{ℕ, List, subst, sym, arith}
use Rattle.script_session.specs.Session.{Plays}
use Rattle.wave_shell.proofs.Endings.{ends_played, none_played, plays_on, stops_wanting, stops_writing}
use Rattle.wave_shell.proofs.play.play_lines.Goals as goal

pub returns-in_default-clause-ends : goal.returns-in_default-clause-ends
returns-in_default-clause-ends g c =
    stops_wanting c.args.session.base c.args.script.now c.loop-place.place c.loop-place.session
    (g.K.Sink.written c.args.sink.now) (g.K.Sink.written c.loop-place.sink)
    (g.K.Sink.faults c.args.sink.now) (g.K.Sink.faults c.loop-place.sink) c.loop-place.invariant.played

pub returns-in_default-write_all-clause-ends : goal.returns-in_default-write_all-clause-ends
returns-in_default-write_all-clause-ends g c =
    let ends = c.in_default-write_all.ensures {u = tt} in
    stops_writing c.args.session.base c.args.script.now c.loop-place.place c.get-line.result.0 c.get-line.result.1.now
    c.loop-place.session c.play.new.self
    (g.K.Sink.written c.args.sink.now) (g.K.Sink.written c.loop-place.sink) (g.K.Sink.written c.write_all.new.sink)
    c.as_bytes.result.now
    (g.K.Sink.faults c.args.sink.now) (g.K.Sink.faults c.loop-place.sink) (g.K.Sink.faults c.write_all.new.sink)
    c.get-line.ensures c.loop-place.invariant.played
    (subst (λ (text : List ℕ). Plays c.loop-place.session c.get-line.result.0 c.get-line.result.1.now text
    c.play.new.self) (sym c.as_bytes.ensures.value) (c.in-Ok.ensures {u = tt}))
    ends.front c.loop-place.invariant.later ends.cause.rose

pub loop-place-init : goal.loop-place-init
loop-place-init g c = record {
  played = none_played c.args.session.base c.args.script.now c.args.session (g.K.Sink.written c.args.sink.now) c.requires;
  later = omega arith;
}

pub loop-place-preserved : goal.loop-place-preserved
loop-place-preserved g c = record {
  played = plays_on c.args.session.base c.args.script.now c.loop-place.place c.get-line.result.0
      c.get-line.result.1.now c.loop-place.session c.play.new.self
      (g.K.Sink.written c.args.sink.now) (g.K.Sink.written c.loop-place.sink) (g.K.Sink.written c.write_all.new.sink)
      c.as_bytes.result.now
      c.get-line.ensures c.loop-place.invariant.played
      (subst (λ (text : List ℕ). Plays c.loop-place.session c.get-line.result.0 c.get-line.result.1.now text
      c.play.new.self) (sym c.as_bytes.ensures.value) (c.in-Ok.ensures {u = tt}))
      (c.in-Ok-write_all.ensures {u = tt}).all;
  later = omega arith;
}

pub returns-clause-ends : goal.returns-clause-ends
returns-clause-ends g c =
    ends_played c.args.session.base c.args.script.now c.loop-place.place c.loop-place.session
    (g.K.Sink.written c.args.sink.now) (g.K.Sink.written c.loop-place.sink)
    (g.K.Sink.faults c.args.sink.now) (g.K.Sink.faults c.loop-place.sink) c.loop-place.invariant.played (omega arith)
