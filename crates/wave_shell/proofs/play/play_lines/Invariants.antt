-- The lines so far were played, and their text was written.
use Rattle.std.proofs.Common.{◌≤◌}
use Rattle.wave_shell.proofs.Endings.{IsPlayed}
use Rattle.wave_shell.proofs.play.play_lines.Given as goal

abbrev pub invariant-loop-place : goal.invariant-loop-place
invariant-loop-place g l = record {
  played : IsPlayed l.fn.session.base l.script l.place l.session (g.K.Sink.written l.fn.sink) (g.K.Sink.written l.sink);
  later : g.K.Sink.faults l.fn.sink ≤ g.K.Sink.faults l.sink;
}
