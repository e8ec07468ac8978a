-- Each device that is not still to be looked at is known to stay until it is due.
use Rattle.std.proofs.Common.{drop}
use Rattle.window_run.specs.Stage.{AreInside, AreLater, DuesBut}
use Rattle.window_run.specs.Circuit.{net_of}
use Rattle.window_run.proofs.look.look.Given as goal

abbrev pub invariant-loop-device : goal.invariant-loop-device
invariant-loop-device l = record {
  dues : DuesBut (drop l.device-index l.todo) (net_of l.circuit) l.lines l.now l.end l.cells l.dues;
  later : AreLater l.dues l.now;
  inside : AreInside (net_of l.circuit).devices l.dues;
}
