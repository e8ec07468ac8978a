-- Each driven node that is not still to do has the line of its source, and what has changed is noted.
use Rattle.std.proofs.Common.{drop}
use Rattle.window_run.specs.Stage.{AreLater, AreLines, BendsBut, IsFrom, Keeps, LineSameOrNear, OnlyDriven, SameFree}
use Rattle.window_run.specs.Circuit.{net_of}
use Rattle.window_run.proofs.bend.bend.Given as goal

abbrev pub invariant-loop-node : goal.invariant-loop-node
invariant-loop-node l = record {
  lines : AreLines l.lines l.now l.end;
  bends : BendsBut (drop l.node-index l.todo) (net_of l.circuit) l.lines l.now l.end l.bends;
  later : AreLater l.bends l.now;
  driven : OnlyDriven (net_of l.circuit) l.bends;
  free : SameFree (net_of l.circuit) l.initial.lines l.lines;
  looks : LineSameOrNear (net_of l.circuit) l.initial.lines l.lines l.looks.items;
  from : IsFrom (net_of l.circuit) l.initial.looks.items l.looks.items;
  kept : Keeps l.initial.looks.items l.looks.items;
}
