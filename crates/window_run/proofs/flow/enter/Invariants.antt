-- Each device that is not still to do is in the cell of its lines, and flows so.
use Rattle.std.proofs.Common.{drop}
use Rattle.window_run.specs.Stage.{AmpsAre, CellsBut, RateSameOrNoted, RatesAre, SameBut}
use Rattle.window_run.specs.Circuit.{net_of}
use Rattle.window_run.proofs.flow.enter.Given as goal

abbrev pub invariant-loop-device : goal.invariant-loop-device
invariant-loop-device l = record {
  cells : CellsBut (drop l.device-index l.todo) (net_of l.circuit) l.lines l.cells l.now;
  amps : AmpsAre (net_of l.circuit) l.cells l.amps;
  rates : RatesAre (net_of l.circuit) l.amps l.rates;
  others : SameBut l.todo l.initial.cells l.cells;
  turned : RateSameOrNoted l.initial.rates l.rates l.turned.items;
}
