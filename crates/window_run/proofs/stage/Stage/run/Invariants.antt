-- Nothing is wrong so far, and the next event tick is known.
use Rattle.std.proofs.Common.{◌-◌, ◌≤◌, map}
use Rattle.window_run.specs.Pieces.{Counts, OthersKept, PiecesKept}
use Rattle.window_run.specs.Stage.{IsUnderWay}
use Rattle.window_run.specs.Circuit.{net_of}
use Rattle.window_run.proofs.stage.Stage.run.Given as goal

abbrev pub invariant-loop-next : goal.invariant-loop-next
invariant-loop-next g l = record {
  way : IsUnderWay (net_of l.circuit) l.self (map (λ v. v.items) l.pieces) l.from l.next l.end l.taken;
  most : l.taken ≤ l.budget;
  kept : PiecesKept (net_of l.circuit) (map (λ v. v.items) l.initial.pieces) (map (λ v. v.items) l.pieces) l.from;
  others : OthersKept (net_of l.circuit) (map (λ v. v.items) l.initial.pieces) (map (λ v. v.items) l.pieces);
  steps : Counts l.initial.steps l.steps (map (λ v. v.items) l.initial.pieces) (map (λ v. v.items) l.pieces);
}

abbrev pub decreases-loop-next : goal.decreases-loop-next
decreases-loop-next g l = l.budget - l.taken
