-- Each node that is not still to do has its rate, and what has changed is noted.
use Rattle.std.proofs.Common.{◌≡◌, ◌<◌, ◌⊎◌, ℕ, true, drop, get_or, map, pos}
use Rattle.histories.specs.Track.{line_of}
use Rattle.window_run.specs.Pieces.{Counts, OthersKept, PiecesGo, PiecesKept}
use Rattle.window_run.specs.Stage.{AreBounded, AreLines, AreSlow, IsFrom, Keeps, LineSameOrNear, LinesBut, SameDriven, SameVolts}
use Rattle.window_run.specs.Circuit.{net_of}
use Rattle.window_run.proofs.turn.turn.Given as goal

abbrev pub invariant-loop-node : goal.invariant-loop-node
invariant-loop-node g l = record {
  lines : AreLines l.lines l.now l.end;
  nums : AreBounded (net_of l.circuit) l.lines l.now;
  slow : AreSlow (net_of l.circuit) l.lines;
  todo : LinesBut (drop l.node-index l.todo) (net_of l.circuit) l.lines l.rates;
  early : (i : ℕ) → i < (net_of l.circuit).nodes → (net_of l.circuit).free i ≡ true → ((line_of l.lines i).start < l.now) ⊎ ((line_of l.lines i).rate ≡ get_or l.rates i (pos 0));
  volts : SameVolts l.initial.lines l.lines l.now;
  driven : SameDriven (net_of l.circuit) l.initial.lines l.lines;
  looks : LineSameOrNear (net_of l.circuit) l.initial.lines l.lines l.looks.items;
  from : IsFrom (net_of l.circuit) l.initial.looks.items l.looks.items;
  kept : Keeps l.initial.looks.items l.looks.items;
  pieces : PiecesGo (net_of l.circuit) l.from (map (λ v. v.items) l.pieces) l.lines;
  kept_pieces : PiecesKept (net_of l.circuit) (map (λ v. v.items) l.initial.pieces) (map (λ v. v.items) l.pieces) l.now;
  others : OthersKept (net_of l.circuit) (map (λ v. v.items) l.initial.pieces) (map (λ v. v.items) l.pieces);
  steps : Counts l.initial.steps l.steps (map (λ v. v.items) l.initial.pieces) (map (λ v. v.items) l.pieces);
}
