-- The pieces of the nodes so far, and the ramps of those that are left.
use Rattle.std.proofs.Common.{◌≡◌, ◌<◌, ◌≤◌, ℕ, get_or, length, map, take}
use Rattle.window_run.specs.Pieces.{piece_of}
use Rattle.window_run.specs.Window.{piece_value}
use Rattle.window_run.proofs.hand_out.hand_out.Given as goal

abbrev pub invariant-loop-node : goal.invariant-loop-node
invariant-loop-node l = record {
  count : length l.ramps.items ≡ length l.fn.ramps.items;
  done : l.pieces.items ≡ map (piece_value l.from l.until (map (λ v. v.items) l.fn.ramps.items)) (take l.node-index l.nodes);
  left : (k : ℕ) → l.node-index ≤ k → k < length l.nodes → piece_of (map (λ v. v.items) l.ramps.items) (get_or l.nodes k 0) ≡ piece_of (map (λ v. v.items) l.fn.ramps.items) (get_or l.nodes k 0);
}
