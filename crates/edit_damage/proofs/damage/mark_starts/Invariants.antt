-- The nodes so far that begin elsewhere are marked.
use Rattle.std.proofs.Common.{get_or, [], ◌&&◌, nat_eq}
use Rattle.std.specs.List.{list_any, range_with_len}
use Rattle.edit_damage.specs.Marks.{starts_apart, AreMarked}
use Rattle.edit_damage.proofs.damage.mark_starts.Given as goal

abbrev pub invariant-loop-node : goal.invariant-loop-node
invariant-loop-node l = AreMarked (λ i. list_any (λ k. starts_apart l.old l.new (get_or l.names k []) && nat_eq i k) (range_with_len 0 l.node)) l.initial.marks l.marks
