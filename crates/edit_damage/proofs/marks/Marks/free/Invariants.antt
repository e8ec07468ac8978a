-- What passes of the numbers so far.
use Rattle.std.proofs.Common.{◌≡◌}
use Rattle.edit_damage.specs.Marks.{free_marked}
use Rattle.edit_damage.proofs.marks.Marks.free.Given as goal

abbrev pub invariant-loop-node : goal.invariant-loop-node
invariant-loop-node l = l.found.items ≡ free_marked l.circuit l.self l.node
