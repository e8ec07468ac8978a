-- What is around the marked numbers so far is marked.
use Rattle.edit_damage.specs.Marks.{is_around_marked, AreMarked}
use Rattle.edit_damage.proofs.marks.Marks.mark_around_all.Given as goal

abbrev pub invariant-loop-node : goal.invariant-loop-node
invariant-loop-node l = AreMarked (is_around_marked l.circuit.deck l.circuit.names l.others l.node) l.initial.self l.self
