-- The ends of the elements so far are marked.
use Rattle.std.proofs.Common.{get_or, take, []}
use Rattle.std.specs.List.{list_any}
use Rattle.edit_damage.specs.Marks.{at_lost, at_lost_source, AreMarked}
use Rattle.edit_damage.proofs.damage.mark_lost.Given as goal

abbrev pub invariant-loop-place : goal.invariant-loop-place
invariant-loop-place l = record {
  ends : AreMarked (λ i. list_any (at_lost l.other (get_or l.names i [])) (take l.place l.one.elements)) l.initial.ends l.ends;
  sources : AreMarked (λ i. list_any (at_lost_source l.other (get_or l.names i [])) (take l.place l.one.elements)) l.initial.sources l.sources;
}
