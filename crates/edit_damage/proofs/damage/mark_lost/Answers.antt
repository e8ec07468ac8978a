-- One element more.
use Rattle.std.proofs.Common.{get_or, [], ◌<◌, length, arith}
use Rattle.edit_damage.specs.Marks.{at_lost, at_lost_source}
use Rattle.edit_damage.proofs.Marking.{marked_both, one_more}
use Rattle.edit_damage.proofs.damage.mark_lost.Goals as goal

pub loop-place-preserved : goal.loop-place-preserved
loop-place-preserved c = let inside : c.loop-place.place < length c.args.one.now.elements = omega (arith, c.loop-place-test.true, c.len-place-end.ensures) in record {
  ends = marked_both _ _ _ c.args.ends.now c.loop-place.ends c.mark_where_lost.new.ends c.loop-place.invariant.ends c.mark_where_lost.ensures.ends
      (λ i below. one_more (at_lost c.args.other.now (get_or c.args.names.now i [])) c.args.one.now.elements c.loop-place.place c.element.result.now inside c.element.ensures);
  sources = marked_both _ _ _ c.args.sources.now c.loop-place.sources c.mark_where_lost.new.sources c.loop-place.invariant.sources c.mark_where_lost.ensures.sources
      (λ i below. one_more (at_lost_source c.args.other.now (get_or c.args.names.now i [])) c.args.one.now.elements c.loop-place.place c.element.result.now inside c.element.ensures);
}
