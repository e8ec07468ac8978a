-- One span more of either set.
use Rattle.regions.proofs.Joins.{all_merged, none_merged, one_merged, other_merged}
use Rattle.regions.proofs.spans.merged.Goals as goal

pub loop-place-init : goal.loop-place-init
loop-place-init c = rw c.new-both.ensures.items (none_merged c.args.one.now c.args.other.now)

pub loop-place-preserved-then-is_next : goal.loop-place-preserved-then-is_next
loop-place-preserved-then-is_next c = one_merged c.args.one.now c.args.other.now c.loop-place.both.items c.push_joined.new.spans.items c.loop-place.place c.loop-place.other_place
    c.requires.one c.loop-place.invariant (c.is_next.ensures.one c.if-is_next.true) (c.in_ok-push_joined.ensures {u = tt})

pub loop-place-preserved : goal.loop-place-preserved
loop-place-preserved c = other_merged c.args.one.now c.args.other.now c.loop-place.both.items c.push_joined-else-is_next.new.spans.items c.loop-place.place c.loop-place.other_place
    c.requires.other c.loop-place.invariant (c.is_next.ensures.other c.if-is_next.false) (c.in_ok-push_joined-2.ensures {u = tt})

pub returns : goal.returns
returns c = all_merged c.args.one.now c.args.other.now c.loop-place.both.items c.loop-place.place c.loop-place.other_place c.if-place-one.false c.if-other_place-other.false c.loop-place.invariant
