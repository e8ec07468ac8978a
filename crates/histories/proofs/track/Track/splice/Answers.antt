-- Part by part.
use Rattle.std.proofs.lemmas.Result.{on_ok_weaker}
use Rattle.histories.specs.Track.{IsTrack, pair}
use Rattle.histories.proofs.Joins.{between_ends}
use Rattle.histories.proofs.track.Track.splice.Goals as goal

pub replace_from-requires : goal.replace_from-requires
replace_from-requires c = c.in_ok-extend_after.ensures.track c.begin-begin.result c.begin-begin.ensures.track

pub returns-clause-ok : goal.returns-clause-ok
returns-clause-ok c =
    let made : IsTrack c.begin-begin.result c.begin-begin.new.ramps.items = c.begin-begin.ensures.track in
    let order = rw (← c.from-from.ensures.from, ← c.until-until.ensures) at c.into_ramps-ramps.ensures.piece.shape.ordered in
    on_ok_weaker c.replace_from.result (λ ok. λ t h. rw (← c.from-from.ensures.from, ← c.until-until.ensures, ← c.into_ramps-ramps.ensures.ramps) (between_ends c.from-from.result c.until-until.result c.begin-begin.result c.args.stop t
    (pair c.args.self.now) (pair c.replace_from.new.self) (pair c.begin-begin.new.ramps.items) (pair c.extend_after.new.ramps.items) (pair c.into_ramps-ramps.result.items)
    c.begin-begin.ensures.tick_from c.begin-begin.ensures.tick_to order h (ok t)
    (λ near. c.in_ok-extend_after.ensures.before c.begin-begin.result t made near)
    (λ far. c.in_ok-extend_after.ensures.after c.begin-begin.result t made far h)
    (λ late. c.begin-begin.ensures.pairs t late) c.begin-begin.ensures.first)) c.replace_from.ensures.ok
