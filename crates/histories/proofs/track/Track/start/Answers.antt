-- A line of one tick, and the record's lines from the next on.
use Rattle.std.proofs.Common.{[], ◌∷◌, ◌∙◌, arith}
use Rattle.histories.proofs.Joins.{before_one, join_after, join_before, pair_one, track_join, track_one}
use Rattle.histories.proofs.track.Track.start.Goals as goal

pub invariant_of-self : goal.invariant_of-self
invariant_of-self c =
    let e = c.in_ok-extend_from.ensures in
    rw (e.2, c.in_ok-ramps.ensures.items) (track_join 0 1 (c.args.ramp ∷ []) e.0 (track_one 0 c.args.ramp c.requires.start c.requires.bounded) (before_one c.args.ramp c.requires.start) e.1.track)

pub returns-clause-first : goal.returns-clause-first
returns-clause-first c =
    let e = c.in_ok-extend_from.ensures in
    rw (e.2, c.in_ok-ramps.ensures.items) (join_before (c.args.ramp ∷ []) e.0 1 0 (omega arith) e.1.track.lines (omega arith) ∙ pair_one c.args.ramp 0)

pub returns-clause-later : goal.returns-clause-later
returns-clause-later c = λ t h.
    let e = c.in_ok-extend_from.ensures in
    rw (e.2, c.in_ok-ramps.ensures.items) (join_after (c.args.ramp ∷ []) e.0 1 t (omega arith) (before_one c.args.ramp c.requires.start) e.1.track.lines (omega (arith, h)) ∙ e.1.pairs t (omega (arith, h)))
