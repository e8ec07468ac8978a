-- The record's lines from the next tick on, after those.
use Rattle.std.proofs.Common.{◌+◌, List, ◌∙◌, arith}
use Rattle.semantics.specs.declared.line.Line.{Line}
use Rattle.histories.specs.Track.{no_line}
use Rattle.histories.proofs.Joins.{Before, join_after, join_before, track_join}
use Rattle.histories.proofs.track.Track.extend_after.Goals as goal

pub returns-in_ok-extend_from-clause-track : goal.returns-in_ok-extend_from-clause-track
returns-in_ok-extend_from-clause-track c = λ from track.
    let e = c.in_ok-extend_from.ensures in
    let old : List Line = c.args.ramps.now.items in
    let before : Before old (c.args.until + 1) = λ k h. (let by = c.requires.by k no_line h in omega (arith, by)) in
    rw e.2 (track_join from (c.args.until + 1) old e.0 track before e.1.track)

pub returns-in_ok-extend_from-clause-before : goal.returns-in_ok-extend_from-clause-before
returns-in_ok-extend_from-clause-before c = λ from t track h.
    let e = c.in_ok-extend_from.ensures in
    rw e.2 (join_before c.args.ramps.now.items e.0 (c.args.until + 1) t track.lines.some e.1.track.lines (omega (arith, h)))

pub returns-in_ok-extend_from-clause-after : goal.returns-in_ok-extend_from-clause-after
returns-in_ok-extend_from-clause-after c = λ from t track h k.
    let e = c.in_ok-extend_from.ensures in
    let old : List Line = c.args.ramps.now.items in
    let before : Before old (c.args.until + 1) = λ k h. (let by = c.requires.by k no_line h in omega (arith, by)) in
    rw e.2 (join_after old e.0 (c.args.until + 1) t track.lines.some before e.1.track.lines (omega (arith, h)) ∙ e.1.pairs t (omega (arith, h)))
