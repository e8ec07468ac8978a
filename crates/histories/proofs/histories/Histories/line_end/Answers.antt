-- The end of that line in its record.
use Rattle.histories.specs.Track.{pair}
use Rattle.histories.proofs.Records.{pairs_of}
use Rattle.histories.proofs.Waves.{goes_past, line_starts, starts_at}
use Rattle.histories.proofs.histories.Histories.line_end.Goals as goal

pub line_end-requires-clause-start : goal.line_end-requires-clause-start
line_end-requires-clause-start c =
    let tick = rw (← c.self.view_is) at c.requires.tick in
    rw (c.line.ensures.line, starts_at (pair c.track-track.result.now) c.self.inside.stop c.args.tick) tick

pub line_end-requires-clause-pair : goal.line_end-requires-clause-pair
line_end-requires-clause-pair c = line_starts (pair c.track-track.result.now) c.self.inside.stop c.args.tick c.line.result c.line.ensures.line

pub returns-clause-end : goal.returns-clause-end
returns-clause-end c =
    let end = rw c.line.ensures.line at c.line_end.ensures in
    rw (pairs_of c.args.self.now c.args.node c.track-track.result.now c.track-track.ensures.track, ← c.self.view_is) end

pub returns-clause-later : goal.returns-clause-later
returns-clause-later c = λ below joined.
    let end = rw c.line.ensures.line at c.line_end.ensures in
    let here = rw (← c.self.view_is) at below in
    let both = rw (pairs_of c.args.self.now c.args.node c.track-track.result.now c.track-track.ensures.track) at joined in
    goes_past (pair c.track-track.result.now) c.self.inside.stop c.args.tick c.line_end.result end here both
