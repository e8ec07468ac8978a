-- The line's voltage at the tick.
use Rattle.std.proofs.Common.{◌≡◌, List, sym, ap, ◌∙◌}
use Rattle.std.proofs.lemmas.List.{get_or_default}
use Rattle.semantics.specs.declared.line.Line.{Line}
use Rattle.node_ramps.specs.Lines.{voltage}
use Rattle.histories.specs.Track.{no_line, line_of}
use Rattle.histories.proofs.Places.{num_small, pair_at_place}
use Rattle.histories.proofs.track.Track.pair_in.Goals as goal

pub returns-clause-pair : goal.returns-clause-pair
returns-clause-pair c =
    let ls : List Line = c.self.inside.ramps.items in
    let p = rw (← c.self.view_is) at c.requires.place in
    let is : c.index.result.now ≡ line_of ls c.args.place = c.index.ensures ∙ sym (get_or_default ls c.args.place no_line c.index.result.now p.inside) in
    rw (← c.self.view_is) (c.voltage.ensures ∙ ap (λ (l : Line). voltage l c.args.tick) (c.line.ensures ∙ is) ∙ sym (pair_at_place ls c.args.tick c.args.place c.self.invariant.lines.rising p))

pub returns-clause-bound : goal.returns-clause-bound
returns-clause-bound c =
    let ls : List Line = c.self.inside.ramps.items in
    let p = rw (← c.self.view_is) at c.requires.place in
    let is : c.index.result.now ≡ line_of ls c.args.place = c.index.ensures ∙ sym (get_or_default ls c.args.place no_line c.index.result.now p.inside) in
    rw (c.voltage.ensures, c.line.ensures, is) (num_small (line_of ls c.args.place) c.args.tick (c.self.invariant.bounded c.args.place no_line p.inside) p.started)
