-- A level line at a place that had none.
use Rattle.std.proofs.Common.{◌∙◌, sym, arith}
use Rattle.std.specs.Int.{w128}
use Rattle.std.proofs.lemmas.Int.{to_z-of_z, fits_signed_from_abs}
use Rattle.histories.proofs.Records.{started_new}
use Rattle.histories.proofs.histories.Histories.start.Goals as goal

pub returns-clause-ok : goal.returns-clause-ok
returns-clause-ok c =
    let unknown = rw (← c.self.view_is) at (sym c.keeps.ensures ∙ c.if-keeps.false) in
    let num = to_z-of_z w128 c.args.num (fits_signed_from_abs w128 c.args.num (omega (arith, c.requires.num))) in
    rw (c.in_ok-track.ensures, c.still-ramp.ensures, num, ← c.self.view_is) (started_new (record { stop = c.self.inside.stop; tracks = c.self.inside.tracks.items }) c.reach.new.tracks.items c.args.node c.args.num c.args.den c.in_ok-reach.ensures.inside c.in_ok-reach.ensures.same unknown)
