-- The node's lines are others.
use Rattle.std.proofs.Common.{◌≡◌, ◌<◌, ◌∙◌, sym, length, get_or, Some, None}
use Rattle.std.proofs.lemmas.List.{get_or_default}
use Rattle.histories.proofs.Records.{kept_inside, on_ok_two, started_again}
use Rattle.histories.proofs.histories.Histories.restart.Goals as goal

pub returns-clause-ok : goal.returns-clause-ok
returns-clause-ok c =
    let kept = rw (← c.self.view_is) at c.requires.kept in
    let inside : c.args.place < length c.self.inside.tracks.items = kept_inside c.self.inside.tracks.items c.args.place kept in
    let was : get_or c.self.inside.tracks.items c.args.place None ≡ Some c.in-Some.track = get_or_default c.self.inside.tracks.items c.args.place None c.index_mut.result.now inside ∙ sym c.index_mut.ensures.value ∙ c.in-Some.is in
    rw (← c.self.view_is) (on_ok_two c.start.result (λ first later. started_again (record { stop = c.self.inside.stop; tracks = c.self.inside.tracks.items }) c.args.place c.in-Some.track c.start.new.self _ inside was first later) c.start.ensures.first c.start.ensures.later)
