-- The node's lines are others.
use Rattle.std.proofs.Common.{◌≡◌, ◌<◌, ◌∙◌, sym, length, get_or, Some, None}
use Rattle.std.proofs.lemmas.List.{get_or_default}
use Rattle.std.proofs.lemmas.Result.{on_ok_weaker}
use Rattle.histories.proofs.Records.{kept_inside, spliced}
use Rattle.histories.proofs.histories.Histories.splice.Goals as goal

pub returns-clause-ok : goal.returns-clause-ok
returns-clause-ok c =
    let kept = rw (← c.self.view_is) at c.requires.kept in
    let inside : c.args.piece.node < length c.self.inside.tracks.items = kept_inside c.self.inside.tracks.items c.args.piece.node kept in
    let here : c.node.result < length c.self.inside.tracks.items = rw c.node.ensures inside in
    let was : get_or c.self.inside.tracks.items c.node.result None ≡ Some c.in-Some.track = get_or_default c.self.inside.tracks.items c.node.result None c.index_mut.result.now here ∙ sym c.index_mut.ensures.value ∙ c.in-Some.is in
    let same = rw c.node.ensures at was in
    rw (← c.self.view_is, c.node.ensures) (on_ok_weaker c.splice.result (λ ok. spliced (record { stop = c.self.inside.stop; tracks = c.self.inside.tracks.items }) c.args.piece c.in-Some.track c.splice.new.self inside same ok) c.splice.ensures.ok)
