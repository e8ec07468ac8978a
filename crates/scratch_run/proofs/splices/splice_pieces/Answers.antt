-- The last piece goes in.
use Rattle.std.proofs.Common.{◌≡◌, ◌++◌, ◌∷◌, [], List, Some, subst}
use Rattle.std.proofs.lemmas.List.Elements.{All-pop}
use Rattle.histories.specs.Piece.{PieceValue}
use Rattle.scratch_run.specs.Splices.{Takes}
use Rattle.scratch_run.proofs.Put.{IsLeft, left_less}
use Rattle.scratch_run.proofs.splices.splice_pieces.Goals as goal

pub loop-piece-preserved : goal.loop-piece-preserved
loop-piece-preserved c =
    let left : List PieceValue = c.pop.new.self.items in
    let p : PieceValue = c.in-Some.piece in
    let items : c.loop-piece.pieces.items ≡ left ++ p ∷ [] = c.in-Some.ensures.items in
    left_less c.args.past.now c.loop-piece.past c.splice.new.self c.args.pieces.items left p
    (subst (IsLeft c.args.past.now c.loop-piece.past c.args.pieces.items) items c.loop-piece.invariant)
    (All-pop (Takes c.loop-piece.past) c.loop-piece.pieces.items left (Some p) items c.loop-piece.invariant.takes).0
    (c.in_ok-splice.ensures.ok)
