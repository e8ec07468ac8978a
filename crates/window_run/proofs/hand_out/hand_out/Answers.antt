-- One piece more.
use Rattle.std.proofs.Common.{◌≡◌, ◌≢◌, ◌<◌, ◌≤◌, ◌+◌, ◌++◌, ◌∷◌, [], ℕ, List, get_or, length, map, take, refl, sym, ap, ◌∙◌, arith, subst, Vec, Global}
use Rattle.std.proofs.lemmas.List.{map_more, take_all}
use Rattle.semantics.specs.declared.line.Line.{Line}
use Rattle.node_ramps.specs.declared.ramp.Ramp.{Ramp}
use Rattle.histories.specs.Piece.{IsPiece, PieceValue}
use Rattle.window_run.specs.Pieces.{piece_of}
use Rattle.window_run.specs.Window.{piece_value}
use Rattle.window_run.proofs.hand_out.hand_out.Goals as goal

pub piece-requires : goal.piece-requires
piece-requires c =
    let k : ℕ = c.loop-node.node-index in
    subst (λ ls. IsPiece c.args.from c.args.until ls) (sym (c.take-own.ensures.taken ∙ c.loop-node.invariant.left k (omega arith) c.loop-node-test.true)) (c.requires.shape k 0 c.loop-node-test.true)

pub loop-node-preserved : goal.loop-node-preserved
loop-node-preserved c =
    let k : ℕ = c.loop-node.node-index in
    let node : ℕ = get_or c.args.nodes.now k 0 in
    let ps : List (List Line) = map (λ (v : Vec Ramp Global). v.items) c.args.ramps.items in
    let f : ℕ → PieceValue = piece_value c.args.from c.args.until ps in
    let own = c.take-own.ensures.taken ∙ c.loop-node.invariant.left k (omega arith) c.loop-node-test.true in
    let made : c.piece.result ≡ f node = c.piece.ensures ∙ ap (λ (ls : List Line). record { node = node; from = c.args.from; until = c.args.until; lines = ls }) own in
    record {
      count = c.take-own.ensures.count ∙ c.loop-node.invariant.count;
      done = c.in_ok-push.ensures.items ∙ ap (λ (ps : List PieceValue). ps ++ c.piece.result ∷ []) c.loop-node.invariant.done ∙ ap (λ (p : PieceValue). map f (take k c.args.nodes.now) ++ p ∷ []) made ∙ sym (map_more f c.args.nodes.now k 0 c.loop-node-test.true);
      left = λ j h inside. c.take-own.ensures.others (get_or c.args.nodes.now j 0) (c.requires.different k j (omega (arith, h)) inside) ∙ c.loop-node.invariant.left j (omega (arith, h)) inside;
    }

pub returns : goal.returns
returns c =
    let ps : List (List Line) = map (λ (v : Vec Ramp Global). v.items) c.args.ramps.items in
    c.loop-node.invariant.done ∙ ap (map (piece_value c.args.from c.args.until ps)) (take_all c.loop-node.node-index c.args.nodes.now c.loop-node-test.false)
