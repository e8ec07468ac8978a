-- What the window found by numbers is what it promises by names.
use Rattle.std.proofs.Common.{◌≡◌, ◌<◌, ◌≤◌, ◌+◌, ℕ, List, length, map, refl, sym, ap, ◌∙◌, arith, subst, Vec, Global}
use Rattle.std.specs.List.{All}
use Rattle.std.proofs.lemmas.List.{length-map}
use Rattle.semantics.specs.declared.line.Line.{Line}
use Rattle.node_ramps.specs.declared.ramp.Ramp.{Ramp}
use Rattle.histories.specs.Piece.{IsPiece, PieceValue}
use Rattle.window_run.specs.Found.{Found}
use Rattle.window_run.specs.Pieces.{piece_of}
use Rattle.window_run.specs.declared.stop.Stop.{Stop}
use Rattle.window_run.specs.declared.stop.Stop.TheVariants.{Budget, End}
use Rattle.window_run.specs.Window.{WindowValue, piece_value}
use Rattle.window_run.proofs.Promises.{all_counted, are_inside, each_turns, has_events, has_pieces, is_window, mended, no_worse, shapes}
use Rattle.window_run.proofs.window_of.run_window.Goals as goal

pub hand_out-requires-clause-inside : goal.hand_out-requires-clause-inside
hand_out-requires-clause-inside g c =
    let ps : List (List Line) = map (λ (v : Vec Ramp Global). v.items) c.in_ok-courses.courses.ramps.items in
    let all = are_inside c.args.task.now c.in_ok-courses.courses.until ps c.in_ok-courses.ensures.found in
    subst (λ (ns : List ℕ). All (λ i. i < length c.in_ok-courses.courses.ramps.items) ns) (sym c.deref.ensures.value)
    (λ k d h. let a = all k d h in let e = length-map c.in_ok-courses.courses.ramps.items (λ (v : Vec Ramp Global). v.items) in omega (arith, a, e))

pub hand_out-requires-clause-shape : goal.hand_out-requires-clause-shape
hand_out-requires-clause-shape g c =
    let ps : List (List Line) = map (λ (v : Vec Ramp Global). v.items) c.in_ok-courses.courses.ramps.items in
    subst (λ (ns : List ℕ). All (λ i. IsPiece c.args.task.now.from c.in_ok-courses.courses.until (piece_of ps i)) ns) (sym c.deref.ensures.value)
    (shapes c.args.task.now c.in_ok-courses.courses.until ps c.in_ok-courses.ensures.found)

pub invariant_of-result : goal.invariant_of-result
invariant_of-result g c =
    let ps : List (List Line) = map (λ (v : Vec Ramp Global). v.items) c.in_ok-courses.courses.ramps.items in
    let w : WindowValue = record { from = c.args.task.now.from; until = c.in_ok-courses.courses.until; stop = c.stop_at.result; pieces = c.in_ok-pieces.pieces.items } in
    let is : w.pieces ≡ map (piece_value c.args.task.now.from w.until ps) c.args.task.now.nodes.items = c.in_ok-pieces.ensures ∙ ap (map (piece_value c.args.task.now.from w.until ps)) c.deref.ensures.value in
    let found : Found c.args.task.now w.until ps = c.in_ok-courses.ensures.found in
    is_window c.args.task.now w.until ps found w (has_pieces c.args.task.now w.until ps found w refl refl is)

pub returns-clause-mended : goal.returns-clause-mended
returns-clause-mended g c =
    let ps : List (List Line) = map (λ (v : Vec Ramp Global). v.items) c.in_ok-courses.courses.ramps.items in
    let w : WindowValue = record { from = c.args.task.now.from; until = c.in_ok-courses.courses.until; stop = c.stop_at.result; pieces = c.in_ok-pieces.pieces.items } in
    let is : w.pieces ≡ map (piece_value c.args.task.now.from w.until ps) c.args.task.now.nodes.items = c.in_ok-pieces.ensures ∙ ap (map (piece_value c.args.task.now.from w.until ps)) c.deref.ensures.value in
    let found : Found c.args.task.now w.until ps = c.in_ok-courses.ensures.found in
    mended c.args.task.now w.until ps found w refl is

pub returns-clause-no_worse : goal.returns-clause-no_worse
returns-clause-no_worse g c =
    let ps : List (List Line) = map (λ (v : Vec Ramp Global). v.items) c.in_ok-courses.courses.ramps.items in
    let w : WindowValue = record { from = c.args.task.now.from; until = c.in_ok-courses.courses.until; stop = c.stop_at.result; pieces = c.in_ok-pieces.pieces.items } in
    let is : w.pieces ≡ map (piece_value c.args.task.now.from w.until ps) c.args.task.now.nodes.items = c.in_ok-pieces.ensures ∙ ap (map (piece_value c.args.task.now.from w.until ps)) c.deref.ensures.value in
    let found : Found c.args.task.now w.until ps = c.in_ok-courses.ensures.found in
    no_worse c.args.task.now w.until ps found w

pub returns-clause-pieces : goal.returns-clause-pieces
returns-clause-pieces g c =
    let ps : List (List Line) = map (λ (v : Vec Ramp Global). v.items) c.in_ok-courses.courses.ramps.items in
    let w : WindowValue = record { from = c.args.task.now.from; until = c.in_ok-courses.courses.until; stop = c.stop_at.result; pieces = c.in_ok-pieces.pieces.items } in
    let is : w.pieces ≡ map (piece_value c.args.task.now.from w.until ps) c.args.task.now.nodes.items = c.in_ok-pieces.ensures ∙ ap (map (piece_value c.args.task.now.from w.until ps)) c.deref.ensures.value in
    let found : Found c.args.task.now w.until ps = c.in_ok-courses.ensures.found in
    has_pieces c.args.task.now w.until ps found w refl refl is

pub returns-clause-turns : goal.returns-clause-turns
returns-clause-turns g c =
    let ps : List (List Line) = map (λ (v : Vec Ramp Global). v.items) c.in_ok-courses.courses.ramps.items in
    let w : WindowValue = record { from = c.args.task.now.from; until = c.in_ok-courses.courses.until; stop = c.stop_at.result; pieces = c.in_ok-pieces.pieces.items } in
    let is : w.pieces ≡ map (piece_value c.args.task.now.from w.until ps) c.args.task.now.nodes.items = c.in_ok-pieces.ensures ∙ ap (map (piece_value c.args.task.now.from w.until ps)) c.deref.ensures.value in
    let found : Found c.args.task.now w.until ps = c.in_ok-courses.ensures.found in
    each_turns c.args.task.now w.until ps found w refl is

pub returns-clause-steps : goal.returns-clause-steps
returns-clause-steps g c =
    let ps : List (List Line) = map (λ (v : Vec Ramp Global). v.items) c.in_ok-courses.courses.ramps.items in
    let w : WindowValue = record { from = c.args.task.now.from; until = c.in_ok-courses.courses.until; stop = c.stop_at.result; pieces = c.in_ok-pieces.pieces.items } in
    let is : w.pieces ≡ map (piece_value c.args.task.now.from w.until ps) c.args.task.now.nodes.items = c.in_ok-pieces.ensures ∙ ap (map (piece_value c.args.task.now.from w.until ps)) c.deref.ensures.value in
    let found : Found c.args.task.now w.until ps = c.in_ok-courses.ensures.found in
    c.in_ok-courses.ensures.steps ∙ ap (λ k. c.args.steps.now + k) (all_counted c.args.task.now w.until ps found w is)

pub returns-clause-budget : goal.returns-clause-budget
returns-clause-budget g c = λ (why : c.stop_at.result ≡ Budget).
    let ps : List (List Line) = map (λ (v : Vec Ramp Global). v.items) c.in_ok-courses.courses.ramps.items in
    let w : WindowValue = record { from = c.args.task.now.from; until = c.in_ok-courses.courses.until; stop = c.stop_at.result; pieces = c.in_ok-pieces.pieces.items } in
    let is : w.pieces ≡ map (piece_value c.args.task.now.from w.until ps) c.args.task.now.nodes.items = c.in_ok-pieces.ensures ∙ ap (map (piece_value c.args.task.now.from w.until ps)) c.deref.ensures.value in
    let found : Found c.args.task.now w.until ps = c.in_ok-courses.ensures.found in
    let apart : (w.until ≡ c.args.task.now.end → ⊥) = λ e. let clash : End ≡ Budget = sym (c.stop_at.ensures.1 e) ∙ why in cc in
    let by_end = c.in_ok-courses.ensures.by_end in
    has_events c.args.task.now w.until ps found w c.args.task.now.budget refl is (c.in_ok-courses.ensures.budget (omega (arith, by_end, apart)))
