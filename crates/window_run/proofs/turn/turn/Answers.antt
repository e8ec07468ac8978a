-- One node more is done.
use Rattle.std.proofs.Common.{◌≡◌, ◌<◌, ◌≤◌, ◌≢◌, ◌⊎◌, ◌++◌, ℕ, ℤ, List, [], ◌∷◌, true, get_or, set, drop, map, length, pos, refl, sym, ap, ◌∙◌, arith, to_z, of_z, unsigned_abs, ◌^◌, FitsSigned, Vec, Global, inl, inr, ⊎_elim}
use Rattle.std.specs.Int.{w128}
use Rattle.std.specs.List.{Contains}
use Rattle.std.proofs.lemmas.Int.{to_z-of_z, fits_signed_from_abs}
use Rattle.std.proofs.lemmas.List.{get_or-map, length-map}
use Rattle.std.proofs.lemmas.List.Elements.{Contains-append_left}
use Rattle.semantics.specs.declared.line.Line.{Line}
use Rattle.node_ramps.specs.declared.ramp.Ramp.{Ramp}
use Rattle.node_ramps.specs.Lines.{num_at, turned, InBounds}
use Rattle.crossing.proofs.Straight.{in_bounds_before}
use Rattle.window_run.specs.Net.{Net}
use Rattle.histories.specs.Track.{line_of}
use Rattle.window_run.specs.Pieces.{IsPiece, last_of, piece_of}
use Rattle.window_run.specs.Circuit.{net_of}
use Rattle.window_run.proofs.Lines.{driven_same, each, from_more, le_of, lines_more, looks_more, meets, not_driven, nothing_left, nums_more, slow_more, todo_more, todo_same, turned_in_bounds, turned_there, volts_more}
use Rattle.window_run.proofs.Pieces.{count_more, go_more, kept_more, others_more, put_kept, put_piece, set_map}
use Rattle.window_run.proofs.turn.turn.Goals as goal
use Rattle.window_run.proofs.turn.turn.Goals.{then-turns+in_ok-extend_from_slice+in_ok-lines, else-turns}

pub loop-node-init : goal.loop-node-init
loop-node-init g c = record {
  lines = c.requires.lines;
  nums = c.requires.nums;
  slow = c.requires.slow;
  todo = c.requires.todo;
  early = λ i below free. inl (c.requires.early i below free);
  volts = λ i h. refl;
  driven = λ i h. refl;
  looks = λ i. inl refl;
  from = λ k has. inl has;
  kept = λ k has. has;
  pieces = c.requires.pieces;
  kept_pieces = λ i s below free h. refl;
  others = λ i not_free. refl;
  steps = refl;
}

pub loop-node-preserved : goal.loop-node-preserved
loop-node-preserved g c =
    let net : Net = net_of c.args.circuit.now in
    let j : ℕ = c.loop-node.node-index in
    let k : ℕ = get_or c.args.todo.now j 0 in
    elim c.if-turns.branch [
      | then-turns+in_ok-extend_from_slice+in_ok-lines w ↦
          let ls : List Line = c.loop-node.lines in
          let ps : List (List Line) = map (λ (v : Vec Ramp Global). v.items) c.loop-node.pieces in
          let turning = c.turns.ensures.yes w.if-turns.true in
          let free : net.free k ≡ true = turning.0 in
          let inside : k < net.nodes = c.requires.net.free_inside k free in
          let within : k < length ls = omega (arith, inside, c.loop-node.auto.lines, c.requires.count_lines) in
          let here : k < length c.loop-node.pieces = omega (arith, inside, c.loop-node.auto.pieces, c.requires.count_pieces) in
          let beside : k < length ps = rw (length-map c.loop-node.pieces (λ (v : Vec Ramp Global). v.items)) here in
          let rate : ℤ = get_or c.args.rates.now k (pos 0) in
          let other : rate ≢ (line_of ls k).rate = turning.1 in
          let early : (line_of ls k).start < c.args.now = ⊎_elim (λ (h : (line_of ls k).start < c.args.now). h) (λ (e : (line_of ls k).rate ≡ rate). absurd (other (sym e))) (c.loop-node.invariant.early k inside free) in
          let piece : IsPiece c.args.from (piece_of ps k) (line_of ls k) = c.loop-node.invariant.pieces k inside free in
          let own : (get_or c.loop-node.pieces k w.index-pieces-i.result).items ≡ piece_of ps k = sym (get_or-map (λ (v : Vec Ramp Global). v.items) c.loop-node.pieces k w.index-pieces-i.result [] here) in
          let last : last_of (get_or c.loop-node.pieces k w.index-pieces-i.result).items ≡ line_of ls k = ap last_of own ∙ piece.last in
          let small : unsigned_abs rate ≤ 10 ^ 15 = c.requires.rates k inside free in
          let kept : to_z w128 (of_z w128 rate) ≡ rate = to_z-of_z w128 rate (fits_signed_from_abs w128 rate (omega (arith, small))) in
          let line : Line = turned (line_of ls k) c.args.now rate in
          let xs : List Line = piece_of ps k ++ line ∷ [] in
          let is : w.in_ok-lines.field-0 ≡ line = rw (last, kept) at w.in_ok-lines.ensures.line in
          let grown : w.turn_piece.new.piece.items ≡ xs = rw (own, kept, piece.last) at w.in_ok-lines.ensures.piece in
          let put : map (λ (v : Vec Ramp Global). v.items) (set c.loop-node.pieces k w.turn_piece.new.piece) ≡ set ps k xs =
          set_map (λ (v : Vec Ramp Global). v.items) c.loop-node.pieces k w.turn_piece.new.piece ∙ ap (λ zs. set ps k zs) grown in
          let more : w.extend_from_slice.new.self.items ≡ c.loop-node.looks.items ++ net.near k = w.in_ok-extend_from_slice.ensures.items ∙ ap (λ zs. c.loop-node.looks.items ++ zs) w.near.ensures in
          rw (w.lines-is, w.looks-is, w.pieces-is, w.steps-is, is, more, put) (record {
            lines = lines_more ls c.args.now c.args.end k line within (omega arith)
                (turned_in_bounds (line_of ls k) c.args.now c.args.end rate (c.loop-node.invariant.lines.bounds k within) c.requires.lines.in_time (let h = c.requires.net.in_time in omega (arith, h, c.requires.end)) (c.loop-node.invariant.nums k inside free) small) c.loop-node.invariant.lines;
            nums = nums_more net ls c.args.now k line within (rw (turned_there (line_of ls k) c.args.now rate) (c.loop-node.invariant.nums k inside free)) c.loop-node.invariant.nums;
            slow = slow_more net ls k line within small c.loop-node.invariant.slow;
            todo = todo_more net ls c.args.rates.now c.args.todo.now j k line c.loop-node-test.true refl within refl c.loop-node.invariant.todo;
            early = each (λ i m. i < net.nodes → net.free i ≡ true → (m.start < c.args.now) ⊎ (m.rate ≡ get_or c.args.rates.now i (pos 0))) ls k line within (λ _ _. inr refl) c.loop-node.invariant.early;
            volts = volts_more c.args.lines.now ls c.args.now k line within (meets (line_of ls k) c.args.now rate) c.loop-node.invariant.volts;
            driven = driven_same net c.args.lines.now ls k line (not_driven net k c.requires.net free) c.loop-node.invariant.driven;
            looks = looks_more net c.args.lines.now ls c.loop-node.looks.items k line c.loop-node.invariant.looks;
            from = from_more net c.args.looks.now.items c.loop-node.looks.items k c.loop-node.invariant.from;
            kept = λ x h. Contains-append_left c.loop-node.looks.items (net.near k) x (c.loop-node.invariant.kept x h);
            pieces = go_more net c.args.from ps ls k xs line beside within (put_piece c.args.from (piece_of ps k) (line_of ls k) c.args.now rate piece early other) c.loop-node.invariant.pieces;
            others = others_more net (map (λ (v : Vec Ramp Global). v.items) c.args.pieces.now) ps k xs free c.loop-node.invariant.others;
            kept_pieces = kept_more net (map (λ (v : Vec Ramp Global). v.items) c.args.pieces.now) ps c.args.now k xs beside (λ s h. put_kept c.args.from (piece_of ps k) (line_of ls k) c.args.now rate s piece early other h) c.loop-node.invariant.kept_pieces;
            steps = count_more _ _ _ (map (λ (v : Vec Ramp Global). v.items) c.args.pieces.now) ps k xs line beside refl w.in_ok-lines.ensures.counted c.loop-node.invariant.steps;
          })
      | else-turns w ↦
          rw (w.lines-is, w.looks-is, w.pieces-is, w.steps-is) (record {
            lines = c.loop-node.invariant.lines;
            nums = c.loop-node.invariant.nums;
            slow = c.loop-node.invariant.slow;
            todo = todo_same net c.loop-node.lines c.args.rates.now c.args.todo.now j k c.loop-node-test.true refl (c.turns.ensures.no w.if-turns.false) c.loop-node.invariant.todo;
            early = c.loop-node.invariant.early;
            volts = c.loop-node.invariant.volts;
            driven = c.loop-node.invariant.driven;
            looks = c.loop-node.invariant.looks;
            from = c.loop-node.invariant.from;
            kept = c.loop-node.invariant.kept;
            pieces = c.loop-node.invariant.pieces;
            kept_pieces = c.loop-node.invariant.kept_pieces;
            others = c.loop-node.invariant.others;
            steps = c.loop-node.invariant.steps;
          })
    ]

pub turn_piece-requires-clause-some : goal.turn_piece-requires-clause-some
turn_piece-requires-clause-some g c =
    let net : Net = net_of c.args.circuit.now in
    let k : ℕ = get_or c.args.todo.now c.loop-node.node-index 0 in
    let ps : List (List Line) = map (λ (v : Vec Ramp Global). v.items) c.loop-node.pieces in
    let free : net.free k ≡ true = (c.turns.ensures.yes c.if-turns.true).0 in
    let inside : k < net.nodes = c.requires.net.free_inside k free in
    let here : k < length c.loop-node.pieces = omega (arith, inside, c.loop-node.auto.pieces, c.requires.count_pieces) in
    let piece : IsPiece c.args.from (piece_of ps k) (line_of c.loop-node.lines k) = c.loop-node.invariant.pieces k inside free in
    let own : (get_or c.loop-node.pieces k c.index-pieces-i.result).items ≡ piece_of ps k = sym (get_or-map (λ (v : Vec Ramp Global). v.items) c.loop-node.pieces k c.index-pieces-i.result [] here) in
    rw own piece.some

pub turn_piece-requires-clause-in_bounds : goal.turn_piece-requires-clause-in_bounds
turn_piece-requires-clause-in_bounds g c =
    let net : Net = net_of c.args.circuit.now in
    let k : ℕ = get_or c.args.todo.now c.loop-node.node-index 0 in
    let ps : List (List Line) = map (λ (v : Vec Ramp Global). v.items) c.loop-node.pieces in
    let free : net.free k ≡ true = (c.turns.ensures.yes c.if-turns.true).0 in
    let inside : k < net.nodes = c.requires.net.free_inside k free in
    let here : k < length c.loop-node.pieces = omega (arith, inside, c.loop-node.auto.pieces, c.requires.count_pieces) in
    let piece : IsPiece c.args.from (piece_of ps k) (line_of c.loop-node.lines k) = c.loop-node.invariant.pieces k inside free in
    let own : (get_or c.loop-node.pieces k c.index-pieces-i.result).items ≡ piece_of ps k = sym (get_or-map (λ (v : Vec Ramp Global). v.items) c.loop-node.pieces k c.index-pieces-i.result [] here) in
    let within : k < length c.loop-node.lines = omega (arith, inside, c.loop-node.auto.lines, c.requires.count_lines) in
    let lines = c.loop-node.invariant.lines in
    rw (own, piece.last) (in_bounds_before (line_of c.loop-node.lines k) c.args.now c.args.end (lines.started k within) lines.in_time (lines.bounds k within))

pub returns-clause-todo : goal.returns-clause-todo
returns-clause-todo g c = λ i below free. ⊎_elim
    (λ (e : (line_of c.loop-node.lines i).rate ≡ get_or c.args.rates.now i (pos 0)). inl e)
    (λ (has : Contains (drop c.loop-node.node-index c.args.todo.now) i). absurd (nothing_left c.args.todo.now c.loop-node.node-index i c.loop-node-test.false has))
    (c.loop-node.invariant.todo i below free)

pub near-requires : goal.near-requires
near-requires g c = c.requires.net.free_inside (get_or c.args.todo.now c.loop-node.node-index 0) (c.turns.ensures.yes c.if-turns.true).0

pub bounds-lines-i : goal.bounds-lines-i
bounds-lines-i g c =
    let inside = c.requires.net.free_inside (get_or c.args.todo.now c.loop-node.node-index 0) (c.turns.ensures.yes c.if-turns.true).0 in
    omega (arith, inside, c.loop-node.auto.lines, c.requires.count_lines)
