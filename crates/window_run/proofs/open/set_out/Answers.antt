-- One node more has set out.
use Rattle.std.proofs.Common.{◌≡◌, ◌<◌, ◌∙◌, ◌++◌, ◌∷◌, ℕ, ℤ, [], List, get_or, length, map, pos, inl, refl, rules, sym, ap, arith, to_z, of_z, Vec, Global}
use Rattle.std.specs.Int.{w128}
use Rattle.std.proofs.lemmas.Int.{to_z-of_z}
use Rattle.semantics.specs.declared.line.Line.{Line}
use Rattle.node_ramps.specs.declared.ramp.Ramp.{Ramp}
use Rattle.window_run.specs.Circuit.{net_of}
use Rattle.window_run.specs.Net.{Net}
use Rattle.histories.specs.Track.{line_of}
use Rattle.window_run.specs.Pieces.{SetsOut}
use Rattle.window_run.proofs.Begin.{Out, map_push, out_more}
use Rattle.window_run.proofs.open.set_out.Goals as goal

pub loop-node-init : goal.loop-node-init
loop-node-init g c =
    let none : map (λ (v : Vec Ramp Global). v.items) c.args.pieces.now.items ≡ [] = ap (map (λ (v : Vec Ramp Global). v.items)) c.requires.no_pieces in
    rw none (record {
      lines = c.requires.lines;
      nums = c.requires.nums;
      slow = c.requires.slow;
      goes = λ i h f. absurd (omega (arith, h));
      still = λ i h. refl;
      volts = λ i h. refl;
      driven = λ i d. refl;
      count = refl;
      pieces = λ i h f. absurd (omega (arith, h));
      only = λ i f. refl;
      steps_are = omega arith;
    })

pub loop-node-preserved : goal.loop-node-preserved
loop-node-preserved g c =
    let net : Net = net_of c.args.circuit.now in
    let n : ℕ = c.loop-node.node in
    let below : n < net.nodes = omega (arith, c.loop-node-test.true, c.node_count-node-end.ensures) in
    let ps : List (List Line) = map (λ (v : Vec Ramp Global). v.items) c.loop-node.pieces.items in
    let grown : map (λ (v : Vec Ramp Global). v.items) c.push.new.self.items ≡ ps ++ c.in_ok-line.piece.items ∷ [] =
    ap (map (λ (v : Vec Ramp Global). v.items)) c.in_ok-push.ensures.items ∙ map_push (λ (v : Vec Ramp Global). v.items) c.loop-node.pieces.items c.in_ok-line.piece in
    rw grown (out_more net c.args.from c.args.end n c.args.rates.now c.args.lines.now c.loop-node.lines ps _ _ _ (get_or c.args.rates.now n (pos 0)) c.in_ok-line.line c.in_ok-line.piece.items c.is_free.result c.requires.net (sym c.is_free.ensures) refl
    (rw (to_z-of_z w128 (get_or c.args.rates.now n (pos 0)) (search rules)) at c.in_ok-line.ensures)
    (omega (arith, below, c.loop-node.auto.lines, c.requires.count_lines)) (c.loop-node.auto.lines ∙ c.requires.count_lines) (let h = c.requires.net.in_time in omega (arith, h, c.requires.end)) c.requires.begin c.requires.rates c.loop-node.invariant)

pub returns-clause-goes : goal.returns-clause-goes
returns-clause-goes g c = λ i h f. inl (c.loop-node.invariant.goes i (omega (arith, h, c.loop-node-test.false, c.node_count-node-end.ensures)) f)

pub returns-clause-pieces : goal.returns-clause-pieces
returns-clause-pieces g c = λ i h f. c.loop-node.invariant.pieces i (omega (arith, h, c.loop-node-test.false, c.node_count-node-end.ensures)) f
