-- The pieces of the run are those with which it began, up to there.
use Rattle.std.proofs.Common.{◌≡◌, ◌∙◌, ◌<◌, ℕ, List, true, sym, ap, map, length, arith, Vec, Global}
use Rattle.std.proofs.lemmas.List.{with_items_is}
use Rattle.semantics.specs.declared.line.Line.{Line}
use Rattle.node_ramps.specs.declared.ramp.Ramp.{Ramp}
use Rattle.window_run.specs.Circuit.{net_of}
use Rattle.window_run.specs.Net.{Net}
use Rattle.histories.specs.Track.{line_of}
use Rattle.window_run.specs.Pieces.{PiecesKept, pairs, piece_of}
use Rattle.window_run.proofs.Pieces.{goes}
use Rattle.window_run.proofs.courses.run_lines.Goals as goal

pub returns-clause-run : goal.returns-clause-run
returns-clause-run g c =
    let is = with_items_is c.open_stage.new.pieces c.run.new.pieces (c.run.auto.pieces ∙ c.deref_mut.ensures.len) in
    rw is c.in_ok-until.ensures.run

pub returns-clause-first : goal.returns-clause-first
returns-clause-first g c =
    let net : Net = net_of c.args.circuit.now in
    let is = with_items_is c.open_stage.new.pieces c.run.new.pieces (c.run.auto.pieces ∙ c.deref_mut.ensures.len) in
    let first : List (List Line) = map (λ (v : Vec Ramp Global). v.items) c.open_stage.new.pieces.items in
    let kept : PiecesKept net first (map (λ (v : Vec Ramp Global). v.items) c.run.new.pieces) c.args.from = rw c.deref_mut.ensures.value at c.in_ok-until.ensures.kept in
    let at = c.in_ok-stage.ensures.steady in
    rw is (λ i h f.
    kept i c.args.from h f (omega arith)
    ∙ goes c.args.from (piece_of first i) (line_of c.in_ok-stage.stage.lines.items i) (c.in_ok-stage.ensures.pieces i h f) c.args.from (at.lines.started i (omega (arith, h, at.count_lines)))
    ∙ c.in_ok-stage.ensures.volts i f h)

pub returns-clause-turning : goal.returns-clause-turning
returns-clause-turning g c =
    let is = with_items_is c.open_stage.new.pieces c.run.new.pieces (c.run.auto.pieces ∙ c.deref_mut.ensures.len) in
    rw is c.in_ok-until.ensures.turning

pub returns-clause-only : goal.returns-clause-only
returns-clause-only g c =
    let is = with_items_is c.open_stage.new.pieces c.run.new.pieces (c.run.auto.pieces ∙ c.deref_mut.ensures.len) in
    rw is (λ i f. (rw c.deref_mut.ensures.value at c.in_ok-until.ensures.others) i f ∙ c.in_ok-stage.ensures.only i f)
