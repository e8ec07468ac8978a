-- The lines of the record at the first tick are those with which the net sets out.
use Rattle.std.proofs.Common.{◌≡◌, ◌<◌, ◌≤◌, ◌^◌, ℕ, List, length, map, refl, sym, ap, ◌∙◌, arith, subst, Vec, Global}
use Rattle.std.proofs.lemmas.List.{length-map}
use Rattle.semantics.specs.declared.line.Line.{Line}
use Rattle.node_ramps.specs.declared.ramp.Ramp.{Ramp}
use Rattle.circuit_model.specs.declared.node_kind.NodeKind.TheVariants.{Free}
use Rattle.circuit_model.specs.Numbers.{CircuitValue, kind_at}
use Rattle.window_run.specs.Circuit.{IsNumbered, net_of}
use Rattle.window_run.specs.Net.{IsNet, IsRun}
use Rattle.window_run.specs.Pieces.{AreTurning, OnlyFree, pairs}
use Rattle.window_run.specs.Task.{circuit_of, deck_of}
use Rattle.window_run.proofs.FirstLines.{first_begin, first_bounds, first_lines_are, first_pair}
use Rattle.window_run.proofs.Mended.{free_inside, net_free, net_nodes, net_stop}
use Rattle.window_run.proofs.window_of.courses_of.Goals as goal

pub run_lines-requires-clause-order : goal.run_lines-requires-clause-order
run_lines-requires-clause-order g c =
    let d : CircuitValue = c.deref-circuit.result.now in
    let e = net_stop d in
    let f : d.deck.stop ≡ (deck_of c.args.task.now).stop = ap (λ (x : CircuitValue). x.deck.stop) c.deref-circuit.ensures in
    (c.requires.order.0, (let h = c.requires.order.1 in omega (arith, h, e, f)))

pub run_lines-requires-clause-count : goal.run_lines-requires-clause-count
run_lines-requires-clause-count g c = c.in_ok-lines.ensures.count ∙ sym (net_nodes c.deref-circuit.result.now)

pub run_lines-requires-clause-lines : goal.run_lines-requires-clause-lines
run_lines-requires-clause-lines g c =
    let d : CircuitValue = c.deref-circuit.result.now in
    let e = net_stop d in
    let f : d.deck.stop ≡ (deck_of c.args.task.now).stop = ap (λ (x : CircuitValue). x.deck.stop) c.deref-circuit.ensures in
    let short = c.known.ensures.net.in_time in
    let order = c.requires.order in
    first_lines_are d c.args.task.now.past c.args.task.now.from c.args.task.now.end c.in_ok-lines.lines.items (let h = order.0 in omega (arith, h)) (let h = order.1 in omega (arith, h, e, f, short)) c.in_ok-lines.ensures.first

pub run_lines-requires-clause-begin : goal.run_lines-requires-clause-begin
run_lines-requires-clause-begin g c =
    let d : CircuitValue = c.deref-circuit.result.now in
    first_begin d c.args.task.now.past c.args.task.now.from (net_of d) c.in_ok-lines.lines.items (c.in_ok-lines.ensures.count ∙ sym (net_nodes d)) c.in_ok-lines.ensures.first

pub returns-clause-found : goal.returns-clause-found
returns-clause-found g c =
    let d : CircuitValue = c.deref-circuit.result.now in
    let same : d ≡ circuit_of c.args.task.now = c.deref-circuit.ensures in
    let from : ℕ = c.args.task.now.from in
    let until : ℕ = c.in_ok-courses.courses.until in
    let ps : List (List Line) = map (λ (v : Vec Ramp Global). v.items) c.in_ok-courses.courses.ramps.items in
    let ls : List Line = c.in_ok-lines.lines.items in
    let found = c.in_ok-courses.ensures in
    let count = c.in_ok-lines.ensures.count in
    record {
      numbered = subst IsNumbered same c.known.ensures.numbered;
      net = subst (λ x. IsNet (net_of x)) same c.known.ensures.net;
      nodes = c.requires.nodes;
      order = found.until.0;
      count = length-map c.in_ok-courses.courses.ramps.items (λ (v : Vec Ramp Global). v.items) ∙ found.count ∙ ap (λ (x : CircuitValue). (net_of x).nodes) same;
      run = subst (λ x. IsRun (net_of x) (pairs ps) from until) same found.run;
      first = λ i free.
          let here : kind_at d i ≡ Free = subst (λ x. kind_at x i ≡ Free) (sym same) free in
          let inside : i < length d.names = free_inside d i here in
          found.first i (subst (λ k. i < k) (sym (net_nodes d)) inside) (net_free d i here)
          ∙ first_pair d c.args.task.now.past from i ls (omega (arith, inside, count)) here c.in_ok-lines.ensures.first;
      bounds = λ i free.
          let here : kind_at d i ≡ Free = subst (λ x. kind_at x i ≡ Free) (sym same) free in
          let inside : i < length d.names = free_inside d i here in
          first_bounds d c.args.task.now.past from i ls (omega (arith, inside, count)) here c.in_ok-lines.ensures.first;
      turning = subst (λ x. AreTurning (net_of x) from until ps) same found.turning;
      only = subst (λ x. OnlyFree (net_of x) ps) same found.only;
    }
