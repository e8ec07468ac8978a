-- One node more has the line of its source.
use Rattle.std.proofs.Common.{◌≡◌, ◌<◌, length, ◌++◌, ℕ, true, get_or, set, drop, inl, ⊎_elim, refl, ap, ◌∙◌, arith}
use Rattle.std.specs.List.{Contains}
use Rattle.std.specs.FinMap as map
use Rattle.std.proofs.lemmas.List.Elements.{Contains-append_left}
use Rattle.semantics.specs.declared.line.Line.{Line}
use Rattle.window_run.specs.Net.{Net}
use Rattle.histories.specs.Track.{line_of}
use Rattle.window_run.specs.Stage.{IsTrusted}
use Rattle.window_run.specs.Circuit.{net_of}
use Rattle.window_run.proofs.Lines.{bends_more, le_of, free_same, from_more, lines_more, looks_more, nothing_left}
use Rattle.window_run.proofs.Waiting.{driven_more, later_more}
use Rattle.window_run.proofs.bend.bend.Goals as goal

pub near-requires : goal.near-requires
near-requires c = (c.requires.todo c.loop-node.node-index 0 c.loop-node-test.true).0

pub loop-node-preserved : goal.loop-node-preserved
loop-node-preserved c =
    let net : Net = net_of c.args.circuit.now in
    let k : ℕ = get_or c.args.todo.now c.loop-node.node-index 0 in
    let known = c.requires.todo c.loop-node.node-index 0 c.loop-node-test.true in
    let within : k < length c.loop-node.lines = omega (arith, known.0, c.requires.count, c.loop-node.auto.lines) in
    let line : Line = c.next_line-next.result.0 in
    let more = c.in_ok-extend_from_slice.ensures.items ∙ ap (λ xs. c.loop-node.looks.items ++ xs) c.near.ensures in
    rw more (record {
      lines = lines_more c.loop-node.lines c.args.now c.args.end k line within (le_of _ _ c.next_line-next.ensures.start) c.next_line-next.ensures.bounds c.loop-node.invariant.lines;
      bends = bends_more net c.loop-node.lines c.args.now c.args.end c.loop-node.bends c.schedule.new.queue c.args.todo.now c.loop-node.node-index k line c.next_line-next.result.1 c.loop-node-test.true refl within c.in_ok-schedule.ensures c.next_line-next.ensures.trusted c.loop-node.invariant.bends;
      later = later_more c.loop-node.bends c.schedule.new.queue c.args.now k c.next_line-next.result.1 c.in_ok-schedule.ensures c.next_line-next.ensures.later c.loop-node.invariant.later;
      driven = driven_more net c.loop-node.bends c.schedule.new.queue k c.next_line-next.result.1 c.in_ok-schedule.ensures known.0 known.1 c.loop-node.invariant.driven;
      free = free_same net c.args.lines.now c.loop-node.lines k line (c.requires.net.apart k known.1) c.loop-node.invariant.free;
      looks = looks_more net c.args.lines.now c.loop-node.lines c.loop-node.looks.items k line c.loop-node.invariant.looks;
      from = from_more net c.args.looks.now.items c.loop-node.looks.items k c.loop-node.invariant.from;
      kept = λ x h. Contains-append_left c.loop-node.looks.items (net.near k) x (c.loop-node.invariant.kept x h);
    })

pub returns-clause-bends : goal.returns-clause-bends
returns-clause-bends c = λ i below driven. ⊎_elim
    (λ (is : IsTrusted ((net_of c.args.circuit.now).drive i) (line_of c.loop-node.lines i) c.args.now c.args.end (map.get c.loop-node.bends i)). inl is)
    (λ (has : Contains (drop c.loop-node.node-index c.args.todo.now) i). absurd (nothing_left c.args.todo.now c.loop-node.node-index i c.loop-node-test.false has))
    (c.loop-node.invariant.bends i below driven)
