-- One number more.
use Rattle.std.proofs.Common.{◌≡◌, ◌≤◌, ◌∙◌, ◌++◌, ◌∷◌, [], ℕ, List, sym, ap, arith, length, subst}
use Rattle.std.specs.List.{All, Contains}
use Rattle.circuit_model.specs.declared.node_kind.NodeKind.TheVariants.{Free}
use Rattle.circuit_model.specs.Numbers.{kind_at}
use Rattle.window_run.specs.Window.{AreDifferent}
use Rattle.window_run.proofs.FreeNumbers.{none_more, numbers_all, numbers_are, numbers_different, each_free, one_more}
use Rattle.window_run.proofs.free.free_nodes.Goals as goal
use Rattle.window_run.proofs.free.free_nodes.Goals.{then-is_free+in_ok-push, else-is_free}

pub loop-node-preserved : goal.loop-node-preserved
loop-node-preserved c = elim c.if-is_free.branch [
  | then-is_free+in_ok-push w ↦ rw (w.nodes-is)
      (w.in_ok-push.ensures.items ∙ ap (λ (ns : List ℕ). ns ++ c.loop-node.node ∷ []) c.loop-node.invariant ∙ sym (one_more c.args.circuit.now c.loop-node.node (sym c.is_free.ensures ∙ w.if-is_free.true)))
  | else-is_free w ↦ rw (w.nodes-is) (c.loop-node.invariant ∙ sym (none_more c.args.circuit.now c.loop-node.node (sym c.is_free.ensures ∙ w.if-is_free.false)))
]

pub returns-clause-nodes : goal.returns-clause-nodes
returns-clause-nodes c =
    let count = c.node_count-node-end.ensures.count in
    let past = c.loop-node-test.false in
    let up_to = c.loop-node.auto.node-end in
    c.loop-node.invariant ∙ numbers_are c.args.circuit.now c.loop-node.node (omega (arith, count, past, up_to))

pub returns-clause-free : goal.returns-clause-free
returns-clause-free c =
    let count = c.node_count-node-end.ensures.count in
    let past = c.loop-node-test.false in
    let up_to = c.loop-node.auto.node-end in
    let is = c.loop-node.invariant ∙ numbers_are c.args.circuit.now c.loop-node.node (omega (arith, count, past, up_to)) in
    subst (λ ns. All (λ i. kind_at c.args.circuit.now i ≡ Free) ns) (sym is) (each_free c.args.circuit.now)

pub returns-clause-different : goal.returns-clause-different
returns-clause-different c =
    let count = c.node_count-node-end.ensures.count in
    let past = c.loop-node-test.false in
    let up_to = c.loop-node.auto.node-end in
    let is = c.loop-node.invariant ∙ numbers_are c.args.circuit.now c.loop-node.node (omega (arith, count, past, up_to)) in
    subst AreDifferent (sym is) (numbers_different c.args.circuit.now)

pub returns-clause-all : goal.returns-clause-all
returns-clause-all c =
    let count = c.node_count-node-end.ensures.count in
    let past = c.loop-node-test.false in
    let up_to = c.loop-node.auto.node-end in
    let is = c.loop-node.invariant ∙ numbers_are c.args.circuit.now c.loop-node.node (omega (arith, count, past, up_to)) in
    λ i free. subst (λ ns. Contains ns i) (sym is) (numbers_all c.args.circuit.now i free)
