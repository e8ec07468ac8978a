-- One node more.
use Rattle.std.proofs.Common.{◌≡◌, ◌<◌, ◌∙◌, ℕ, true, sym, arith}
use Rattle.std.proofs.lemmas.Bool.{false≢true}
use Rattle.window_run.specs.Circuit.{net_of}
use Rattle.window_run.specs.Net.{Net}
use Rattle.window_run.proofs.Noted.{pushed, up_to_next, up_to_pushed}
use Rattle.window_run.proofs.Waiting.{all_of}
use Rattle.window_run.proofs.open.driven_nodes.Goals as goal
use Rattle.window_run.proofs.open.driven_nodes.Goals.{then-is_driven+in_ok-push, else-is_driven}

pub loop-node-preserved : goal.loop-node-preserved
loop-node-preserved c =
    let net : Net = net_of c.args.circuit.now in
    let inside : c.loop-node.node < net.nodes = omega (arith, c.loop-node-test.true, c.node_count-node-end.ensures) in
    elim c.if-is_driven.branch [
      | then-is_driven+in_ok-push w ↦ rw (w.nodes-is, w.in_ok-push.ensures.items) (record {
        driven = pushed (λ i. (i < net.nodes) × (net.driven i ≡ true)) c.loop-node.nodes.items c.loop-node.node c.loop-node.invariant.driven (inside, sym c.is_driven.ensures ∙ w.if-is_driven.true);
        all = up_to_pushed (λ i. net.driven i ≡ true) c.loop-node.nodes.items c.loop-node.node c.loop-node.invariant.all;
      })
      | else-is_driven w ↦ rw w.nodes-is (record {
        driven = c.loop-node.invariant.driven;
        all = up_to_next (λ i. net.driven i ≡ true) c.loop-node.nodes.items c.loop-node.node c.loop-node.invariant.all (λ d. false≢true (sym w.if-is_driven.false ∙ c.is_driven.ensures ∙ d));
      })
    ]

pub returns-clause-driven : goal.returns-clause-driven
returns-clause-driven c = all_of _ c.loop-node.nodes.items c.loop-node.invariant.driven

pub returns-clause-all : goal.returns-clause-all
returns-clause-all c = λ i h d. c.loop-node.invariant.all i (omega (arith, h, c.loop-node-test.false, c.node_count-node-end.ensures)) d
