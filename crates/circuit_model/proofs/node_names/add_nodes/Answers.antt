-- No node is ground, and each is put behind the names in turn.
use Rattle.std.proofs.Common.{◌≡◌, ◌<◌, ℕ, List, [], false, fold, length, get_or, subst, sym, ap, ◌∙◌, arith}
use Rattle.std.proofs.lemmas.List.{take_all}
use Rattle.std.proofs.lemmas.List.Sums.{fold_more}
use Rattle.std.proofs.lemmas.Option.{get_or_from_slice_get}
use Rattle.semantics.specs.Deck.{nodes, with_node}
use Rattle.semantics.specs.Ground.{is_ground}
use Rattle.semantics.proofs.Nodes.{AreNodes-nodes}
use Rattle.circuit_model.specs.Names.{with_nodes}
use Rattle.circuit_model.proofs.node_names.add_nodes.Goals as goal

pub add_name-requires : goal.add_name-requires
add_name-requires c =
    let ns : List (List ℕ) = nodes c.args.deck.now in
    let at : get_or ns c.loop-i.i [] ≡ c.node.result.now = get_or_from_slice_get ns c.loop-i.i c.node.result.now [] c.node.ensures in
    subst (λ m. is_ground m ≡ false) at ((AreNodes-nodes c.args.deck.now).real c.loop-i.i (omega (arith, c.node_count-i-end.ensures)))

pub loop-i-preserved : goal.loop-i-preserved
loop-i-preserved c =
    let ns : List (List ℕ) = nodes c.args.deck.now in
    let at : get_or ns c.loop-i.i [] ≡ c.node.result.now = get_or_from_slice_get ns c.loop-i.i c.node.result.now [] c.node.ensures in
    let inside : c.loop-i.i < length ns = omega (arith, c.node_count-i-end.ensures) in
    c.in_ok-add_name.ensures ∙ (λ i. with_node (c.loop-i.invariant i) (sym at i)) ∙ sym (fold_more with_node c.args.names.now.keys ns c.loop-i.i [] inside)

pub returns : goal.returns
unfolding with_nodes
returns c =
    let ns : List (List ℕ) = nodes c.args.deck.now in
    c.loop-i.invariant ∙ ap (fold with_node c.args.names.now.keys) (take_all c.loop-i.i ns (omega (arith, c.node_count-i-end.ensures)))
