-- Names of which none stands twice are copied in their order.
use Rattle.std.proofs.Common.{ℕ, List, [], fold, ap, ◌∙◌}
use Rattle.std.proofs.lemmas.List.{take_all}
use Rattle.semantics.specs.Deck.{with_node}
use Rattle.circuit_model.proofs.Named.{nodes_from, with_all}
use Rattle.circuit_model.proofs.node_names.copy_of.Goals as goal

pub returns : goal.returns
returns c =
    let names : List (List ℕ) = c.args.names.now.keys in
    c.loop-name.invariant ∙ ap (fold with_node []) (take_all c.loop-name.name-index names (rw c.as_slice-name-items.ensures.keys at c.loop-name-test.false)) ∙ with_all [] names (nodes_from names c.requires)
