-- The node that was found is among the names.
use Rattle.std.proofs.Common.{◌≡◌, ℕ, not, List, [], true, get_or, below_more, subst, sym, ap, ◌∙◌}
use Rattle.std.specs.List.{list_any}
use Rattle.std.specs.Str.{bytes_eq}
use Rattle.std.proofs.lemmas.Option.{get_or_from_slice_get}
use Rattle.semantics.specs.Deck.{nodes}
use Rattle.circuit_model.proofs.Named.{found_any}
use Rattle.circuit_model.proofs.node_names.NodeNames.has_nodes.Goals as goal

pub loop-i-preserved : goal.loop-i-preserved
loop-i-preserved c =
    let ns : List (List ℕ) = nodes c.args.deck.now in
    let names : List (List ℕ) = c.args.self.now in
    let at : get_or ns c.loop-i.i [] ≡ c.node.result.now = get_or_from_slice_get ns c.loop-i.i c.node.result.now [] c.node.ensures in
    let here : list_any (bytes_eq c.node.result.now) names ≡ true = found_any names c.node.result.now c.find.result c.find.ensures (c.is_none.ensures ∙ ap not c.if-is_none.false) in
    below_more (λ j. list_any (bytes_eq (get_or ns j [])) names ≡ true) _ c.loop-i.invariant (subst (λ m. list_any (bytes_eq m) names ≡ true) (sym at) here)
