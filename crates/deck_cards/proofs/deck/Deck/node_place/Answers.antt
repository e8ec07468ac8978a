use Rattle.std.proofs.Common.{◌≡◌, ◌∙◌, ℕ, List, Option, None, Some, IfSome, position, slice_get, ap, sym}
use Rattle.std.specs.Str.{bytes_eq}
use Rattle.semantics.specs.Deck.{nodes}
use Rattle.deck_cards.proofs.Named.{named_at}
use Rattle.deck_cards.proofs.deck.Deck.node_place.Goals as goal

found_at : (n : List ℕ) (names nodes : List (List ℕ)) (r : Option ℕ) → r ≡ position (bytes_eq n) names → names ≡ nodes → IfSome r (λ i. slice_get nodes i ≡ Some n)
found_at n names nodes None is same = tt
found_at n names nodes (Some i) is same = ap (λ l. slice_get l i) (sym same) ∙ named_at n names i (sym is)

pub returns-clause-found : goal.returns-clause-found
returns-clause-found c =
    found_at c.args.name.now c.node_names.result.now.keys (nodes c.args.self.now) _ c.get_index_of.ensures.index (c.node_names.ensures ∙ ap nodes (c.deref.ensures ∙ c.self.view_is))
