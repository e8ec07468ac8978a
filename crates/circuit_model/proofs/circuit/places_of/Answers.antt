-- One name more has its place.
use Rattle.std.proofs.Common.{◌≡◌, ◌<◌, ◌+◌, ℕ, List, [], ◌∷◌, ◌++◌, Option, length, get_or, map, take, sym, ◌∙◌, ap, arith}
use Rattle.std.proofs.lemmas.List.{map_more}
use Rattle.std.proofs.lemmas.Option.{get_or_from_slice_get}
use Rattle.semantics.specs.Deck.{nodes}
use Rattle.circuit_model.specs.Ends.{number}
use Rattle.circuit_model.proofs.Named.{place_is}
use Rattle.circuit_model.proofs.circuit.places_of.Goals as goal

grown : (f : List ℕ → Option ℕ) (names : List (List ℕ)) (old new : List (Option ℕ)) (k : ℕ) (name : List ℕ) (o : Option ℕ) → k < length names → get_or names k [] ≡ name → o ≡ f name → old ≡ map f (take k names) → new ≡ old ++ o ∷ []
    → new ≡ map f (take (k + 1) names)
grown f names old new k name o inside at is done more = more ∙ (λ i. done i ++ (is ∙ ap f (sym at)) i ∷ []) ∙ sym (map_more f names k [] inside)

pub loop-node-preserved : goal.loop-node-preserved
loop-node-preserved c =
    let names : List (List ℕ) = c.args.names.now in
    grown (number (nodes c.args.deck.now)) names c.loop-node.places.items _ c.loop-node.node c.name.result.now c.node_place.result (omega arith) (get_or_from_slice_get names c.loop-node.node c.name.result.now [] c.name.ensures)
    (place_is c.args.deck.now c.name.result.now c.node_place.result c.node_place.ensures.found c.node_place.ensures.none) c.loop-node.invariant c.in_ok-push.ensures.items
