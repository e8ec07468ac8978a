use Rattle.std.proofs.Common.{◌≡◌, ◌∙◌, ◌+ℤ◌, [], SFits, true, ap, refl}
use Rattle.std.specs.Int.{w128}
use Rattle.std.specs.List.{flat_map}
use Rattle.semantics.specs.Deck.{DeckValue, ends_of, nodes}
use Rattle.semantics.specs.Valid.{differ}
use Rattle.deck_cards.specs.Facts.{known}
use Rattle.deck_cards.proofs.Differ.{differ-nodes}
use Rattle.deck_cards.proofs.Named.{every_value}
use Rattle.deck_cards.proofs.apply.set_at_node.Goals as goal

apart : (d : DeckValue) → differ (nodes d) ≡ true
unfolding nodes
apart d = differ-nodes (flat_map ends_of d.elements) [] refl

pub with_farads-requires-clause-differ : goal.with_farads-requires-clause-differ
with_farads-requires-clause-differ c = ap differ c.node_names-names.ensures ∙ apart c.args.kept.now

pub with_farads-requires-clause-room : goal.with_farads-requires-clause-room
with_farads-requires-clause-room c =
    let d = c.args.kept.now in
    every_value (known d.elements) (λ f. SFits w128 (f.farads +ℤ c.args.more.now)) (nodes d) c.facts.result.now.items c.facts.ensures.known c.requires.room
