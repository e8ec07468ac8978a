use Rattle.std.proofs.Common.{◌≡◌, [], take, drop, map}
use Rattle.std.specs.List.{flat_map}
use Rattle.semantics.specs.Deck.{name_of}
use Rattle.semantics.specs.Valid.{driven_of}
use Rattle.deck_cards.specs.Cards.{deck_of}
use Rattle.deck_cards.specs.Causes.{adding_cause}
use Rattle.deck_cards.proofs.adding.add_each.Given as goal

abbrev pub invariant-loop-element : goal.invariant-loop-element
invariant-loop-element l = record {
  names : l.names.keys ≡ map name_of (take l.element-index l.cards.elements.items);
  driven : l.driven.keys ≡ flat_map driven_of (take l.element-index l.cards.elements.items);
  cause : adding_cause (deck_of l.cards) [] l.cards.elements.items ≡ adding_cause (deck_of l.cards) (take l.element-index l.cards.elements.items) (drop l.element-index l.cards.elements.items);
}
