use Rattle.std.proofs.Common.{◌≡◌, take, map}
use Rattle.semantics.specs.Deck.{name_of}
use Rattle.deck_cards.proofs.apply.names_of.Given as goal

abbrev pub invariant-loop-element : goal.invariant-loop-element
invariant-loop-element l = l.names.keys ≡ map name_of (take l.element-index l.elements)
