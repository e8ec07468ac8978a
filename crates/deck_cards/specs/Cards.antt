-- The deck that the cards say, as they are kept.
use Rattle.std.specs.Prelude.{ℕ, ℤ, List, map}
use Rattle.semantics.specs.declared.element.Element.{Element}
use Rattle.semantics.specs.Deck.{DeckValue}
use Rattle.deck_cards.specs.Part.{part_of}
use Rattle.deck_cards.specs.declared.frame.Frame.{Frame}
use Rattle.deck_cards.specs.declared.settled.Settled.{Settled}

-- the deck of these cards, before they are shared
abbrev pub deck_of : Settled → DeckValue
deck_of s = record {
  title = s.title;
  stop = s.stop;
  uic = s.uic;
  grain = s.grain;
  parts = map (λ p. (p.0, part_of p.1)) s.parts.entries;
  initial = s.initial.entries;
  elements = s.elements.items;
}

-- the deck with what no edit changes, these initial voltages and these elements
abbrev pub framed : Frame → List (List ℕ × ℤ) → List Element → DeckValue
framed f initial elements = record {
  title = f.title;
  stop = f.stop;
  uic = f.uic;
  grain = f.grain;
  parts = map (λ p. (p.0, part_of p.1)) f.parts.entries;
  initial = initial;
  elements = elements;
}
