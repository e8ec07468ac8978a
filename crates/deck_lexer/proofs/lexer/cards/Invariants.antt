use Rattle.std.proofs.Common.{◌≡◌, ◌++◌, length}
use Rattle.deck_lexer.specs.Reading.{deck_cards, deck_end, deck_fault}
use Rattle.deck_lexer.proofs.lexer.cards.Given as goal

abbrev pub invariant-loop-cards : goal.invariant-loop-cards
invariant-loop-cards l = record {
  cards : l.cards.items ++ l.lexer.cards ≡ deck_cards l.text;
  end : l.lexer.end ≡ deck_end l.text;
  fault : l.lexer.fault ≡ deck_fault l.text;
}

abbrev pub decreases-loop-cards : goal.decreases-loop-cards
decreases-loop-cards l = length l.lexer.cards
