use Rattle.std.proofs.Common.{◌≡◌, length}
use Rattle.deck_lexer.specs.Reading.{deck_cards, deck_end, deck_fault}
use Rattle.deck_reader.specs.Told.{nothing}
use Rattle.deck_reader.specs.Reading.{told_after}
use Rattle.deck_reader.proofs.cards.read_cards.Given as goal

-- what is told and the cards that are left say what all the cards say
abbrev pub invariant-loop-told : goal.invariant-loop-told
invariant-loop-told l = record {
  told : told_after nothing (deck_cards l.text) ≡ told_after l.told l.lexer.cards;
  end : l.lexer.end ≡ deck_end l.text;
  fault : l.lexer.fault ≡ deck_fault l.text;
}

abbrev pub decreases-loop-told : goal.decreases-loop-told
decreases-loop-told l = length l.lexer.cards
