use Rattle.deck_lexer.proofs.SplitLemmas.{IsSplitTo}
use Rattle.deck_lexer.proofs.word.push_words.Given as goal

abbrev pub invariant-loop-at : goal.invariant-loop-at
invariant-loop-at l = IsSplitTo l.text l.from l.to l.initial.found.items l.found.items l.start l.at
