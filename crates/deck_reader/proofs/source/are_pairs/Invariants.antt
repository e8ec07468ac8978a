use Rattle.std.proofs.Common.{◌≡◌, length}
use Rattle.deck_reader.specs.Words.{are_pairs}
use Rattle.deck_reader.proofs.source.are_pairs.Given as goal

abbrev pub invariant-loop-words : goal.invariant-loop-words
invariant-loop-words l = are_pairs l.initial.words ≡ are_pairs l.words

abbrev pub decreases-loop-words : goal.decreases-loop-words
decreases-loop-words l = length l.words
