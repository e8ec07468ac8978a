use Rattle.std.proofs.Common.{◌≡◌, length}
use Rattle.deck_reader.specs.Dots.{are_triples}
use Rattle.deck_reader.proofs.initial.are_triples.Given as goal

abbrev pub invariant-loop-key : goal.invariant-loop-key
invariant-loop-key l = are_triples l.initial.words ≡ are_triples l.words

abbrev pub decreases-loop-key : goal.decreases-loop-key
decreases-loop-key l = length l.words
