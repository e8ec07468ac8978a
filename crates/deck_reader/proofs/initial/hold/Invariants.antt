use Rattle.std.proofs.Common.{◌≡◌, length}
use Rattle.deck_reader.specs.Voltages.{held}
use Rattle.deck_reader.proofs.initial.hold.Given as goal

abbrev pub invariant-loop-words : goal.invariant-loop-words
invariant-loop-words l = held l.initial.held.0 l.initial.held.1 l.initial.words ≡ held l.held.0 l.held.1 l.words

abbrev pub decreases-loop-words : goal.decreases-loop-words
decreases-loop-words l = length l.words
