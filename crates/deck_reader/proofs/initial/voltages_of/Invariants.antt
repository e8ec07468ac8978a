use Rattle.std.proofs.Common.{◌≡◌, length}
use Rattle.deck_reader.specs.Dots.{voltages_of}
use Rattle.deck_reader.proofs.BehindLemmas.{behind}
use Rattle.deck_reader.proofs.initial.voltages_of.Given as goal

abbrev pub invariant-loop-words : goal.invariant-loop-words
invariant-loop-words l = voltages_of l.initial.words ≡ behind l.voltages.items (voltages_of l.words)

abbrev pub decreases-loop-words : goal.decreases-loop-words
decreases-loop-words l = length l.words
