use Rattle.std.proofs.Common.{◌≡◌, length}
use Rattle.deck_reader.specs.Numbers.{numbers}
use Rattle.deck_reader.proofs.BehindLemmas.{behind}
use Rattle.deck_reader.proofs.number.numbers.Given as goal

abbrev pub invariant-loop-word : goal.invariant-loop-word
invariant-loop-word l = numbers l.unit l.initial.words ≡ behind l.found.items (numbers l.unit l.words)

abbrev pub decreases-loop-word : goal.decreases-loop-word
decreases-loop-word l = length l.words
