use Rattle.std.proofs.Common.{◌≡◌, length}
use Rattle.deck_reader.specs.Sources.{foreign_word}
use Rattle.deck_reader.proofs.ForeignLemmas.{foreign_from}
use Rattle.deck_reader.proofs.source.foreign_word.Given as goal

abbrev pub invariant-loop-word : goal.invariant-loop-word
invariant-loop-word l = foreign_word l.initial.words ≡ foreign_from l.after_dc l.words

abbrev pub decreases-loop-word : goal.decreases-loop-word
decreases-loop-word l = length l.words
