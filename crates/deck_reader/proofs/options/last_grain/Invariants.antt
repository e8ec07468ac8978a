use Rattle.std.proofs.Common.{◌≡◌, length}
use Rattle.deck_reader.specs.Dots.{options}
use Rattle.deck_reader.proofs.GrainLemmas.{grain_behind}
use Rattle.deck_reader.proofs.options.last_grain.Given as goal

abbrev pub invariant-loop-word : goal.invariant-loop-word
invariant-loop-word l = options l.initial.words ≡ grain_behind l.last l.after_grain l.words

abbrev pub decreases-loop-word : goal.decreases-loop-word
decreases-loop-word l = length l.words
