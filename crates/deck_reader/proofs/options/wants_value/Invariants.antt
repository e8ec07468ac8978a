use Rattle.std.proofs.Common.{◌≡◌, length, is_none}
use Rattle.deck_reader.specs.Dots.{grain_values}
use Rattle.deck_reader.proofs.GrainLemmas.{wants_value}
use Rattle.deck_reader.proofs.options.wants_value.Given as goal

abbrev pub invariant-loop-word : goal.invariant-loop-word
invariant-loop-word l = is_none (grain_values l.initial.words) ≡ wants_value l.after_grain l.words

abbrev pub decreases-loop-word : goal.decreases-loop-word
decreases-loop-word l = length l.words
