use Rattle.std.proofs.Common.{◌≡◌, length}
use Rattle.deck_reader.specs.Settings.{unset, with_pairs}
use Rattle.deck_reader.proofs.settings.Settings.of.Given as goal

abbrev pub invariant-loop-word : goal.invariant-loop-word
invariant-loop-word l = with_pairs unset l.initial.pairs ≡ with_pairs l.settings l.pairs

abbrev pub decreases-loop-word : goal.decreases-loop-word
decreases-loop-word l = length l.pairs
