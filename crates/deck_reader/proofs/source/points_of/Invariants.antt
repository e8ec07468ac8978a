use Rattle.std.proofs.Common.{◌≡◌, length}
use Rattle.deck_reader.specs.Sources.{points_of}
use Rattle.deck_reader.proofs.BehindLemmas.{behind}
use Rattle.deck_reader.proofs.source.points_of.Given as goal

abbrev pub invariant-loop-time : goal.invariant-loop-time
invariant-loop-time l = points_of l.initial.words ≡ behind l.points.items (points_of l.words)

abbrev pub decreases-loop-time : goal.decreases-loop-time
decreases-loop-time l = length l.words
