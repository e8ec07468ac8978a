use Rattle.std.proofs.Common.{◌≡◌, drop}
use Rattle.semantics.specs.Deck.{first_some}
use Rattle.deck_reader.specs.Reading.{missing_part}
use Rattle.deck_reader.proofs.whole.first_missing.Given as goal

abbrev pub invariant-loop-place : goal.invariant-loop-place
invariant-loop-place l = first_some (missing_part l.parts) l.placed ≡ first_some (missing_part l.parts) (drop l.place l.placed)
