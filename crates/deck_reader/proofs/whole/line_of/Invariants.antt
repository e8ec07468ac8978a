use Rattle.std.proofs.Common.{◌≡◌, drop}
use Rattle.semantics.specs.Deck.{first_some}
use Rattle.deck_reader.specs.Circuit.{end_line}
use Rattle.deck_reader.proofs.whole.line_of.Given as goal

abbrev pub invariant-loop-place : goal.invariant-loop-place
invariant-loop-place l = first_some (end_line l.node) l.placed ≡ first_some (end_line l.node) (drop l.place l.placed)
