use Rattle.std.proofs.Common.{◌≡◌, take, map}
use Rattle.deck_cards.specs.Facts.{terminals_of}
use Rattle.deck_cards.proofs.terminals.counts_of.Given as goal

abbrev pub invariant-loop-place : goal.invariant-loop-place
invariant-loop-place l = l.counts.items ≡ map (λ n. terminals_of n (take l.place l.elements)) l.names.keys
