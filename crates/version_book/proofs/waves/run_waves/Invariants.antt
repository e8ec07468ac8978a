-- The waves so far are those of the first nodes.
use Rattle.std.proofs.Common.{◌≡◌, map, take}
use Rattle.semantics.specs.Deck.{nodes}
use Rattle.semantics.specs.Wave.{wave}
use Rattle.version_book.proofs.waves.run_waves.Given as goal

abbrev pub invariant-loop-i : goal.invariant-loop-i
invariant-loop-i l = map (λ lines. lines.items) l.waves.items ≡ map (wave l.deck) (take l.i (nodes l.deck))
