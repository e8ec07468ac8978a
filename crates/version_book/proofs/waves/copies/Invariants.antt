-- The waves so far are copied.
use Rattle.std.proofs.Common.{◌≡◌, map, take}
use Rattle.version_book.proofs.waves.copies.Given as goal

abbrev pub invariant-loop-i : goal.invariant-loop-i
invariant-loop-i l = map (λ lines. lines.items) l.copies.items ≡ take l.i l.waves
