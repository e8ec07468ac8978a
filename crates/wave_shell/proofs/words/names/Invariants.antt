-- The names so far stand before those of the words that are left.
use Rattle.std.proofs.Common.{◌≡◌, ◌++◌, map, option_map, string_bytes, take, drop}
use Rattle.wave_shell.specs.Words.{names_in}
use Rattle.wave_shell.proofs.words.names.Given as goal

abbrev pub invariant-loop-place : goal.invariant-loop-place
invariant-loop-place l = names_in (map string_bytes l.words)
    ≡ option_map (λ names. map string_bytes (take l.place l.words) ++ names)
    (names_in (map string_bytes (drop l.place l.words)))
