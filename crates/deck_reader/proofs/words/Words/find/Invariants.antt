use Rattle.std.proofs.Common.{◌≡◌, ◌+◌, length}
use Rattle.std.specs.List.{position_from}
use Rattle.std.specs.Str.{bytes_eq}
use Rattle.deck_reader.proofs.words.Words.find.Given as goal

abbrev pub invariant-loop-place : goal.invariant-loop-place
invariant-loop-place l =
    (position_from (λ word. bytes_eq word l.text) 0 l.self ≡ position_from (λ word. bytes_eq word l.text) l.place l.words)
    × (l.place + length l.words ≡ length l.self)
