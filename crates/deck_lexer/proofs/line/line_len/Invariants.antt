use Rattle.std.proofs.Common.{◌≡◌, ℕ, ◌<◌, false, get_or}
use Rattle.deck_lexer.specs.Lines.{ends_line}
use Rattle.deck_lexer.proofs.line.line_len.Given as goal

abbrev pub invariant-loop-i : goal.invariant-loop-i
invariant-loop-i l = (k : ℕ) → k < l.i → ends_line (get_or l.text k 0) ≡ false
