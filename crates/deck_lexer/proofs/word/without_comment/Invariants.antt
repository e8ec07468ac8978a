use Rattle.std.proofs.Common.{◌≡◌, ◌++◌, take, drop, true}
use Rattle.deck_lexer.specs.Words.{before_comment}
use Rattle.deck_lexer.proofs.word.without_comment.Given as goal

abbrev pub invariant-loop-i : goal.invariant-loop-i
invariant-loop-i l = before_comment true l.line ≡ take l.i l.line ++ before_comment l.after_blank (drop l.i l.line)
