use Rattle.std.proofs.Common.{◌≡◌, ◌++◌, take}
use Rattle.deck_lexer.specs.Words.{lowered}
use Rattle.deck_lexer.proofs.draft.push_lowered.Given as goal

abbrev pub invariant-loop-byte : goal.invariant-loop-byte
invariant-loop-byte l = l.out.items ≡ l.initial.out.items ++ lowered (take l.byte-index l.text)
