use Rattle.deck_lexer.proofs.LineLemmas.{line_len-at, line_len-none}
use Rattle.deck_lexer.proofs.line.line_len.Goals as goal

pub returns-then-byte-eq10-clause-place : goal.returns-then-byte-eq10-clause-place
returns-then-byte-eq10-clause-place c = line_len-at _ _ c.loop-i-test.true c.loop-i.invariant c.if-byte-eq10.true

pub returns-clause-place : goal.returns-clause-place
returns-clause-place c = line_len-none _ _ c.loop-i-test.false c.loop-i.invariant
