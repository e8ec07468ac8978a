use Rattle.std.proofs.Common.{sym, ◌∙◌}
use Rattle.deck_lexer.specs.Words.{code_of}
use Rattle.deck_lexer.proofs.SplitLemmas.{before_comment-stop, before_comment-end}
use Rattle.deck_lexer.proofs.word.without_comment.Goals as goal

pub returns-then-begins_comment-clause-code : goal.returns-then-begins_comment-clause-code
unfolding code_of
returns-then-begins_comment-clause-code c =
    before_comment-stop _ _ _ c.loop-i.invariant c.loop-i-test.true (sym c.begins_comment.ensures ∙ c.if-begins_comment.true)

pub returns-clause-code : goal.returns-clause-code
unfolding code_of
returns-clause-code c = before_comment-end _ _ _ c.loop-i.invariant c.loop-i-test.false
