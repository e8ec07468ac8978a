use Rattle.std.proofs.Common.{arith, sym, ◌∙◌}
use Rattle.std.proofs.lemmas.Result.{on_ok_weaker}
use Rattle.deck_lexer.proofs.SplitLemmas.{IsSplitTo-byte, IsSplitTo-separator, IsSplitTo-end, IsSplitTo-few, IsSplitTo-apart, IsSplitTo-spans}
use Rattle.deck_lexer.proofs.word.push_words.Goals as goal
use Rattle.deck_lexer.proofs.word.push_words.Goals.{then-is_separator+in_ok-push_span, else-is_separator}

pub loop-at-preserved : goal.loop-at-preserved
loop-at-preserved c = elim c.if-is_separator.branch [
  | then-is_separator+in_ok-push_span w ↦
      rw (w.found-is, w.start-is, w.in_ok-push_span.ensures)
      (IsSplitTo-separator c.loop-at.invariant (sym c.is_separator.ensures ∙ w.if-is_separator.true) c.loop-at-test.true c.requires.within)
  | else-is_separator w ↦
      rw (w.found-is, w.start-is)
      (IsSplitTo-byte c.loop-at.invariant (sym c.is_separator.ensures ∙ w.if-is_separator.false) (omega arith))
]

pub returns-clause-words : goal.returns-clause-words
returns-clause-words c = on_ok_weaker _ (IsSplitTo-end _ c.loop-at.invariant (omega arith) c.requires.within) c.push_span-2.ensures

pub returns-clause-few : goal.returns-clause-few
returns-clause-few c = on_ok_weaker _ (IsSplitTo-few _ c.loop-at.invariant (omega arith)) c.push_span-2.ensures

pub returns-clause-apart : goal.returns-clause-apart
returns-clause-apart c pairs each = on_ok_weaker _ (IsSplitTo-apart _ c.loop-at.invariant pairs each) c.push_span-2.ensures

pub returns-clause-spans : goal.returns-clause-spans
returns-clause-spans c end o each = on_ok_weaker _ (IsSplitTo-spans _ c.loop-at.invariant end o each) c.push_span-2.ensures
