use Rattle.std.proofs.Common.{drop, sym, ap, ◌∙◌}
use Rattle.std.proofs.lemmas.Bool.{ne_eqb}
use Rattle.std.proofs.lemmas.Result.{IfOk-weaker}
use Rattle.deck_lexer.specs.Words.{split_words}
use Rattle.deck_lexer.proofs.ReadLemmas.{ReadsLine-title, ReadsLine-comment, ReadsLine-not_ascii, ReadsLine-continuation, ReadsLine-words}
use Rattle.deck_lexer.proofs.pending.Pending.read_line.Goals as goal
use Rattle.deck_lexer.proofs.pending.Pending.read_line.Goals.{then-number-eq1-via-then-number-eq1, then-number-eq1-via-else-number-eq1+then-begins_with}

pub returns-then-number-eq1-clause-step : goal.returns-then-number-eq1-clause-step
returns-then-number-eq1-clause-step c = elim c.then-number-eq1.branch [
  | then-number-eq1-via-then-number-eq1 w ↦ ReadsLine-title _ _ _ w.if-number-eq1.true
  | then-number-eq1-via-else-number-eq1+then-begins_with w ↦
      ReadsLine-comment _ _ _ (ne_eqb _ _ w.if-number-eq1.false) (sym w.begins_with.ensures ∙ w.if-begins_with.true)
]

pub returns-then-not-is_ascii-clause-step : goal.returns-then-not-is_ascii-clause-step
returns-then-not-is_ascii-clause-step c =
    ReadsLine-not_ascii _ _ _ (record { number_is = ne_eqb _ _ c.if-number-eq1.false; begins = sym c.begins_with.ensures ∙ c.if-begins_with.false })
    (sym c.is_ascii.ensures ∙ c.if-not-is_ascii.true)

pub returns-then-begins_with-2-clause-step : goal.returns-then-begins_with-2-clause-step
returns-then-begins_with-2-clause-step c =
    IfOk-weaker c.continue_card.result _ _
    (λ step. ReadsLine-continuation _ _ _ _ (record { number_is = ne_eqb _ _ c.if-number-eq1.false; begins = sym c.begins_with.ensures ∙ c.if-begins_with.false })
    (sym c.is_ascii.ensures ∙ c.if-not-is_ascii.false) (sym c.begins_with-2.ensures ∙ c.if-begins_with-2.true) (ap split_words (c.behind_first.ensures ∙ ap (drop 1) c.without_comment-code.ensures.code)) step _)
    c.continue_card.ensures.step

pub returns-else-begins_with-2-clause-step : goal.returns-else-begins_with-2-clause-step
returns-else-begins_with-2-clause-step c =
    IfOk-weaker c.add_card.result _ _
    (λ step. ReadsLine-words _ _ _ _ (record { number_is = ne_eqb _ _ c.if-number-eq1.false; begins = sym c.begins_with.ensures ∙ c.if-begins_with.false })
    (sym c.is_ascii.ensures ∙ c.if-not-is_ascii.false) (sym c.begins_with-2.ensures ∙ c.if-begins_with-2.false) (ap split_words c.without_comment-code.ensures.code) step _)
    c.add_card.ensures.step
