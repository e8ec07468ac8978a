-- By its tests.
use Rattle.std.proofs.Common.{◌∙◌, sym, ap}
use Rattle.std.proofs.lemmas.Bool.{false≢true}
use Rattle.semantics.specs.declared.line.Line.{Line}
use Rattle.histories.proofs.Shapes.{rise_to, shaped}
use Rattle.histories.proofs.piece.is_shape.Goals as goal

pub returns-then-are_rising : goal.returns-then-are_rising
returns-then-are_rising c = (
  (λ by. shaped c.args.from c.args.until c.args.ramps.now c.in-Some.first.now c.in-Some.ensures.value c.if-until-from.false
      (sym (ap (λ (l : Line). l.start) c.line.ensures) ∙ c.if-line-from.false) (sym c.if-are_rising.ensures) (c.are_by.ensures.0 by)),
  (λ shape. c.are_by.ensures.1 shape.by_until),
)

pub returns-else-are_rising : goal.returns-else-are_rising
returns-else-are_rising c = (
  (λ rises. absurd (false≢true (sym c.if-are_rising.false ∙ rises))),
  (λ shape. c.are_rising.ensures ∙ rise_to c.args.ramps.now shape.lines.rising),
)
