use Rattle.std.proofs.Common.{◌∙◌, sym, ap}
use Rattle.deck_reader.specs.Sources.{are_rising}
use Rattle.deck_reader.proofs.SourceLemmas.{form_of-pairs, form_points-some}
use Rattle.deck_reader.proofs.source.source_points.Goals as goal

pub invariant_of-result : goal.invariant_of-result
invariant_of-result c = (
  form_points-some c.in-Some-form_of.form _ (form_of-pairs _ _ (sym c.in-Some-form_of.ensures)) c.in_ok-points.ensures,
  ap are_rising (sym c.deref.ensures.value) ∙ sym c.are_rising.ensures ∙ c.if-not-are_rising.false,
)
