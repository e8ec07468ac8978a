use Rattle.std.proofs.Common.{◌∙◌, sym, subst}
use Rattle.event_order.specs.Ticks.{IsFirst}
use Rattle.event_order.proofs.Ordered.{first_is, none_first, none_there}
use Rattle.event_order.proofs.far.Far.first.Goals as goal

pub returns-in-Some-clause-some : goal.returns-in-Some-clause-some
returns-in-Some-clause-some c = subst (λ m. IsFirst m c.in-Some.field-0.now.0) c.self.view_is (first_is _ _ c.in-Some.field-0.now c.self.invariant c.in-Some.ensures.member c.in-Some.ensures.least)

pub returns-in-None-clause-none : goal.returns-in-None-clause-none
returns-in-None-clause-none c = sym c.self.view_is ∙ none_first _ _ c.self.invariant (none_there _ _ c.in-None.is c.first.ensures.variant.1)
