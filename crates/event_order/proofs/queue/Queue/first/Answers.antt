use Rattle.std.proofs.Common.{◌∙◌, sym, subst}
use Rattle.std.proofs.lemmas.Option.{MatchOption-at_none}
use Rattle.event_order.specs.Ticks.{IsFirst}
use Rattle.event_order.proofs.Joined.{first_near, first_far, first_both, joined_empty}
use Rattle.event_order.proofs.queue.Queue.first.Goals as goal

pub returns-in-Some-Some-clause-some : goal.returns-in-Some-Some-clause-some
returns-in-Some-Some-clause-some c = subst (IsFirst c.args.self.now) (sym c.min.ensures) (first_both c.self.inside.base _ _ c.args.self.now _ _ c.self.invariant c.self.view_is c.in-Some-Some.ensures.some c.in-Some-Some.ensures'.some)

pub returns-in-Some-None-clause-some : goal.returns-in-Some-None-clause-some
returns-in-Some-None-clause-some c = first_near c.self.inside.base _ _ c.args.self.now _ c.self.invariant c.self.view_is c.in-Some-None.ensures.some c.in-Some-None.ensures'.none

pub returns-in-None-Some-clause-some : goal.returns-in-None-Some-clause-some
returns-in-None-Some-clause-some c = first_far c.self.inside.base _ _ c.args.self.now _ c.self.invariant c.self.view_is (MatchOption-at_none _ _ c.in-None-Some.is-0 c.first.ensures.none) c.in-None-Some.ensures.some

pub returns-in-None-None-clause-none : goal.returns-in-None-None-clause-none
returns-in-None-None-clause-none c = sym c.self.view_is ∙ joined_empty _ _ (MatchOption-at_none _ _ c.in-None-None.is-0 c.first.ensures.none) c.in-None-None.ensures.none
