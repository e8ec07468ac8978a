use Rattle.std.proofs.lemmas.Option.{MatchOption-at_none}
use Rattle.event_order.proofs.Ordered.{since_due, since_later, since_none}
use Rattle.event_order.proofs.far.Far.due.Goals as goal

pub returns-in-Some-clause-some : goal.returns-in-Some-clause-some
returns-in-Some-clause-some c = since_due _ _ c.args.self.now c.args.tick _ _ c.in-Some.field-0.now c.self.invariant c.self.view_is (c.range.ensures.in_range tt) c.in-Some.ensures.steps c.if-at-tick.true

pub returns-in_default-clause-none : goal.returns-in_default-clause-none
returns-in_default-clause-none c = since_later _ _ c.args.self.now c.args.tick _ _ c.in-Some.field-0.now c.self.invariant c.self.view_is (c.range.ensures.in_range tt) c.in-Some.ensures.steps c.if-at-tick.false

pub returns-in_default-2-clause-none : goal.returns-in_default-2-clause-none
returns-in_default-2-clause-none c = since_none _ _ c.args.self.now c.args.tick _ c.self.invariant c.self.view_is (c.range.ensures.in_range tt) (MatchOption-at_none _ _ c.in_default.is c.next.ensures.steps).0
