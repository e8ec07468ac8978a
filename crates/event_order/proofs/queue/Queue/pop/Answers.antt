use Rattle.event_order.proofs.Joined.{pops_near, pops_far}
use Rattle.event_order.proofs.queue.Queue.pop.Goals as goal

pub invariant_of-self : goal.invariant_of-self
invariant_of-self c = (pops_near c.self.inside.base _ _ _ c.args.self.now c.args.tick c.in-Some.device c.self.invariant c.self.view_is c.in-Some.ensures).0

pub invariant_of-self-in-None : goal.invariant_of-self-in-None
invariant_of-self-in-None c = (pops_far c.self.inside.base _ _ _ _ c.args.self.now c.args.tick c.pop-in-None.result c.self.invariant c.self.view_is c.in-None.ensures.0 c.in-None.ensures.1 c.pop-in-None.ensures).0

pub returns-in-Some : goal.returns-in-Some
returns-in-Some c = (pops_near c.self.inside.base _ _ _ c.args.self.now c.args.tick c.in-Some.device c.self.invariant c.self.view_is c.in-Some.ensures).1

pub returns-in-None : goal.returns-in-None
returns-in-None c = (pops_far c.self.inside.base _ _ _ _ c.args.self.now c.args.tick c.pop-in-None.result c.self.invariant c.self.view_is c.in-None.ensures.0 c.in-None.ensures.1 c.pop-in-None.ensures).1
