use Rattle.std.proofs.Common.{sym, ap, is_some}
use Rattle.event_order.proofs.Joined.{near_loses, far_loses, waits_far, takes_from}
use Rattle.event_order.proofs.queue.Queue.remove.Goals as goal

pub invariant_of-self : goal.invariant_of-self
invariant_of-self c = (near_loses c.self.inside.base _ _ _ c.args.self.now c.args.device c.self.invariant c.self.view_is
    (c.self.invariant.apart c.args.device (ap is_some (sym c.in-Some.ensures))) (takes_from _ _ c.args.device c.remove.ensures)).0

pub remove-requires-in-None : goal.remove-requires-in-None
remove-requires-in-None c = record { waits = waits_far _ _ c.args.self.now c.args.device c.self.view_is c.requires.waits (sym c.in-None.ensures) }

pub invariant_of-self-in-None : goal.invariant_of-self-in-None
invariant_of-self-in-None c = (far_loses c.self.inside.base _ _ _ c.args.self.now c.args.device c.self.invariant c.self.view_is (sym c.in-None.ensures) (takes_from _ _ c.args.device c.remove-in-None.ensures)).0

pub returns-in-Some : goal.returns-in-Some
returns-in-Some c = (near_loses c.self.inside.base _ _ _ c.args.self.now c.args.device c.self.invariant c.self.view_is
    (c.self.invariant.apart c.args.device (ap is_some (sym c.in-Some.ensures))) (takes_from _ _ c.args.device c.remove.ensures)).1

pub returns-in-None : goal.returns-in-None
returns-in-None c = (far_loses c.self.inside.base _ _ _ c.args.self.now c.args.device c.self.invariant c.self.view_is (sym c.in-None.ensures) (takes_from _ _ c.args.device c.remove-in-None.ensures)).1
