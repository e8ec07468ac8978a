use Rattle.event_order.proofs.Joined.{split_empty}
use Rattle.event_order.proofs.queue.Queue.turn_to.Goals as goal

pub invariant_of-self : goal.invariant_of-self
invariant_of-self c = split_empty c.args.tick _ _ c.in-None.ensures.none c.self.invariant.apart
