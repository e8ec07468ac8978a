use Rattle.std.proofs.Common.{sym, refl, subst}
use Rattle.std.proofs.lemmas.Result.{on_ok_weaker}
use Rattle.event_order.specs.Parts.{IsSplit}
use Rattle.event_order.proofs.Joined.{near_gets, far_gets, free_near, free_far, puts_from, tried}
use Rattle.event_order.proofs.queue.Queue.put.Goals as goal

pub put-requires : goal.put-requires
put-requires c = record { absent = free_near _ _ c.args.self.now c.args.device c.self.view_is c.requires.absent }

pub invariant_of-self : goal.invariant_of-self
invariant_of-self c = tried c.put.result c.put.ensures.ok c.put.ensures.err
    (λ is. (near_gets c.self.inside.base _ _ _ c.args.self.now c.args.device c.args.tick c.self.invariant c.self.view_is
    (free_far _ _ c.args.self.now c.args.device c.self.view_is c.requires.absent) (c.if-is_near.ensures.0 refl) (puts_from _ _ c.args.device c.args.tick is)).0)
    (λ is. subst (λ n. IsSplit c.self.inside.base n c.self.inside.far) (sym is) c.self.invariant)

pub put-requires-else-is_near : goal.put-requires-else-is_near
put-requires-else-is_near c = record { absent = free_far _ _ c.args.self.now c.args.device c.self.view_is c.requires.absent }

pub invariant_of-self-else-is_near : goal.invariant_of-self-else-is_near
invariant_of-self-else-is_near c = tried c.put-else-is_near.result c.put-else-is_near.ensures.ok c.put-else-is_near.ensures.err
    (λ is. (far_gets c.self.inside.base _ _ _ c.args.self.now c.args.device c.args.tick c.self.invariant c.self.view_is
    (free_near _ _ c.args.self.now c.args.device c.self.view_is c.requires.absent) (puts_from _ _ c.args.device c.args.tick is)).0)
    (λ is. subst (λ f. IsSplit c.self.inside.base c.self.inside.near f) (sym is) c.self.invariant)

pub returns-then-is_near-clause-ok : goal.returns-then-is_near-clause-ok
returns-then-is_near-clause-ok c = on_ok_weaker c.put.result
    (λ is. (near_gets c.self.inside.base _ _ _ c.args.self.now c.args.device c.args.tick c.self.invariant c.self.view_is
    (free_far _ _ c.args.self.now c.args.device c.self.view_is c.requires.absent) (c.if-is_near.ensures.0 refl) (puts_from _ _ c.args.device c.args.tick is)).1) c.put.ensures.ok

pub returns-else-is_near-clause-ok : goal.returns-else-is_near-clause-ok
returns-else-is_near-clause-ok c = on_ok_weaker c.put-else-is_near.result
    (λ is. (far_gets c.self.inside.base _ _ _ c.args.self.now c.args.device c.args.tick c.self.invariant c.self.view_is
    (free_near _ _ c.args.self.now c.args.device c.self.view_is c.requires.absent) (puts_from _ _ c.args.device c.args.tick is)).1) c.put-else-is_near.ensures.ok
