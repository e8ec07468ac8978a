use Rattle.std.proofs.Common.{sym, refl, subst, ap, is_some}
use Rattle.std.proofs.lemmas.Result.{on_ok_weaker}
use Rattle.event_order.specs.Parts.{IsSplit}
use Rattle.event_order.proofs.Joined.{near_gets, far_gets, near_to_far, far_to_near, waits_far, puts_from, takes_from, tried}
use Rattle.event_order.proofs.queue.Queue.move_to.Goals as goal

pub invariant_of-self : goal.invariant_of-self
invariant_of-self c = tried c.move_to.result c.move_to.ensures.ok c.move_to.ensures.err
    (λ is. (near_gets c.self.inside.base _ _ _ c.args.self.now c.args.device c.args.tick c.self.invariant c.self.view_is
    (c.self.invariant.apart c.args.device (ap is_some (sym c.in-Some-true.ensures))) (c.in-Some-true.ensures'.0 refl) (puts_from _ _ c.args.device c.args.tick is)).0)
    (λ is. subst (λ n. IsSplit c.self.inside.base n c.self.inside.far) (sym is) c.self.invariant)

pub returns-in-Some-true-clause-ok : goal.returns-in-Some-true-clause-ok
returns-in-Some-true-clause-ok c = on_ok_weaker c.move_to.result
    (λ is. (near_gets c.self.inside.base _ _ _ c.args.self.now c.args.device c.args.tick c.self.invariant c.self.view_is
    (c.self.invariant.apart c.args.device (ap is_some (sym c.in-Some-true.ensures))) (c.in-Some-true.ensures'.0 refl) (puts_from _ _ c.args.device c.args.tick is)).1) c.move_to.ensures.ok

pub invariant_of-self-in-Some-false : goal.invariant_of-self-in-Some-false
invariant_of-self-in-Some-false c = (near_to_far c.self.inside.base _ _ _ _ c.args.self.now c.args.device c.args.tick c.self.invariant c.self.view_is
    (takes_from _ _ c.args.device c.remove.ensures) (puts_from _ _ c.args.device c.args.tick c.in_ok-put-in-Some-false.ensures.ok)).0

pub returns-in_ok-put-in-Some-false-clause-ok : goal.returns-in_ok-put-in-Some-false-clause-ok
returns-in_ok-put-in-Some-false-clause-ok c = (near_to_far c.self.inside.base _ _ _ _ c.args.self.now c.args.device c.args.tick c.self.invariant c.self.view_is
    (takes_from _ _ c.args.device c.remove.ensures) (puts_from _ _ c.args.device c.args.tick c.in_ok-put-in-Some-false.ensures.ok)).1

pub remove-requires-in-None-true : goal.remove-requires-in-None-true
remove-requires-in-None-true c = record { waits = waits_far _ _ c.args.self.now c.args.device c.self.view_is c.requires.waits (sym c.in-None-true.ensures) }

pub invariant_of-self-in-None-true : goal.invariant_of-self-in-None-true
invariant_of-self-in-None-true c = (far_to_near c.self.inside.base _ _ _ _ c.args.self.now c.args.device c.args.tick c.self.invariant c.self.view_is (c.in-None-true.ensures'.0 refl)
    (puts_from _ _ c.args.device c.args.tick c.in_ok-put-in-None-true.ensures.ok) (takes_from _ _ c.args.device c.remove-in-None-true.ensures)).0

pub returns-in_ok-put-in-None-true-clause-ok : goal.returns-in_ok-put-in-None-true-clause-ok
returns-in_ok-put-in-None-true-clause-ok c = (far_to_near c.self.inside.base _ _ _ _ c.args.self.now c.args.device c.args.tick c.self.invariant c.self.view_is (c.in-None-true.ensures'.0 refl)
    (puts_from _ _ c.args.device c.args.tick c.in_ok-put-in-None-true.ensures.ok) (takes_from _ _ c.args.device c.remove-in-None-true.ensures)).1

pub move_to-requires-in-None-false : goal.move_to-requires-in-None-false
move_to-requires-in-None-false c = record { waits = waits_far _ _ c.args.self.now c.args.device c.self.view_is c.requires.waits (sym c.in-None-false.ensures) }

pub invariant_of-self-in-None-false : goal.invariant_of-self-in-None-false
invariant_of-self-in-None-false c = tried c.move_to-in-None-false.result c.move_to-in-None-false.ensures.ok c.move_to-in-None-false.ensures.err
    (λ is. (far_gets c.self.inside.base _ _ _ c.args.self.now c.args.device c.args.tick c.self.invariant c.self.view_is (sym c.in-None-false.ensures) (puts_from _ _ c.args.device c.args.tick is)).0)
    (λ is. subst (λ f. IsSplit c.self.inside.base c.self.inside.near f) (sym is) c.self.invariant)

pub returns-in-None-false-clause-ok : goal.returns-in-None-false-clause-ok
returns-in-None-false-clause-ok c = on_ok_weaker c.move_to-in-None-false.result
    (λ is. (far_gets c.self.inside.base _ _ _ c.args.self.now c.args.device c.args.tick c.self.invariant c.self.view_is (sym c.in-None-false.ensures) (puts_from _ _ c.args.device c.args.tick is)).1) c.move_to-in-None-false.ensures.ok
