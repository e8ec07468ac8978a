use Rattle.std.proofs.Common.{◌<◌, length, Some, arith, ◌∙◌, sym, ap}
use Rattle.std.specs.FinMap as map
use Rattle.event_order.proofs.Tables.{waits_there, get_at, ticks_of-put, put_again}
use Rattle.event_order.proofs.Ordered.{HasAll-move}
use Rattle.event_order.proofs.far.Far.move_to.Goals as goal

pub index_mut-requires : goal.index_mut-requires
index_mut-requires c =
    let there : c.args.device < length c.self.inside.ticks.items = waits_there _ c.args.self.now c.args.device c.self.view_is c.requires.waits in
    omega arith

pub invariant_of-self-then-before-tick : goal.invariant_of-self-then-before-tick
invariant_of-self-then-before-tick c = HasAll-move _ _ _ _ c.unwrap-before.result c.args.tick c.args.device c.self.invariant c.in_ok-insert.ensures.updates.0 c.remove.ensures.updates.0
    (sym (get_at _ c.args.self.now c.args.device c.self.view_is) ∙ (sym c.tick.ensures ∙ c.unwrap-before.ensures))
    c.if-before-tick.true
    (waits_there _ c.args.self.now c.args.device c.self.view_is c.requires.waits)

pub returns-in_ok-insert-clause-ok : goal.returns-in_ok-insert-clause-ok
returns-in_ok-insert-clause-ok c = ticks_of-put _ c.args.device c.args.tick (waits_there _ c.args.self.now c.args.device c.self.view_is c.requires.waits)
    ∙ ap (λ m. map.insert m c.args.device c.args.tick) c.self.view_is

pub returns-else-before-tick-clause-ok : goal.returns-else-before-tick-clause-ok
returns-else-before-tick-clause-ok c = put_again c.args.self.now c.args.device c.args.tick ((sym c.tick.ensures ∙ c.unwrap-before.ensures) ∙ ap Some c.if-before-tick.false)
