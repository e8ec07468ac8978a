use Rattle.std.proofs.Common.{◌<◌, length, arith, ◌∙◌, sym, ap}
use Rattle.std.specs.FinMap as map
use Rattle.event_order.proofs.Tables.{waits_there, get_at, ticks_of-take}
use Rattle.event_order.proofs.Ordered.{HasAll-take}
use Rattle.event_order.proofs.far.Far.remove.Goals as goal

pub index_mut-requires : goal.index_mut-requires
index_mut-requires c =
    let there : c.args.device < length c.self.inside.ticks.items = waits_there _ c.args.self.now c.args.device c.self.view_is c.requires.waits in
    omega arith

pub invariant_of-self : goal.invariant_of-self
invariant_of-self c = HasAll-take _ _ _ c.unwrap-tick.result c.args.device c.self.invariant c.remove.ensures.updates.0
    (sym (get_at _ c.args.self.now c.args.device c.self.view_is) ∙ (sym c.tick.ensures ∙ c.unwrap-tick.ensures))
    (waits_there _ c.args.self.now c.args.device c.self.view_is c.requires.waits)

pub returns : goal.returns
returns c = ticks_of-take _ c.args.device (waits_there _ c.args.self.now c.args.device c.self.view_is c.requires.waits) ∙ ap (λ m. map.remove m c.args.device) c.self.view_is
