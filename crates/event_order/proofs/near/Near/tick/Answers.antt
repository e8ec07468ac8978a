use Rattle.std.proofs.Common.{◌∙◌, sym, ap, None, arith}
use Rattle.event_order.specs.Spots.{spot_at, tick_of}
use Rattle.event_order.proofs.SpotTicks.{spot_get}
use Rattle.event_order.proofs.near.Near.tick.Goals as goal

pub returns-in-Some-Some : goal.returns-in-Some-Some
returns-in-Some-Some c = ap tick_of (sym c.in-Some-Some.field-0-is ∙ c.in-Some-Some.ensures.lookup.4 (omega arith) None ∙ ap (λ xs. spot_at xs c.args.device) c.deref.ensures.value)
    ∙ sym (spot_get _ c.args.self.now c.args.device c.self.view_is)

pub returns-in-Some-None : goal.returns-in-Some-None
returns-in-Some-None c = ap tick_of (sym c.in-Some-None.field-0-is ∙ c.in-Some-None.ensures.lookup.4 (omega arith) None ∙ ap (λ xs. spot_at xs c.args.device) c.deref.ensures.value)
    ∙ sym (spot_get _ c.args.self.now c.args.device c.self.view_is)

pub returns-in-None : goal.returns-in-None
returns-in-None c = ap tick_of (c.in-None.ensures.lookup.4 (omega arith) None ∙ ap (λ xs. spot_at xs c.args.device) c.deref.ensures.value)
    ∙ sym (spot_get _ c.args.self.now c.args.device c.self.view_is)
