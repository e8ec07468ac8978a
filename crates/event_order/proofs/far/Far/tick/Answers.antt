use Rattle.std.proofs.Common.{◌∙◌, sym, ap, None, arith}
use Rattle.event_order.specs.Tables.{tick_at}
use Rattle.event_order.proofs.Tables.{get_at}
use Rattle.event_order.proofs.far.Far.tick.Goals as goal

pub returns-in-Some : goal.returns-in-Some
returns-in-Some c = c.in-Some.ensures.lookup.4 (omega arith) None ∙ ap (λ xs. tick_at xs c.args.device) c.deref.ensures.value ∙ sym (get_at _ c.args.self.now c.args.device c.self.view_is)

pub returns-in-None : goal.returns-in-None
returns-in-None c = c.in-None.ensures.lookup.4 (omega arith) None ∙ ap (λ xs. tick_at xs c.args.device) c.deref.ensures.value ∙ sym (get_at _ c.args.self.now c.args.device c.self.view_is)
