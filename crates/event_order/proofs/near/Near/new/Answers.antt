use Rattle.std.proofs.Common.{◌∙◌, ap}
use Rattle.event_order.specs.Tables.{ticks_of}
use Rattle.event_order.specs.Spots.{ticks_in}
use Rattle.event_order.proofs.Tables.{ticks_of-empty}
use Rattle.event_order.proofs.near.Near.new.Goals as goal

pub returns : goal.returns
returns c = ap (λ xs. ticks_of (ticks_in xs)) c.new.ensures.items ∙ ticks_of-empty
