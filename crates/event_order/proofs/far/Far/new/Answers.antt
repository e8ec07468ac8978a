use Rattle.std.proofs.Common.{◌∙◌, ap}
use Rattle.event_order.specs.Tables.{ticks_of}
use Rattle.event_order.proofs.Tables.{ticks_of-empty}
use Rattle.event_order.proofs.far.Far.new.Goals as goal

pub returns : goal.returns
returns c = ap ticks_of c.new.ensures.items ∙ ticks_of-empty
