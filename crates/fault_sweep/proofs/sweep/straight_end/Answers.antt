-- Its line goes straight on to its end.
use Rattle.std.proofs.Common.{◌∙◌, ap}
use Rattle.std.specs.Prelude.{min}
use Rattle.fault_sweep.proofs.Stretch.{straight_to}
use Rattle.fault_sweep.proofs.sweep.straight_end.Goals as goal

pub returns : goal.returns
returns c = straight_to _ c.args.past.now.stop c.args.now c.args.end c.line_end.result _ c.requires.order c.requires.stop c.line_end.ensures.end (c.min.ensures ∙ ap (λ u. min u c.args.end) c.max.ensures)
