-- What goes into the second end comes out of the first.
use Rattle.std.proofs.Common.{get_or, pos}
use Rattle.circuit_model.specs.Wiring.{leads_to}
use Rattle.circuit_model.proofs.Flows.{through}
use Rattle.circuit_model.proofs.device.Device.let_flow.Goals as goal

pub returns : goal.returns
returns c = λ i. rw (← c.self.view_is)
    (through (leads_to i c.self.inside.ends.first) (leads_to i c.self.inside.ends.second) (get_or c.args.rates.now i (pos 0)) (get_or c.add_current.new.rates i (pos 0)) (get_or c.add_current-2.new.rates i (pos 0)) c.args.amps
    c.requires.amps (c.add_current.ensures i) (c.add_current-2.ensures i))
