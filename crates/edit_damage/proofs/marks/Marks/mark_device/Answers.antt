-- First end, gate and second end.
use Rattle.std.proofs.Common.{get_or, [], arith}
use Rattle.semantics.specs.Neighbours.{is_end}
use Rattle.circuit_model.specs.Numbers.{device_of}
use Rattle.circuit_model.specs.Wiring.{leads_to}
use Rattle.edit_damage.proofs.Around.{device_ends}
use Rattle.edit_damage.proofs.Marking.{marked_three}
use Rattle.edit_damage.proofs.marks.Marks.mark_device.Goals as goal

pub returns : goal.returns
returns c =
    marked_three (λ i. leads_to i c.ends-ends.result.first) (λ i. leads_to i c.ends-ends.result.gate) (λ i. leads_to i c.ends-ends.result.second)
    (λ i. is_end (get_or c.args.circuit.now.names i []) (device_of c.args.circuit.now.deck c.args.device))
    c.args.self.now c.mark.new.self c.mark-2.new.self c.mark-3.new.self c.mark.ensures c.mark-2.ensures c.mark-3.ensures
    (λ i below. device_ends c.args.circuit.now.deck c.args.circuit.now.names c.args.device i c.ends-ends.result c.node_count.ensures.names (omega (arith, below, c.requires.size)) c.requires.device c.ends-ends.ensures)
