-- First end, gate and second end.
use Rattle.std.proofs.Common.{get_or, []}
use Rattle.std.proofs.lemmas.Result.{on_ok_weaker}
use Rattle.semantics.specs.Neighbours.{is_end}
use Rattle.circuit_model.specs.Numbers.{device_of}
use Rattle.circuit_model.specs.Wiring.{leads_to}
use Rattle.edit_damage.proofs.Around.{device_ends}
use Rattle.edit_damage.proofs.Finding.{found_three}
use Rattle.edit_damage.proofs.found.Found.add_device.Goals as goal

pub returns : goal.returns
returns c = on_ok_weaker c.add-3.result
    (λ last. found_three c.args.circuit.now (λ i. leads_to i c.ends-ends.result.first) (λ i. leads_to i c.ends-ends.result.gate) (λ i. leads_to i c.ends-ends.result.second)
    (λ i. is_end (get_or c.args.circuit.now.names i []) (device_of c.args.circuit.now.deck c.args.device))
    c.args.self.now c.add.new.self c.add-2.new.self c.add-3.new.self (c.in_ok-add.ensures {u = tt}) (c.in_ok-add-2.ensures {u = tt}) last
    (λ i below. device_ends c.args.circuit.now.deck c.args.circuit.now.names c.args.device i c.ends-ends.result c.node_count.ensures.names below c.requires c.ends-ends.ensures))
    c.add-3.ensures
