-- The devices of the node are all that it shares with others.
use Rattle.std.proofs.Common.{◌≡◌, ◌∙◌, get_or, take, [], ap, arith, sym}
use Rattle.std.specs.List.{list_any}
use Rattle.std.proofs.lemmas.List.{take_all}
use Rattle.std.proofs.lemmas.List.Folds.{list_any_more}
use Rattle.semantics.specs.Neighbours.{is_end, share}
use Rattle.circuit_model.specs.Numbers.{device_of}
use Rattle.edit_damage.proofs.Around.{near_share}
use Rattle.edit_damage.proofs.Finding.{found_as, found_both}
use Rattle.edit_damage.proofs.found.Found.add_neighbours.Goals as goal

pub loop-device-preserved : goal.loop-device-preserved
loop-device-preserved c = found_both c.args.circuit.now _ _ _ c.args.self.now c.loop-device.self c.add_device.new.self c.loop-device.invariant (c.in_ok-add_device.ensures {u = tt})
    (λ i below. sym (list_any_more (λ k. is_end (get_or c.args.circuit.now.names i []) (device_of c.args.circuit.now.deck k)) c.near-device-items.result.now c.loop-device.device-index 0 (omega (arith, c.loop-device-test.true))))

pub returns : goal.returns
returns c =
    let whole : take c.loop-device.device-index c.near-device-items.result.now ≡ c.near-device-items.result.now = take_all c.loop-device.device-index c.near-device-items.result.now (omega (arith, c.loop-device-test.false)) in
    found_as c.args.circuit.now (λ i. list_any (λ k. is_end (get_or c.args.circuit.now.names i []) (device_of c.args.circuit.now.deck k)) (take c.loop-device.device-index c.near-device-items.result.now))
    (λ i. share c.args.circuit.now.deck (get_or c.args.circuit.now.names c.args.node []) (get_or c.args.circuit.now.names i [])) c.args.self.now c.loop-device.self c.loop-device.invariant
    (λ i below. ap (list_any (λ k. is_end (get_or c.args.circuit.now.names i []) (device_of c.args.circuit.now.deck k))) (whole ∙ c.near-device-items.ensures.devices)
    ∙ near_share c.args.circuit.now.deck (get_or c.args.circuit.now.names c.args.node []) (get_or c.args.circuit.now.names i []))
