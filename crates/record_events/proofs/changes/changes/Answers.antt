-- One device more.
use Rattle.std.proofs.Common.{◌∙◌, ◌∷◌, [], ◌++◌, sym, ap}
use Rattle.std.specs.List.{flat_map}
use Rattle.std.proofs.lemmas.List.{append-nil}
use Rattle.std.proofs.lemmas.List.Concat.{flat_map-append}
use Rattle.record_events.proofs.Pairs.{next_device}
use Rattle.record_events.proofs.changes.changes.Goals as goal

pub loop-device-preserved : goal.loop-device-preserved
loop-device-preserved c =
    let lists = c.loop-device.lists.items in
    let list = c.in_ok-device_changes.field-0 in
    ap (flat_map (λ changes. changes.items)) (c.in_ok-push.ensures {u = tt}).items ∙ flat_map-append (λ changes. changes.items) lists (list ∷ [])
    ∙ (λ i. c.loop-device.invariant i ++ (append-nil list.items ∙ c.in_ok-device_changes.ensures) i)
    ∙ sym (next_device c.args.circuit.now c.args.past.now c.loop-device.device)
