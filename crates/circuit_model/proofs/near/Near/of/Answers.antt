-- One device more is noted at its ends.
use Rattle.std.proofs.Common.{◌≡◌, ◌∙◌, List, map, ap, sym, get_or}
use Rattle.std.proofs.lemmas.List.{get_or-map}
use Rattle.circuit_model.specs.declared.ends.Ends.{Ends}
use Rattle.circuit_model.specs.declared.kept_device.KeptDevice.{KeptDevice}
use Rattle.circuit_model.specs.Near.{no_ends}
use Rattle.circuit_model.proofs.NearLists.{noted_next, noted_start}
use Rattle.circuit_model.proofs.near.Near.of.Goals as goal

pub loop-k-init : goal.loop-k-init
loop-k-init c = noted_start (map (λ d. d.ends) c.args.devices.now) c.args.count c.in_ok-near.near c.in_ok-near.ensures

pub loop-k-preserved : goal.loop-k-preserved
loop-k-preserved c =
    let devices : List KeptDevice = c.args.devices.now in
    let all : List Ends = map (λ d. d.ends) devices in
    let device : KeptDevice = c.index-devices-k.result in
    let is : c.ends.result ≡ get_or all c.loop-k.k no_ends =
    c.ends.ensures ∙ ap (λ (d : KeptDevice). d.ends) c.index-devices-k.is ∙ sym (get_or-map (λ (d : KeptDevice). d.ends) devices c.loop-k.k device no_ends c.loop-k-test.true) in
    noted_next all c.loop-k.k c.args.count c.ends.result c.loop-k.near _ c.loop-k.invariant is c.in_ok-note_ends.ensures
