-- Each of them is a device of the deck.
use Rattle.std.proofs.Common.{◌≡◌, ℕ, ◌+◌, ◌<◌, List, [], ◌∷◌, ◌++◌, length, get_or, take, map, Some, refl, ap, ◌∙◌}
use Rattle.std.proofs.lemmas.List.{map-append, map_more, take_all}
use Rattle.semantics.specs.Deck.{DeckValue}
use Rattle.circuit_model.specs.declared.kept_device.KeptDevice.{KeptDevice}
use Rattle.circuit_model.specs.Kept.{device_in}
use Rattle.circuit_model.specs.Wiring.{DeviceValue}
use Rattle.circuit_model.proofs.Kepts.{kept_there}
use Rattle.circuit_model.proofs.kept_device.read_devices.Goals as goal

pub read-requires : goal.read-requires
read-requires c = kept_there c.args.deck.now c.args.kept.now c.loop-device.device-index c.device-item.result c.requires c.loop-device-test.true c.device-item.is

-- one device more
step : (d : DeckValue) (ks : List KeptDevice) (old new : List DeviceValue) (i : ℕ) (k : KeptDevice) (v : DeviceValue) → i < length ks → k ≡ get_or ks i k → device_in d k ≡ Some v
    → map Some old ≡ map (device_in d) (take i ks) → new ≡ old ++ v ∷ [] → map Some new ≡ map (device_in d) (take (i + 1) ks)
step d ks old new i k v inside is made done grown =
    ap (map Some) grown ∙ map-append Some old (v ∷ []) ∙ rw (done, map_more (device_in d) ks i k inside, ← is, made) refl

pub loop-device-preserved : goal.loop-device-preserved
loop-device-preserved c =
    step c.args.deck.now c.args.kept.now c.loop-device.devices.items _ c.loop-device.device-index c.device-item.result c.read.result c.loop-device-test.true c.device-item.is c.read.ensures c.loop-device.invariant c.in_ok-push.ensures.items

pub returns : goal.returns
returns c = c.loop-device.invariant ∙ ap (map (device_in c.args.deck.now)) (take_all c.loop-device.device-index c.args.kept.now c.loop-device-test.false)
