-- The devices are those that were kept.
use Rattle.std.proofs.Common.{◌∙◌, refl}
use Rattle.semantics.specs.Deck.{DeckValue, nodes}
use Rattle.semantics.proofs.Limits.{limits}
use Rattle.circuit_model.specs.Wiring.{devices_of}
use Rattle.circuit_model.proofs.Kepts.{are_kept, somes}
use Rattle.circuit_model.proofs.Networks.{grain_fits}
use Rattle.circuit_model.proofs.network.Network.of.Goals as goal

pub uniform-grid-requires-clause-grain : goal.uniform-grid-requires-clause-grain
uniform-grid-requires-clause-grain c = grain_fits c.args.deck.now c.grain.result c.grain.ensures.value (limits c.args.deck.now c.grain.ensures.valid)

pub read_devices-requires : goal.read_devices-requires
read_devices-requires c =
    let d : DeckValue = c.args.deck.now in are_kept d c.args.kept.now (devices_of d (nodes d)) c.requires

pub invariant_of-result : goal.invariant_of-result
invariant_of-result c =
    let d : DeckValue = c.args.deck.now in
    record {
      valid = c.grain.ensures.valid;
      grid_is = c.uniform-grid.ensures ∙ rw c.grain.ensures.value refl;
      devices_are = somes c.in_ok-devices.devices.items (devices_of d (nodes d)) (c.in_ok-devices.ensures ∙ c.requires);
    }
