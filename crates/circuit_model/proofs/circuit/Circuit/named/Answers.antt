-- The devices are wired, and each list is that of the deck and the names.
use Rattle.std.proofs.Common.{◌≡◌, ℕ, List, length, map, Some, ap, ◌∙◌, refl}
use Rattle.semantics.specs.Deck.{DeckValue}
use Rattle.semantics.proofs.Limits.{Limits, limits}
use Rattle.circuit_model.specs.Wiring.{devices_of}
use Rattle.circuit_model.specs.Kept.{device_in}
use Rattle.circuit_model.proofs.Kepts.{kept_ends, kept_inside, kept_total}
use Rattle.circuit_model.proofs.Named.{nodes_from}
use Rattle.circuit_model.proofs.NearLists.{near_whole}
use Rattle.circuit_model.proofs.Networks.{grain_fits}
use Rattle.circuit_model.proofs.Numbered.{device_total, ends_are}
use Rattle.circuit_model.proofs.Totals.{devices_few, devices_wired}
use Rattle.circuit_model.proofs.circuit.Circuit.named.Goals as goal

pub of-requires-clause-inside : goal.of-requires-clause-inside
of-requires-clause-inside c =
    let d : DeckValue = c.args.deck in
    let names : List (List ℕ) = c.args.names in
    let same : map (device_in d) c.deref.result.now ≡ map Some (devices_of d names) = ap (map (device_in d)) c.deref.ensures.value ∙ c.in_ok-devices.ensures in
    rw c.len.ensures.count (kept_inside d (length names) c.deref.result.now (devices_of d names) same (devices_wired d names (limits d c.grain.ensures.valid)))

pub of-requires-clause-few : goal.of-requires-clause-few
of-requires-clause-few c =
    let d : DeckValue = c.args.deck in
    let names : List (List ℕ) = c.args.names in
    let same : map (device_in d) c.deref.result.now ≡ map Some (devices_of d names) = ap (map (device_in d)) c.deref.ensures.value ∙ c.in_ok-devices.ensures in
    rw (kept_total d c.deref.result.now (devices_of d names) same) (devices_few d names (limits d c.grain.ensures.valid))

pub uniform-grid-requires-clause-grain : goal.uniform-grid-requires-clause-grain
uniform-grid-requires-clause-grain c = grain_fits c.args.deck c.grain.result c.grain.ensures.value (limits c.args.deck c.grain.ensures.valid)

pub invariant_of-result : goal.invariant_of-result
invariant_of-result c =
    let d : DeckValue = c.args.deck in
    let names : List (List ℕ) = c.args.names in
    let l : Limits d = limits d c.grain.ensures.valid in
    let same : map (device_in d) c.deref.result.now ≡ map Some (devices_of d names) = ap (map (device_in d)) c.deref.ensures.value ∙ c.in_ok-devices.ensures in
    let total : length c.deref.result.now ≡ length (devices_of d names) = kept_total d c.deref.result.now (devices_of d names) same in
    record {
      valid = c.grain.ensures.valid;
      named = c.len.ensures.names;
      has = c.requires;
      grid_is = c.uniform-grid.ensures ∙ rw c.grain.ensures.value refl;
      devices_are = c.in_ok-devices.ensures;
      places_are = c.in_ok-places.ensures;
      near_are = near_whole d names (map (λ x. x.ends) c.deref.result.now) c.in_ok-near.near (length c.deref.result.now) (nodes_from names c.len.ensures.names)
          (kept_ends d c.deref.result.now (devices_of d names) same ∙ ends_are d names l) (total ∙ device_total d names l) (rw c.len.ensures.count at c.in_ok-near.ensures);
    }
