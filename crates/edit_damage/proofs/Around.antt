-- The ends of a device by number, and the nodes that share a device with one.
use Rattle.std.proofs.Common.{◌≡◌, ◌∙◌, ℕ, ◌<◌, false, not, ◌&&◌, List, [], length, get_or, Some, None, sym, ap}
use Rattle.std.specs.List.{list_any, range_with_len, filter}
use Rattle.std.specs.Str.{bytes_eq}
use Rattle.std.proofs.lemmas.Bool.{false≢true, and_parts, false_from_ne_true, not-true}
use Rattle.std.proofs.lemmas.List.Folds.{list_any_at}
use Rattle.std.proofs.lemmas.List.Quantifiers.{position-Some}
use Rattle.semantics.specs.Ground.{is_ground}
use Rattle.semantics.specs.Deck.{DeckValue}
use Rattle.semantics.specs.Neighbours.{is_device, is_end, share}
use Rattle.semantics.proofs.Nodes.{bytes_eq-same, same-bytes_eq}
use Rattle.circuit_model.specs.declared.ends.Ends.{Ends}
use Rattle.circuit_model.specs.Ends.{ends_in, number}
use Rattle.circuit_model.specs.Names.{AreNames, HasNodes}
use Rattle.circuit_model.specs.Near.{ends_at}
use Rattle.circuit_model.specs.Numbers.{devices, device_of, near_of, no_element}
use Rattle.circuit_model.proofs.Leads.{position_none}
use Rattle.circuit_model.proofs.Named.{nodes_from}
use Rattle.circuit_model.proofs.NearLists.{kept_passes, touches}
use Rattle.edit_damage.specs.ByEdit.{is_beside}
use Rattle.edit_damage.proofs.Nearness.{numbered}
use Rattle.edit_damage.proofs.Ranges.{any_by_place, any_kept}

-- a device has a node at an end by number where it has it by name
pub device_ends : (d : DeckValue) (names : List (List ℕ)) (k i : ℕ) (ends : Ends) → AreNames names → i < length names → k < length (devices d) → ends ≡ ends_in names (device_of d k)
    → ends_at i ends ≡ is_end (get_or names i []) (device_of d k)
unfolding devices
device_ends d names k i ends are below inside is =
    ap (ends_at i) is ∙ touches names i (get_or (filter is_device d.elements) k no_element) (nodes_from names are) below (kept_passes d.elements k inside)

-- the nodes at the ends of the devices of a node are those that share a device with it
pub near_share : (d : DeckValue) (n m : List ℕ) → list_any (λ k. is_end m (device_of d k)) (near_of d n) ≡ share d n m
unfolding near_of devices share
near_share d n m =
    any_kept (λ k. is_end n (get_or (filter is_device d.elements) k no_element)) (λ k. is_end m (get_or (filter is_device d.elements) k no_element)) (range_with_len 0 (length (filter is_device d.elements)))
    ∙ any_by_place (λ e. is_end n e && is_end m e) (filter is_device d.elements) no_element
    ∙ any_kept is_device (λ e. is_end n e && is_end m e) d.elements

-- the neighbours of the node of a name, by its number
pub beside_some : (d : DeckValue) (names : List (List ℕ)) (name n : List ℕ) (node : ℕ) → AreNames names → number names name ≡ Some node → share d (get_or names node []) n ≡ is_beside d name n
beside_some d names name n node are found =
    let at = position-Some (bytes_eq name) names node [] found in
    let same : name ≡ get_or names node [] = same-bytes_eq name (get_or names node []) at.1 in
    let real : is_ground name ≡ false = ap is_ground same ∙ are.real node at.0 in
    ap (λ m. share d m n) (sym same) ∙ ap (λ b. not b && share d name n) (sym real)

-- a name that has no number has none
pub beside_none : (d : DeckValue) (names : List (List ℕ)) (name n : List ℕ) → AreNames names → HasNodes d names → number names name ≡ None → is_beside d name n ≡ false
beside_none d names name n are has none = false_from_ne_true (is_beside d name n) (λ h.
    let both = and_parts (not (is_ground name)) (share d name n) h in
    let at = numbered d d names are has name n (not-true (is_ground name) both.0) both.1 in
    false≢true (sym (position_none (bytes_eq name) names none) ∙ list_any_at (bytes_eq name) names at.0 [] at.1.0 (bytes_eq-same name (get_or names at.0 []) at.1.1)))
