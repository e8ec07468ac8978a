-- The devices of a deck with their places among the elements.
use Rattle.std.proofs.Common.{◌≡◌, ℕ, ◌+◌, ◌<◌, Bool, true, false, cond, List, [], ◌∷◌, ◌++◌, length, get_or, map, Option, Some, None, refl, sym, ap, ◌∙◌, arith}
use Rattle.std.specs.Prelude.{option_to_list, is_some}
use Rattle.std.specs.Option.{option_map}
use Rattle.std.specs.List.{enumerate_from, filter, list_all}
use Rattle.std.proofs.lemmas.Bool.{and_parts}
use Rattle.std.proofs.lemmas.List.{get_or-map, length-map}
use Rattle.semantics.specs.declared.element.Element.{Element}
use Rattle.semantics.specs.Deck.{DeckValue}
use Rattle.semantics.specs.Neighbours.{is_device}
use Rattle.semantics.specs.Valid.{has_part}
use Rattle.semantics.proofs.Limits.{Limits}
use Rattle.circuit_model.specs.Numbers.{device_of, devices, no_element, place_of, placed_devices}
use Rattle.circuit_model.specs.Wiring.{DeviceLaw, DeviceValue, device_by, devices_from, devices_of, law_at}
use Rattle.circuit_model.proofs.Numbered.{device_total, law_there}

-- those among elements of which the first has this place
abbrev placed : ℕ → List Element → List (ℕ × Element)
placed place es = filter (λ at. is_device at.1) (enumerate_from place es)

-- the places of the devices by numbers are those of the elements that are devices
places_from : (d : DeckValue) (names : List (List ℕ)) (place : ℕ) (es : List Element) → list_all (has_part d) es ≡ true
    → map (λ x. x.place) (devices_from d names place es) ≡ map (λ at. at.0) (placed place es)
places_from d names place [] all = refl
places_from d names place (e ∷ es) all =
    let parts = and_parts (has_part d e) (list_all (has_part d) es) all in
    by (law_at d e) refl (law_there d e parts.0) (places_from d names (place + 1) es parts.1)
  where
    rest : List DeviceValue
    rest = devices_from d names (place + 1) es

    by : (o : Option DeviceLaw) → law_at d e ≡ o → is_some (law_at d e) ≡ is_device e → map (λ x. x.place) rest ≡ map (λ at. at.0) (placed (place + 1) es)
        → map (λ x. x.place) (option_to_list (option_map (device_by names place e) o) ++ rest) ≡ map (λ at. at.0) (cond (is_device e) ((place, e) ∷ placed (place + 1) es) (placed (place + 1) es))
    by None is there same = let out : is_device e ≡ false = sym there ∙ ap is_some is in rw out same
    by (Some law) is there same = let kept : is_device e ≡ true = sym there ∙ ap is_some is in rw kept (ap (λ ps. place ∷ ps) same)

places_are : (d : DeckValue) (names : List (List ℕ)) → Limits d → map (λ x. x.place) (devices_of d names) ≡ map (λ at. at.0) (placed_devices d)
unfolding devices_of placed_devices
places_are d names l = places_from d names 0 d.elements l.has_part

-- without their places they are the devices
elements_from : (place : ℕ) (es : List Element) → map (λ at. at.1) (placed place es) ≡ filter is_device es
elements_from place [] = refl
elements_from place (e ∷ es) = by (is_device e) (elements_from (place + 1) es)
  where
    by : (b : Bool) → map (λ at. at.1) (placed (place + 1) es) ≡ filter is_device es
        → map (λ at. at.1) (cond b ((place, e) ∷ placed (place + 1) es) (placed (place + 1) es)) ≡ cond b (e ∷ filter is_device es) (filter is_device es)
    by true same = ap (λ xs. e ∷ xs) same
    by false same = same

pub elements_are : (d : DeckValue) → map (λ at. at.1) (placed_devices d) ≡ devices d
unfolding placed_devices devices
elements_are d = elements_from 0 d.elements

pub placed_total : (d : DeckValue) → length (placed_devices d) ≡ length (devices d)
placed_total d = sym (length-map (placed_devices d) (λ at. at.1)) ∙ ap (λ (es : List Element). length es) (elements_are d)

-- the device of a number is the element of that number
pub placed_element : (d : DeckValue) (k : ℕ) → k < length (devices d) → (get_or (placed_devices d) k (0, no_element)).1 ≡ device_of d k
placed_element d k below =
    let inside : k < length (placed_devices d) = omega (arith, placed_total d, below) in
    sym (get_or-map (λ at. at.1) (placed_devices d) k (0, no_element) no_element inside) ∙ ap (λ es. get_or es k no_element) (elements_are d)

-- the device of a number has its place
pub device_placed : (d : DeckValue) (names : List (List ℕ)) (items : List DeviceValue) (k : ℕ) (device : DeviceValue) → Limits d → items ≡ devices_of d names → k < length (devices d) → device ≡ get_or items k device
    → device.place ≡ place_of d k
device_placed d names items k device l are below is =
    let all : List DeviceValue = devices_of d names in
    let inside : k < length all = omega (arith, device_total d names l, below) in
    let within : k < length (placed_devices d) = omega (arith, placed_total d, below) in
    let here : get_or all k device ≡ device = sym (is ∙ ap (λ xs. get_or xs k device) are) in
    ap (λ (x : DeviceValue). x.place) (sym here) ∙ sym (get_or-map (λ x. x.place) all k device 0 inside)
    ∙ ap (λ ps. get_or ps k 0) (places_are d names l) ∙ get_or-map (λ at. at.0) (placed_devices d) k (0, no_element) 0 within
