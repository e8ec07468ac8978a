-- Each element adds its device, where it is one.
use Rattle.std.proofs.Common.{◌≡◌, ℕ, ◌+◌, ◌<◌, ◌≤◌, List, ◌++◌, length, get_or, drop, map, Option, Some, None, sym, ap, refl, ◌∙◌, arith, rules}
use Rattle.std.specs.Prelude.{slice_get, option_to_list}
use Rattle.std.specs.Option.{option_map}
use Rattle.std.proofs.lemmas.List.{append_assoc, append-nil, drop_all, drop_more, get_or_default, map-append}
use Rattle.std.proofs.lemmas.Option.{slice_get-get_or}
use Rattle.semantics.specs.declared.element.Element.{Element}
use Rattle.semantics.specs.Deck.{DeckValue}
use Rattle.circuit_model.specs.declared.kept_device.KeptDevice.{KeptDevice}
use Rattle.circuit_model.specs.Kept.{device_in}
use Rattle.circuit_model.specs.Numbers.{no_element}
use Rattle.circuit_model.specs.Wiring.{DeviceValue, device_at, devices_from, devices_of}
use Rattle.circuit_model.proofs.kept_device.kept_devices.Goals as goal
use Rattle.circuit_model.proofs.kept_device.kept_devices.Goals.{in-Some+in_ok-push, in_default}

in_list : {A B : Type 0} (f : A → B) (o : Option A) → map f (option_to_list o) ≡ option_to_list (option_map f o)
in_list f None = refl
in_list f (Some x) = refl

-- one element more
step : (d : DeckValue) (names : List (List ℕ)) (place : ℕ) (e : Element) (old new : List KeptDevice) (o : Option KeptDevice) (total : List (Option DeviceValue)) → place < length d.elements → e ≡ get_or d.elements place e
    → option_map (device_in d) o ≡ option_map Some (device_at d names place e) → new ≡ old ++ option_to_list o
    → map (device_in d) old ++ map Some (devices_from d names place (drop place d.elements)) ≡ total → map (device_in d) new ++ map Some (devices_from d names (place + 1) (drop (place + 1) d.elements)) ≡ total
step d names place e old new o total below at made grown so =
    let rest : List DeviceValue = devices_from d names (place + 1) (drop (place + 1) d.elements) in
    let here : List DeviceValue = option_to_list (device_at d names place e) in
    let one : map (device_in d) (option_to_list o) ≡ map Some here =
    in_list (device_in d) o ∙ ap (λ (x : Option (Option DeviceValue)). option_to_list x) made ∙ sym (in_list Some (device_at d names place e)) in
    let from : devices_from d names place (drop place d.elements) ≡ here ++ rest = rw (drop_more d.elements place e below, ← at) refl in
    let split : map Some (devices_from d names place (drop place d.elements)) ≡ map Some here ++ map Some rest = ap (map Some) from ∙ map-append Some here rest in
    let grows : map (device_in d) new ≡ map (device_in d) old ++ map Some here = ap (map (device_in d)) grown ∙ map-append (device_in d) old (option_to_list o) ∙ ap (λ xs. map (device_in d) old ++ xs) one in
    ap (λ xs. xs ++ map Some rest) grows ∙ append_assoc (map (device_in d) old) (map Some here) (map Some rest) ∙ ap (λ xs. map (device_in d) old ++ xs) (sym split) ∙ so

pub loop-place-preserved : goal.loop-place-preserved
loop-place-preserved c =
    let d : DeckValue = c.args.deck.now in
    let names : List (List ℕ) = c.args.names.now in
    let place : ℕ = c.loop-place.place in
    let below : place < length d.elements = omega (arith, c.len-place-end.ensures) in
    let e : Element = get_or d.elements place no_element in
    let at : slice_get d.elements place ≡ Some e = slice_get-get_or d.elements place no_element below in
    let same : e ≡ get_or d.elements place e = get_or_default d.elements place no_element e below in
    let made : option_map (device_in d) c.at.result ≡ option_map Some (device_at d names place e) = rw at at c.at.ensures in
    step d names place e c.loop-place.kept.items c.match-at.kept.items c.at.result (map Some (devices_from d names 0 d.elements)) below same made
    (elim c.match-at.branch [
      | in-Some+in_ok-push w ↦ rw (w.kept-is, w.in-Some.is) w.in_ok-push.ensures.items
      | in_default w ↦ rw w.kept-is (search (rules, append-nil))
    ]) c.loop-place.invariant

whole : (d : DeckValue) (names : List (List ℕ)) (place : ℕ) (kept : List KeptDevice) → length d.elements ≤ place
    → map (device_in d) kept ++ map Some (devices_from d names place (drop place d.elements)) ≡ map Some (devices_from d names 0 d.elements) → map (device_in d) kept ≡ map Some (devices_of d names)
unfolding devices_of
whole d names place kept past h = sym (append-nil (map (device_in d) kept)) ∙ rw (drop_all place d.elements past) at h

pub returns : goal.returns
returns c =
    let d : DeckValue = c.args.deck.now in
    whole d c.args.names.now c.loop-place.place c.loop-place.kept.items (omega (arith, c.len-place-end.ensures)) c.loop-place.invariant
