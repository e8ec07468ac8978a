-- The devices of a valid deck by numbers: each is that of the element of its number.
use Rattle.std.proofs.Common.{◌≡◌, ℕ, ◌+◌, ◌<◌, true, false, cond, List, [], ◌∷◌, ◌++◌, length, get_or, map, Option, Some, None, refl, sym, ap, ◌∙◌, arith}
use Rattle.std.specs.Prelude.{option_to_list, is_some}
use Rattle.std.specs.Option.{option_map}
use Rattle.std.specs.List.{filter, list_all}
use Rattle.std.proofs.lemmas.Bool.{and_parts, false≢true}
use Rattle.std.proofs.lemmas.List.{get_or-map, length-map}
use Rattle.semantics.specs.declared.element.Element.{Element}
use Rattle.semantics.specs.declared.element.Element.TheVariants.{Resistor, Capacitor, Source, Mos}
use Rattle.semantics.specs.Deck.{DeckValue, look_up}
use Rattle.semantics.specs.Neighbours.{is_device}
use Rattle.semantics.specs.Part.{Part}
use Rattle.semantics.specs.Valid.{has_part}
use Rattle.semantics.proofs.Limits.{Limits}
use Rattle.circuit_model.specs.declared.ends.Ends.{Ends}
use Rattle.circuit_model.specs.Circuit.{IsNumbered}
use Rattle.circuit_model.specs.Ends.{ends_in}
use Rattle.circuit_model.specs.Near.{no_ends}
use Rattle.circuit_model.specs.Numbers.{devices, no_element}
use Rattle.device_tables.specs.Level.{part_table}
use Rattle.circuit_model.specs.Wiring.{DeviceLaw, DeviceValue, Gated, device_by, devices_from, devices_of, law_at}

-- an element whose part is there has a law where it is a device
pub law_there : (d : DeckValue) (e : Element) → has_part d e ≡ true → is_some (law_at d e) ≡ is_device e
law_there d (Resistor name first second ohms) there = refl
law_there d (Mos name drain gate source bulk part len width) there = by (look_up part d.parts) there
  where
    by : (o : Option Part) → is_some o ≡ true → is_some (option_map (λ p. Gated (part_table d.grain p width len)) o) ≡ true
    by None h = absurd (false≢true h)
    by (Some p) h = refl
law_there d (Capacitor name plus minus farads) there = refl
law_there d (Source name plus minus wave) there = refl

-- ends and laws of the devices are those of the elements that are devices
each_from : (d : DeckValue) (names : List (List ℕ)) (place : ℕ) (es : List Element) → list_all (has_part d) es ≡ true
    → (map (λ x. x.ends) (devices_from d names place es) ≡ map (ends_in names) (filter is_device es)) × (map (λ x. Some x.law) (devices_from d names place es) ≡ map (law_at d) (filter is_device es))
each_from d names place [] all = (refl, refl)
each_from d names place (e ∷ es) all =
    let parts = and_parts (has_part d e) (list_all (has_part d) es) all in
    by (law_at d e) refl (law_there d e parts.0) (each_from d names (place + 1) es parts.1)
  where
    rest : List DeviceValue
    rest = devices_from d names (place + 1) es

    by : (o : Option DeviceLaw) → law_at d e ≡ o → is_some (law_at d e) ≡ is_device e
        → (map (λ x. x.ends) rest ≡ map (ends_in names) (filter is_device es)) × (map (λ x. Some x.law) rest ≡ map (law_at d) (filter is_device es))
        → (map (λ x. x.ends) (option_to_list (option_map (device_by names place e) o) ++ rest) ≡ map (ends_in names) (cond (is_device e) (e ∷ filter is_device es) (filter is_device es)))
        × (map (λ x. Some x.law) (option_to_list (option_map (device_by names place e) o) ++ rest) ≡ map (law_at d) (cond (is_device e) (e ∷ filter is_device es) (filter is_device es)))
    by None is there both = let no : is_device e ≡ false = sym there ∙ ap is_some is in rw no both
    by (Some law) is there both =
        let yes : is_device e ≡ true = sym there ∙ ap is_some is in
        rw yes (ap (λ xs. ends_in names e ∷ xs) both.0, rw is (ap (λ xs. Some law ∷ xs) both.1))

pub ends_are : (d : DeckValue) (names : List (List ℕ)) → Limits d → map (λ x. x.ends) (devices_of d names) ≡ map (ends_in names) (devices d)
unfolding devices devices_of
ends_are d names l = (each_from d names 0 d.elements l.has_part).0

laws_are : (d : DeckValue) (names : List (List ℕ)) → Limits d → map (λ x. Some x.law) (devices_of d names) ≡ map (law_at d) (devices d)
unfolding devices devices_of
laws_are d names l = (each_from d names 0 d.elements l.has_part).1

pub device_total : (d : DeckValue) (names : List (List ℕ)) → Limits d → length (devices_of d names) ≡ length (devices d)
device_total d names l =
    sym (length-map (devices_of d names) (λ x. x.ends)) ∙ ap (λ (xs : List Ends). length xs) (ends_are d names l) ∙ length-map (devices d) (ends_in names)

-- the device of a number stands for the element of that number
pub numbered : (d : DeckValue) (names : List (List ℕ)) (items : List DeviceValue) (k : ℕ) (device : DeviceValue) → Limits d → items ≡ devices_of d names → k < length (devices d) → device ≡ get_or items k device → IsNumbered d names k device
numbered d names items k device l are below is =
    let all : List DeviceValue = devices_of d names in
    let inside : k < length all = omega (arith, device_total d names l, below) in
    let here : get_or all k device ≡ device = sym (is ∙ ap (λ xs. get_or xs k device) are) in
    record {
      ends_is = ap (λ (x : DeviceValue). x.ends) (sym here) ∙ sym (get_or-map (λ x. x.ends) all k device no_ends inside)
          ∙ ap (λ xs. get_or xs k no_ends) (ends_are d names l) ∙ get_or-map (ends_in names) (devices d) k no_element no_ends below;
      law_is = sym (get_or-map (law_at d) (devices d) k no_element None below) ∙ ap (λ xs. get_or xs k None) (sym (laws_are d names l))
          ∙ get_or-map (λ x. Some x.law) all k device None inside ∙ ap (λ (x : DeviceValue). Some x.law) here;
    }
