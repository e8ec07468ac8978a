-- The changes in order, told as events, are the events of the record.
use Rattle.std.proofs.Common.{◌≡◌, ℕ, zero, suc, ◌+◌, ◌-◌, ◌<◌, Bool, true, false, cond, List, [], ◌∷◌, ◌++◌, length, get_or, map, Some, refl, sym, ap, ◌∙◌, arith}
use Rattle.std.specs.Prelude.{if◌then◌else◌, unwrap_or}
use Rattle.std.specs.List.{enumerate_from, filter, flat_map, range_with_len}
use Rattle.std.proofs.lemmas.List.{map-append}
use Rattle.semantics.specs.declared.element.Element.{Element}
use Rattle.semantics.specs.declared.element.Element.TheVariants.{Resistor, Capacitor, Source, Mos}
use Rattle.semantics.specs.declared.event.Event.{Event}
use Rattle.semantics.specs.Deck.{DeckValue}
use Rattle.semantics.specs.Device.{cells}
use Rattle.semantics.specs.Event.{event_of, same_cells}
use Rattle.semantics.specs.Neighbours.{is_device}
use Rattle.semantics.specs.Record.{Record}
use Rattle.semantics.specs.RecordWave.{record_cells, record_events, record_events_at, record_events_to}
use Rattle.circuit_model.specs.Numbers.{CircuitValue, device_of, devices, no_element, place_of, placed_devices}
use Rattle.circuit_model.proofs.DevicePlaces.{placed_element, placed_total}
use Rattle.histories.specs.Record.{RecordValue, pair_at}
use Rattle.fault_sweep.specs.CellStays.{cells_at}
use Rattle.fault_sweep.specs.Records.{IsBasis}
use Rattle.circuit_model.specs.Records.{record_of}
use Rattle.fault_sweep.proofs.CellStays.{cells_there}
use Rattle.record_events.specs.Changes.{cells_by, change_after, event_by}
use Rattle.record_events.proofs.Pairs.{at_tick, in_order}

-- ---- lists

map_flat : {X Y Z : Type 0} (f : Y → Z) (g : X → List Y) (xs : List X) → map f (flat_map g xs) ≡ flat_map (λ x. map f (g x)) xs
map_flat f g [] = refl
map_flat f g (x ∷ xs) = map-append f (g x) (flat_map g xs) ∙ ap (λ zs. map f (g x) ++ zs) (map_flat f g xs)

-- a list by the places of its items
by_places : {X Y : Type 0} (f : ℕ → List Y) (g : X → List Y) (xs : List X) (d : X) (a : ℕ) → ((k : ℕ) → k < length xs → f (a + k) ≡ g (get_or xs k d)) → flat_map f (range_with_len a (length xs)) ≡ flat_map g xs
by_places f g [] d a same = refl
by_places {X} {Y} f g (x ∷ xs) d a same =
    let whole : a ≡ a + 0 = omega arith in
    let here : f a ≡ g x = ap f whole ∙ same 0 (omega arith) in
    let rest : flat_map f (range_with_len (a + 1) (length xs)) ≡ flat_map g xs =
    by_places f g xs d (a + 1) (λ k below. let next : a + 1 + k ≡ a + suc k = omega arith in ap f next ∙ same (suc k) (omega (arith, below))) in
    λ i. here i ++ rest i

-- items that give nothing can be left out
only : {X Y : Type 0} (p : X → Bool) (g : X → List Y) (xs : List X) → ((x : X) → p x ≡ false → g x ≡ []) → flat_map g (filter p xs) ≡ flat_map g xs
only p g [] none = refl
only {X} {Y} p g (x ∷ xs) none = by (p x) refl (only p g xs none)
  where
    by : (b : Bool) → p x ≡ b → flat_map g (filter p xs) ≡ flat_map g xs → flat_map g (cond b (x ∷ filter p xs) (filter p xs)) ≡ g x ++ flat_map g xs
    by true is same = ap (λ zs. g x ++ zs) same
    by false is same = same ∙ ap (λ ys. ys ++ flat_map g xs) (sym (none x is))

-- ---- at one tick

-- the events of the element at this place
abbrev told : DeckValue → Record → ℕ → ℕ × Element → List Event
told d w t at = event_of (suc t) at.0 (record_cells d w t at.1) (record_cells d w (suc t) at.1)

no_device : (d : DeckValue) (w : Record) (t : ℕ) (at : ℕ × Element) → is_device at.1 ≡ false → told d w t at ≡ []
unfolding cells
no_device d w t at out = by at.1 out
  where
    by : (e : Element) → is_device e ≡ false → event_of (suc t) at.0 (record_cells d w t e) (record_cells d w (suc t) e) ≡ []
    by (Resistor name first second ohms) out = absurd (cc)
    by (Mos name drain gate source bulk part len width) out = absurd (cc)
    by (Capacitor name plus minus farads) out = refl
    by (Source name plus minus wave) out = refl

module _ (c : CircuitValue) (h : RecordValue) (basis : IsBasis c h) where
  some_cells : (device t : ℕ) → device < length (devices c.deck) → cells_at c h device t ≡ Some (cells_by c h device t)
  some_cells device t below = let is = cells_there c h device t basis below in is ∙ ap Some (sym (ap (λ o. unwrap_or o (0, 0)) is))

  -- the change of a device as its event
  as_event : (device t : ℕ) (b : Bool) → map (event_by c h) (if b then [] else (suc t, device) ∷ [])
      ≡ (if b then [] else record { tick = suc t; place = place_of c.deck device; old = cells_by c h device t; new = cells_by c h device (suc t) } ∷ [])
  as_event device t true = refl
  as_event device t false =
      let before : suc t - 1 ≡ t = omega arith in
      λ i. record { tick = suc t; place = place_of c.deck device; old = cells_by c h device (before i); new = cells_by c h device (suc t) } ∷ []

  inside : (k : ℕ) → k < length (placed_devices c.deck) → k < length (devices c.deck)
  inside k below = omega (arith, below, placed_total c.deck)

  told_of : (device t : ℕ) → device < length (devices c.deck) → map (event_by c h) (change_after c h device t) ≡ told c.deck (record_of c (pair_at h)) t (get_or (placed_devices c.deck) device (0, no_element))
  told_of device t below =
      let e : (get_or (placed_devices c.deck) device (0, no_element)).1 ≡ device_of c.deck device = placed_element c.deck device below in
      as_event device t (same_cells (cells_by c h device t) (cells_by c h device (suc t)))
      ∙ (λ i. event_of (suc t) (place_of c.deck device) (sym (some_cells device t below) i) (sym (some_cells device (suc t) below) i))
      ∙ (λ i. event_of (suc t) (place_of c.deck device) (record_cells c.deck (record_of c (pair_at h)) t (sym e i)) (record_cells c.deck (record_of c (pair_at h)) (suc t) (sym e i)))

  at_is : (t : ℕ) → map (event_by c h) (at_tick c h t 0 (length (devices c.deck))) ≡ record_events_at c.deck (record_of c (pair_at h)) t
  unfolding record_events_at placed_devices
  at_is t =
      map_flat (event_by c h) (λ k. change_after c h k t) (range_with_len 0 (length (devices c.deck)))
      ∙ ap (λ n. flat_map (λ k. map (event_by c h) (change_after c h k t)) (range_with_len 0 n)) (sym (placed_total c.deck))
      ∙ by_places (λ k. map (event_by c h) (change_after c h k t)) (told c.deck (record_of c (pair_at h)) t) (placed_devices c.deck) (0, no_element) 0
      (λ k below. let plus : 0 + k ≡ k = omega arith in ap (λ j. map (event_by c h) (change_after c h j t)) plus ∙ told_of k t (inside k below))
      ∙ only (λ at. is_device at.1) (told c.deck (record_of c (pair_at h)) t) (enumerate_from 0 c.deck.elements) (no_device c.deck (record_of c (pair_at h)) t)

  to_is : (t : ℕ) → map (event_by c h) (in_order c h t) ≡ record_events_to c.deck (record_of c (pair_at h)) t
  unfolding record_events_to
  to_is zero = refl
  to_is (suc t) =
      map-append (event_by c h) (in_order c h t) (at_tick c h t 0 (length (devices c.deck)))
      ∙ (λ i. to_is t i ++ at_is t i)

  -- all of them
  pub told_are : map (event_by c h) (in_order c h c.deck.stop) ≡ record_events c.deck (record_of c (pair_at h))
  unfolding record_events
  told_are = to_is c.deck.stop
