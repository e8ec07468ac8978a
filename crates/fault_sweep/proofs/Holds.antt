-- What flows into a node through one device, and through all of them.
use Rattle.std.proofs.Common.{◌≡◌, ℕ, suc, ◌+◌, ◌<◌, ◌≤◌, ◌^◌, Bool, List, [], ◌∷◌, length, get_or, set, take, Option, Some, None, refl, sym, ap, ◌∙◌, ◌≢◌, ⊎_elim, arith, ℤ, pos, ◌+ℤ◌, ◌*ℤ◌, FitsSigned, of_z, to_z}
use mir.Syntax.{w128}
use Rattle.std.specs.Prelude.{int_le, unsigned_abs, IfSome}
use Rattle.std.specs.List.{All, filter, fold, range_with_len}
use Rattle.std.specs.Option.{option_map_or}
use Rattle.std.proofs.lemmas.Bool.{cases_eq}
use Rattle.std.proofs.lemmas.Int.{fits_signed_from_abs, ints, to_z-of_z}
use Rattle.std.proofs.lemmas.List.{get_or-set_other, get_or-set_same, get_or_default, length-set}
use Rattle.std.proofs.lemmas.List.FromFn.{length-range_with_len}
use Rattle.std.proofs.lemmas.List.Sums.{count_by-le-length, fold_more, length-filter}
use Rattle.semantics.specs.declared.element.Element.{Element}
use Rattle.semantics.specs.declared.fraction.Fraction.{Fraction}
use Rattle.semantics.specs.Deck.{DeckValue}
use Rattle.semantics.specs.Device.{current_in}
use Rattle.semantics.specs.Grid.{cell, difference}
use Rattle.semantics.specs.Neighbours.{is_device, is_end}
use Rattle.semantics.proofs.Limits.{limits}
use Rattle.circuit_model.specs.declared.ends.Ends.{Ends}
use Rattle.circuit_model.specs.Ends.{End, ends_in}
use Rattle.circuit_model.specs.Numbers.{CircuitValue, HasCells, axes, device_flow, device_of, devices, drain_cell, drain_grid_of, gate_cell, gate_grid_of, name_at, near_of}
use Rattle.circuit_model.specs.Wiring.{inflow}
use Rattle.histories.specs.Record.{RecordValue}
use Rattle.fault_sweep.specs.declared.hold.Hold.{Hold}
use Rattle.fault_sweep.specs.declared.stay.Stay.{Stay}
use Rattle.fault_sweep.specs.Records.{IsBasis, volts_of_ends}
use Rattle.fault_sweep.specs.Stretches.{AreHolds, AreOn, AreOnTo, IsHold, IsStay, drain_cells, gate_cells, near_at, no_hold, total}

-- ---- cells of a device

cell_most : (thresholds : List ℤ) (v : Fraction) → cell thresholds v ≤ length thresholds
unfolding cell
cell_most thresholds v = count_by-le-length (λ θ. int_le (θ *ℤ pos v.den) v.num) thresholds

has_cells : (d : DeckValue) (e : Element) (ends : Ends) (volt : End → Fraction) → HasCells d e (gate_cell d e ends volt) (drain_cell d e ends volt)
has_cells d e ends volt = record {
  gate_there = by (gate_grid_of d e);
  drain_there = cell_most (drain_grid_of d e) (difference (volt ends.first) (volt ends.second));
}
  where
    by : (o : Option (List ℤ)) → IfSome o (λ grid. option_map_or (λ grid. cell grid (difference (volt ends.gate) (volt ends.second))) o 0 ≤ length grid)
    by None = tt
    by (Some grid) = cell_most grid (difference (volt ends.gate) (volt ends.second))

pub stays_have : (c : CircuitValue) (h : RecordValue) (device now : ℕ) (gate drain : Stay) → IsStay (gate_cells c h device) now gate → IsStay (drain_cells c h device) now drain
    → HasCells c.deck (device_of c.deck device) gate.cell drain.cell
stays_have c h device now gate drain gates drains =
    rw (← gates.cell_is now (omega arith) gates.later, ← drains.cell_is now (omega arith) drains.later) (has_cells c.deck (device_of c.deck device) (ends_in c.names (device_of c.deck device)) (volts_of_ends c h now))

-- where the cells stay, so does what flows
pub device_hold : (c : CircuitValue) (h : RecordValue) (node device now : ℕ) (gate drain : Stay) (amps : ℤ) (hold : Hold) → IsStay (gate_cells c h device) now gate → IsStay (drain_cells c h device) now drain
    → amps ≡ current_in c.deck (device_of c.deck device) (axes (device_of c.deck device) gate.cell drain.cell) → hold.inflow ≡ inflow node (ends_in c.names (device_of c.deck device)) amps
    → unsigned_abs hold.inflow ≤ 10 ^ 12 → hold.until ≤ gate.until → hold.until ≤ drain.until → IsHold c h node device now hold
device_hold c h node device now gate drain amps hold gates drains current flow small by_gate by_drain = record {
  small = small;
  flows = λ t after before.
      let g = gates.cell_is t after (omega arith) in
      let d = drains.cell_is t after (omega arith) in
      (λ i. inflow node (ends_in c.names (device_of c.deck device)) (current_in c.deck (device_of c.deck device) (axes (device_of c.deck device) (g i) (d i))))
      ∙ ap (inflow node (ends_in c.names (device_of c.deck device))) (sym current) ∙ sym flow;
}

-- ---- all devices of a node

pub small_holds : (c : CircuitValue) (h : RecordValue) (node now : ℕ) (holds : List Hold) → AreHolds c h node now holds → All (λ hold. unsigned_abs hold.inflow ≤ 10 ^ 12) holds
small_holds c h node now holds are = λ k e below. rw (get_or_default holds k e no_hold below) (are.each k below).small

-- sums of equal numbers
sums_same : (f : ℕ → ℤ) (ks : List ℕ) (holds : List Hold) (z : ℤ) → length holds ≡ length ks → ((k : ℕ) → k < length holds → f (get_or ks k 0) ≡ (get_or holds k no_hold).inflow)
    → fold (λ sum k. sum +ℤ f k) z ks ≡ fold (λ sum hold. sum +ℤ hold.inflow) z holds
sums_same f [] [] z count same = refl
sums_same f [] (x ∷ holds) z count same = absurd (omega (arith, count))
sums_same f (k ∷ ks) [] z count same = absurd (omega (arith, count))
sums_same f (k ∷ ks) (x ∷ holds) z count same =
    (λ i. fold (λ sum j. sum +ℤ f j) (z +ℤ same 0 (omega arith) i) ks) ∙ sums_same f ks holds (z +ℤ x.inflow) (omega (arith, count)) (λ j below. same (suc j) (omega (arith, below)))

-- as long as all last, what flows into the node is their total
pub total_flow : (c : CircuitValue) (h : RecordValue) (node now until t : ℕ) (holds : List Hold) → AreHolds c h node now holds → AreOnTo until holds → now ≤ t → t < until
    → fold (λ sum k. sum +ℤ device_flow c (volts_of_ends c h t) node k) (pos 0) (near_at c node) ≡ total holds
total_flow c h node now until t holds are on after before =
    sums_same (λ k. device_flow c (volts_of_ends c h t) node k) (near_at c node) holds (pos 0) are.count (λ k below. let lasts = on k below in (are.each k below).flows t after (omega (arith, lasts, before)))

-- ---- sums in 128 bits

pub fits_small : (z : ℤ) → unsigned_abs z ≤ 10 ^ 37 → FitsSigned w128 z
fits_small z small = fits_signed_from_abs w128 z (omega (arith, small))

pub sum_is : (x y : ℤ) → unsigned_abs x ≤ 10 ^ 36 → unsigned_abs y ≤ 10 ^ 36 → to_z w128 (of_z w128 (to_z w128 (of_z w128 x) +ℤ to_z w128 (of_z w128 y))) ≡ x +ℤ y
sum_is x y hx hy =
    rw (to_z-of_z w128 x (fits_small x (omega (arith, hx))), to_z-of_z w128 y (fits_small y (omega (arith, hy)))) (to_z-of_z w128 (x +ℤ y) (fits_small (x +ℤ y) (omega (arith, ints, hx, hy))))

-- one hold more
pub total_more : (holds : List Hold) (k : ℕ) → k < length holds → total (take (k + 1) holds) ≡ total (take k holds) +ℤ (get_or holds k no_hold).inflow
total_more holds k below = fold_more (λ sum hold. sum +ℤ hold.inflow) (pos 0) holds k no_hold below

-- ---- renewing

on_more : (now k : ℕ) (holds : List Hold) → AreOn k now holds → now < (get_or holds k no_hold).until → AreOn (k + 1) now holds
on_more now k holds on lasts j below = ⊎_elim (λ (here : j ≡ k). rw here lasts) (λ (apart : j ≢ k). on j (omega (arith, below, apart))) (cases_eq j k)

pub renewed : (c : CircuitValue) (h : RecordValue) (node now k : ℕ) (holds new : List Hold) (hold : Hold) → AreHolds c h node now holds → AreOn k now holds → k < length holds
    → IsHold c h node (get_or (near_at c node) k 0) now hold → now < hold.until → new ≡ set holds k hold → (AreHolds c h node now new) × (AreOn (k + 1) now new)
renewed c h node now k holds new hold are on inside is lasts value =
    let same : get_or new k no_hold ≡ hold = rw value (get_or-set_same holds k hold no_hold inside) in (
      record {
        count = rw value (length-set holds k hold ∙ are.count);
        each = λ j below. ⊎_elim
            (λ (here : j ≡ k). rw (here, same) is)
            (λ (apart : j ≢ k). rw (value, get_or-set_other holds k j hold no_hold apart) (are.each j (omega (arith, below, ap (λ (xs : List Hold). length xs) value, length-set holds k hold))))
            (cases_eq j k);
      },
      on_more now k new (λ j below. rw (value, get_or-set_other holds k j hold no_hold (omega arith)) (on j below)) (rw same lasts),
    )

pub kept : (c : CircuitValue) (h : RecordValue) (node now k : ℕ) (holds new : List Hold) → AreHolds c h node now holds → AreOn k now holds → now < (get_or holds k no_hold).until → new ≡ holds
    → (AreHolds c h node now new) × (AreOn (k + 1) now new)
kept c h node now k holds new are on lasts value = rw value (are, on_more now k holds on lasts)

-- ---- few devices

filter_few : {X : Type 0} (p : X → Bool) (xs : List X) → length (filter p xs) ≤ length xs
filter_few p xs = omega (arith, length-filter p xs, count_by-le-length p xs)

pub near_few : (c : CircuitValue) (h : RecordValue) (node : ℕ) → IsBasis c h → length (near_at c node) ≤ 100000
unfolding near_of devices
near_few c h node basis =
    let places : List ℕ = range_with_len 0 (length (filter is_device c.deck.elements)) in
    let near : length (near_at c node) ≤ length places = filter_few (λ k. is_end (name_at c node) (device_of c.deck k)) places in
    omega (arith, near, length-range_with_len 0 (length (filter is_device c.deck.elements)), filter_few is_device c.deck.elements, (limits c.deck basis.valid).few_elements)
