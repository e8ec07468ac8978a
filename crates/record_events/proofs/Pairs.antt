-- The changes of a record in order: by tick, and at a tick by device.
use Rattle.std.proofs.Common.{◌≡◌, ℕ, zero, suc, ◌+◌, ◌<◌, ◌≤◌, Bool, true, false, List, [], ◌∷◌, ◌++◌, length, refl, sym, ap, ◌∙◌, arith}
use Rattle.std.specs.Prelude.{if◌then◌else◌, IsPermutation, IsSorted}
use Rattle.std.specs.List.{All, flat_map, range_with_len, sum_by}
use Rattle.std.proofs.lemmas.List.{append-nil}
use Rattle.std.proofs.lemmas.List.Concat.{flat_map-append}
use Rattle.std.proofs.lemmas.List.Elements.{All-append, All-cons, All-nil, All-weaker}
use Rattle.std.proofs.lemmas.List.Sorted.{sum_by-IsPermutation}
use Rattle.std.proofs.lemmas.List.Sums.{sum_by-append}
use Rattle.semantics.specs.Event.{same_cells}
use Rattle.event_order.specs.Ticks.{by_tick}
use Rattle.circuit_model.specs.Numbers.{CircuitValue, devices}
use Rattle.circuit_model.proofs.NearLists.{range_more}
use Rattle.histories.specs.Record.{RecordValue}
use Rattle.record_events.specs.Changes.{IsChange, cells_by, change_after, changes_of, changes_to}
use Rattle.record_events.proofs.Rising.{IsRising, NoneBelow, earlier, later_device, later_tick, not_earlier, rising_append, rising_sorted, same_pair, same_rising}

-- the changes at the tick after t of so many devices from one on
abbrev pub at_tick : CircuitValue → RecordValue → ℕ → ℕ → ℕ → List (ℕ × ℕ)
at_tick c h t device count = flat_map (λ k. change_after c h k t) (range_with_len device count)

-- those of all devices at ticks 1 to t
abbrev pub in_order : CircuitValue → RecordValue → ℕ → List (ℕ × ℕ)
in_order c h zero = []
in_order c h (suc t) = in_order c h t ++ at_tick c h t 0 (length (devices c.deck))

-- the lists of one device more
pub next_device : (c : CircuitValue) (h : RecordValue) (device : ℕ) → changes_of c h (device + 1) ≡ changes_of c h device ++ changes_to c h device c.deck.stop
next_device c h device =
    let more : device + 1 ≡ suc device = omega arith in
    ap (changes_of c h) more ∙ ap (flat_map (λ k. changes_to c h k c.deck.stop)) (range_more 0 device)
    ∙ flat_map-append (λ k. changes_to c h k c.deck.stop) (range_with_len 0 device) ((0 + device) ∷ [])
    ∙ (λ i. changes_of c h device ++ append-nil (changes_to c h (zero_plus i) c.deck.stop) i)
  where
    zero_plus : 0 + device ≡ device
    zero_plus = omega arith

-- ---- where they are

-- a change at this tick, of one of so many devices from one on
record IsAt (tick device count : ℕ) (change : ℕ × ℕ) : Type 0 where
  tick_is : change.0 ≡ tick
  from : device ≤ change.1
  below : change.1 < device + count

all_if : (P : ℕ × ℕ → Type 0) (b : Bool) (x : ℕ × ℕ) → P x → All P (if b then [] else x ∷ [])
all_if P true x one = All-nil P
all_if P false x one = All-cons P x [] one (All-nil P)

at_are : (c : CircuitValue) (h : RecordValue) (t device count : ℕ) → All (IsAt (suc t) device count) (at_tick c h t device count)
at_are c h t device zero = All-nil (IsAt (suc t) device zero)
at_are c h t device (suc count) =
    All-append (IsAt (suc t) device (suc count)) (change_after c h device t) (at_tick c h t (device + 1) count)
    (all_if (IsAt (suc t) device (suc count)) (same_cells (cells_by c h device t) (cells_by c h device (suc t))) (suc t, device) (record { tick_is = refl; from = omega arith; below = omega arith }))
    (All-weaker (IsAt (suc t) (device + 1) count) (IsAt (suc t) device (suc count))
    (λ x is. let f = is.from in let b = is.below in record { tick_is = is.tick_is; from = omega (arith, f); below = omega (arith, b) })
    (at_tick c h t (device + 1) count) (at_are c h t (device + 1) count))

record IsTo (t count : ℕ) (change : ℕ × ℕ) : Type 0 where
  first : 1 ≤ change.0
  last : change.0 ≤ t
  device : change.1 < count

to_are : (c : CircuitValue) (h : RecordValue) (t : ℕ) → All (IsTo t (length (devices c.deck))) (in_order c h t)
to_are c h zero = All-nil (IsTo zero (length (devices c.deck)))
to_are c h (suc t) =
    All-append (IsTo (suc t) (length (devices c.deck))) (in_order c h t) (at_tick c h t 0 (length (devices c.deck)))
    (All-weaker (IsTo t (length (devices c.deck))) (IsTo (suc t) (length (devices c.deck)))
    (λ x is. let l = is.last in record { first = is.first; last = omega (arith, l); device = is.device }) (in_order c h t) (to_are c h t))
    (All-weaker (IsAt (suc t) 0 (length (devices c.deck))) (IsTo (suc t) (length (devices c.deck)))
    (λ x is. let tick = is.tick_is in let b = is.below in record { first = omega (arith, tick); last = omega (arith, tick); device = omega (arith, b) })
    (at_tick c h t 0 (length (devices c.deck))) (at_are c h t 0 (length (devices c.deck))))

pub are_changes : (c : CircuitValue) (h : RecordValue) → All (IsChange c) (in_order c h c.deck.stop)
are_changes c h =
    All-weaker (IsTo c.deck.stop (length (devices c.deck))) (IsChange c) (λ x is. record { from = is.first; by_stop = is.last; device = is.device })
    (in_order c h c.deck.stop) (to_are c h c.deck.stop)

-- ---- that they rise

rising_if : (b : Bool) (x : ℕ × ℕ) → IsRising earlier (if b then [] else x ∷ [])
rising_if true x = refl
rising_if false x = (All-nil (λ y. earlier y x ≡ false), refl)

at_rises : (c : CircuitValue) (h : RecordValue) (t device count : ℕ) → IsRising earlier (at_tick c h t device count)
at_rises c h t device zero = refl
at_rises c h t device (suc count) =
    rising_append earlier (change_after c h device t) (at_tick c h t (device + 1) count)
    (rising_if (same_cells (cells_by c h device t) (cells_by c h device (suc t))) (suc t, device)) (at_rises c h t (device + 1) count)
    (all_if (λ x. NoneBelow earlier x (at_tick c h t (device + 1) count)) (same_cells (cells_by c h device t) (cells_by c h device (suc t))) (suc t, device)
    (All-weaker (IsAt (suc t) (device + 1) count) (λ y. earlier y (suc t, device) ≡ false)
    (λ y is. let f = is.from in later_device (suc t, device) y (sym is.tick_is) (omega (arith, f))) (at_tick c h t (device + 1) count) (at_are c h t (device + 1) count)))

to_rises : (c : CircuitValue) (h : RecordValue) (t : ℕ) → IsRising earlier (in_order c h t)
to_rises c h zero = refl
to_rises c h (suc t) =
    rising_append earlier (in_order c h t) (at_tick c h t 0 (length (devices c.deck))) (to_rises c h t) (at_rises c h t 0 (length (devices c.deck)))
    (All-weaker (IsTo t (length (devices c.deck))) (λ x. NoneBelow earlier x (at_tick c h t 0 (length (devices c.deck))))
    (λ x upto. All-weaker (IsAt (suc t) 0 (length (devices c.deck))) (λ y. earlier y x ≡ false)
    (λ y is. let l = upto.last in let tick = is.tick_is in later_tick x y (omega (arith, l, tick))) (at_tick c h t 0 (length (devices c.deck))) (at_are c h t 0 (length (devices c.deck))))
    (in_order c h t) (to_are c h t))

-- ---- that they are those of the devices, each as often

sum_both : (f : ℕ × ℕ → ℕ) (g k : ℕ → List (ℕ × ℕ)) (ds : List ℕ) → sum_by f (flat_map (λ d. g d ++ k d) ds) ≡ sum_by f (flat_map g ds) + sum_by f (flat_map k ds)
sum_both f g k [] = refl
sum_both f g k (d ∷ ds) =
    let all : sum_by f (flat_map (λ j. g j ++ k j) (d ∷ ds)) ≡ sum_by f (g d ++ k d) + sum_by f (flat_map (λ j. g j ++ k j) ds) = sum_by-append f (g d ++ k d) (flat_map (λ j. g j ++ k j) ds) in
    let here : sum_by f (g d ++ k d) ≡ sum_by f (g d) + sum_by f (k d) = sum_by-append f (g d) (k d) in
    let one : sum_by f (flat_map g (d ∷ ds)) ≡ sum_by f (g d) + sum_by f (flat_map g ds) = sum_by-append f (g d) (flat_map g ds) in
    let two : sum_by f (flat_map k (d ∷ ds)) ≡ sum_by f (k d) + sum_by f (flat_map k ds) = sum_by-append f (k d) (flat_map k ds) in
    omega (arith, all, here, one, two, sum_both f g k ds)

none_of : (ds : List ℕ) (f : ℕ × ℕ → ℕ) → sum_by f (flat_map (λ d. []) ds) ≡ 0
none_of [] f = refl
none_of (d ∷ ds) f = none_of ds f

same_sums : (c : CircuitValue) (h : RecordValue) (t : ℕ) (f : ℕ × ℕ → ℕ) → sum_by f (flat_map (λ k. changes_to c h k t) (range_with_len 0 (length (devices c.deck)))) ≡ sum_by f (in_order c h t)
unfolding changes_to
same_sums c h zero f = none_of (range_with_len 0 (length (devices c.deck))) f
same_sums c h (suc t) f =
    let ks : List ℕ = range_with_len 0 (length (devices c.deck)) in
    sum_both f (λ k. changes_to c h k t) (λ k. change_after c h k t) ks
    ∙ (λ i. same_sums c h t f i + sum_by f (at_tick c h t 0 (length (devices c.deck)))) ∙ sym (sum_by-append f (in_order c h t) (at_tick c h t 0 (length (devices c.deck))))

-- sorted, they are the changes in order
pub merged_is : (c : CircuitValue) (h : RecordValue) (lists merged : List (ℕ × ℕ)) → lists ≡ changes_of c h (length (devices c.deck)) → IsPermutation lists merged → IsSorted by_tick merged → merged ≡ in_order c h c.deck.stop
merged_is c h lists merged are permuted sorted =
    same_rising earlier not_earlier same_pair merged (in_order c h c.deck.stop) (rising_sorted merged sorted) (to_rises c h c.deck.stop)
    (λ f. sum_by-IsPermutation f lists merged permuted ∙ ap (λ xs. sum_by f xs) are ∙ same_sums c h c.deck.stop f)
