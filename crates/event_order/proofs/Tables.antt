-- A table of ticks by device, and the map that it is.
use Rattle.std.proofs.Common.{◌≡◌, ℕ, suc, ◌+◌, ◌-◌, ◌<◌, Bool, true, false, cond, T, List, [], ◌∷◌, length, Option, Some, None, refl, sym, ap, subst, ◌∙◌, arith, inl, inr, ⊎_elim}
use Rattle.std.proofs.Math.Dec.{ltb, eqb}
use Rattle.std.proofs.Math.ListN.{set}
use Rattle.std.proofs.lemmas.Bool.{false≢true, lt-ltb, le-ltb, eq-eqb, ne_eqb, cases_eq, cases_lt}
use Rattle.std.proofs.lemmas.List.{get_or_past, get_or-set_same, get_or-set_other}
use Rattle.std.specs.Ordering.{nat_cmp, eq_by_cmp}
use Rattle.std.specs.Cmp.{nat_cmp_total, unsigned_tied}
use Rattle.std.specs.FinMap as map
use Rattle.std.specs.FinMap.{find, is_sorted, get-from_sorted, get-insert, get-remove, get-empty, same_map, nat_cmp-IsAntisymmetric}
use Rattle.std.specs.FinMap.Entries.{below_all}
use Rattle.std.specs.Option.{IsSome}
use Rattle.event_order.specs.Ticks.{Ticks}
use Rattle.event_order.specs.Tables.{tick_at, entries_from, ticks_of, SameAt}

-- a device below the first of the table stands below all of its entries
below : (x device : ℕ) (xs : List (Option ℕ)) → x < device → below_all nat_cmp x (entries_from device xs) ≡ true
below x device [] h = refl
below x device (None ∷ xs) h = below x (device + 1) xs (omega arith)
below x device (Some tick ∷ xs) h = rw (lt-ltb x device h) (below x (device + 1) xs (omega arith))

-- the entries stand in the order of the devices
sorted : (device : ℕ) (xs : List (Option ℕ)) → is_sorted nat_cmp (entries_from device xs) ≡ true
sorted device [] = refl
sorted device (None ∷ xs) = sorted (device + 1) xs
sorted device (Some tick ∷ xs) = rw (below device (device + 1) xs (omega arith)) (sorted (device + 1) xs)

-- a table with one more place in front
found_none : (q device : ℕ) (xs : List (Option ℕ)) → cond (ltb q (device + 1)) None (tick_at xs (q - (device + 1))) ≡ cond (ltb q device) None (tick_at (None ∷ xs) (q - device))
found_none q device xs = ⊎_elim
    (λ e. rw (e, lt-ltb device (device + 1) (omega arith), le-ltb device device (omega arith)) (let z : device - device ≡ 0 = omega arith in rw z refl))
    (λ ne. elim (cases_lt q device) [
      | inl l ↦ rw (lt-ltb q device l, lt-ltb q (device + 1) (omega arith)) refl
      | inr g ↦ rw (le-ltb q device g, le-ltb q (device + 1) (omega arith)) (let s : q - device ≡ suc (q - (device + 1)) = omega arith in rw s refl)
    ])
    (cases_eq q device)

found_some : (q device tick : ℕ) (xs : List (Option ℕ)) →
    cond (eq_by_cmp nat_cmp q device) (Some tick) (cond (ltb q (device + 1)) None (tick_at xs (q - (device + 1)))) ≡ cond (ltb q device) None (tick_at (Some tick ∷ xs) (q - device))
found_some q device tick xs = ⊎_elim
    (λ e. rw (unsigned_tied q device, eq-eqb q device e, le-ltb q device (omega arith)) (let z : q - device ≡ 0 = omega arith in rw z refl))
    (λ ne. rw (unsigned_tied q device, ne_eqb q device ne) (elim (cases_lt q device) [
      | inl l ↦ rw (lt-ltb q device l, lt-ltb q (device + 1) (omega arith)) refl
      | inr g ↦ rw (le-ltb q device g, le-ltb q (device + 1) (omega arith)) (let s : q - device ≡ suc (q - (device + 1)) = omega arith in rw s refl)
    ]))
    (cases_eq q device)

no_place : (b : Bool) → ◌≡◌ {A = Option ℕ} None (cond b None None)
no_place true = refl
no_place false = refl

found : (q device : ℕ) (xs : List (Option ℕ)) → find nat_cmp q (entries_from device xs) ≡ cond (ltb q device) None (tick_at xs (q - device))
found q device [] = no_place (ltb q device)
found q device (None ∷ xs) = found q (device + 1) xs ∙ found_none q device xs
found q device (Some tick ∷ xs) = ap (λ o. cond (eq_by_cmp nat_cmp q device) (Some tick) o) (found q (device + 1) xs) ∙ found_some q device tick xs

at_front : (xs : List (Option ℕ)) (device : ℕ) → cond (ltb device 0) None (tick_at xs (device - 0)) ≡ tick_at xs device
at_front xs device = let z : device - 0 ≡ device = omega arith in rw (le-ltb device 0 (omega arith), z) refl

-- the map at a device
pub get-ticks_of : (xs : List (Option ℕ)) (device : ℕ) → map.get (ticks_of xs) device ≡ tick_at xs device
unfolding ticks_of
get-ticks_of xs device = get-from_sorted nat_cmp (entries_from 0 xs) device (subst T (sym (sorted 0 xs)) tt) ∙ found device 0 xs ∙ at_front xs device

-- two tables with the same ticks are one map
pub same_ticks : (xs ys : List (Option ℕ)) → SameAt xs ys → ticks_of ys ≡ ticks_of xs
same_ticks xs ys h = same_map nat_cmp_total nat_cmp-IsAntisymmetric _ _ (λ q. get-ticks_of ys q ∙ h q ∙ sym (get-ticks_of xs q))

-- a place of the table after a write
pub tick_at-set : (xs : List (Option ℕ)) (place q : ℕ) (x : Option ℕ) → place < length xs → tick_at (set xs place x) q ≡ cond (eqb q place) x (tick_at xs q)
tick_at-set xs place q x h = ⊎_elim
    (λ e. rw (eq-eqb q place e, e) (get_or-set_same xs place x None h))
    (λ ne. rw (ne_eqb q place ne) (get_or-set_other xs place q x None ne))
    (cases_eq q place)

-- a device is put into the map
pub ticks_of-put : (xs : List (Option ℕ)) (device tick : ℕ) → device < length xs → ticks_of (set xs device (Some tick)) ≡ map.insert (ticks_of xs) device tick
ticks_of-put xs device tick h = same_map nat_cmp_total nat_cmp-IsAntisymmetric _ _ (λ q.
    rw (get-ticks_of (set xs device (Some tick)) q, get-insert nat_cmp_total (ticks_of xs) device tick q, get-ticks_of xs q, unsigned_tied q device) (tick_at-set xs device q (Some tick) h))

-- a device is taken from the map
pub ticks_of-take : (xs : List (Option ℕ)) (device : ℕ) → device < length xs → ticks_of (set xs device None) ≡ map.remove (ticks_of xs) device
ticks_of-take xs device h = same_map nat_cmp_total nat_cmp-IsAntisymmetric _ _ (λ q.
    rw (get-ticks_of (set xs device None) q, get-remove nat_cmp_total (ticks_of xs) device q, get-ticks_of xs q, unsigned_tied q device) (tick_at-set xs device q None h))

-- an empty table
pub ticks_of-empty : ticks_of [] ≡ map.empty
ticks_of-empty = same_map nat_cmp_total nat_cmp-IsAntisymmetric _ _ (λ q. get-ticks_of [] q ∙ sym (get-empty nat_cmp q))

-- a device with a tick has a place
pub place_there : (xs : List (Option ℕ)) (place tick : ℕ) → tick_at xs place ≡ Some tick → place < length xs
place_there xs place tick h = elim (cases_lt place (length xs)) [
  | inl l ↦ l
  | inr g ↦ let past : tick_at xs place ≡ None = get_or_past xs place None g in cc
]

-- the map at a device, by the table
pub get_at : (xs : List (Option ℕ)) (m : Ticks) (device : ℕ) → ticks_of xs ≡ m → map.get m device ≡ tick_at xs device
get_at xs m device is = ap (λ n. map.get n device) (sym is) ∙ get-ticks_of xs device

some_there : (xs : List (Option ℕ)) (place : ℕ) (x : Option ℕ) → tick_at xs place ≡ x → IsSome x → place < length xs
some_there xs place None is some = absurd (false≢true some)
some_there xs place (Some tick) is some = place_there xs place tick is

-- a device that waits has a place
pub waits_there : (xs : List (Option ℕ)) (m : Ticks) (device : ℕ) → ticks_of xs ≡ m → IsSome (map.get m device) → device < length xs
waits_there xs m device is some = some_there xs device (map.get m device) (sym (get_at xs m device is)) some

again : (m : Ticks) (device tick q : ℕ) → map.get m device ≡ Some tick → map.get m q ≡ cond (eqb q device) (Some tick) (map.get m q)
again m device tick q is = ⊎_elim
    (λ e. rw (eq-eqb q device e, e) is)
    (λ ne. rw (ne_eqb q device ne) refl)
    (cases_eq q device)

-- what is there already changes nothing
pub put_again : (m : Ticks) (device tick : ℕ) → map.get m device ≡ Some tick → m ≡ map.insert m device tick
put_again m device tick is = same_map nat_cmp_total nat_cmp-IsAntisymmetric _ _ (λ q.
    rw (get-insert nat_cmp_total m device tick q, unsigned_tied q device) (again m device tick q is))
