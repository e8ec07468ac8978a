-- The ticks that a table of spots says.
use Rattle.std.proofs.Common.{◌≡◌, ℕ, ◌<◌, Bool, true, false, cond, List, length, Option, Some, None, IsSome, refl, sym, ap, subst, ◌∙◌, inl, inr, ⊎_elim}
use Rattle.std.proofs.Math.ListN.{set, get_or-map}
use Rattle.std.proofs.Math.Dec.{eqb}
use Rattle.std.proofs.lemmas.Bool.{eq-eqb, ne_eqb, cases_eq, cases_lt}
use Rattle.std.proofs.lemmas.List.{get_or-set_same, get_or-set_other, get_or_past}
use Rattle.std.specs.Ordering.{nat_cmp}
use Rattle.std.specs.Cmp.{nat_cmp_total, unsigned_tied}
use Rattle.std.specs.FinMap as map
use Rattle.std.specs.FinMap.{get-insert, get-remove, get-empty, same_map, nat_cmp-IsAntisymmetric}
use Rattle.event_order.specs.declared.spot.Spot.{Spot}
use Rattle.event_order.specs.Ticks.{Ticks}
use Rattle.event_order.specs.Tables.{ticks_of, SameAt}
use Rattle.event_order.specs.Buckets.{Holds}
use Rattle.event_order.specs.Spots.{spot_at, tick_of, ticks_in, Reindexed}
use Rattle.event_order.proofs.Tables.{get_at}
use Rattle.event_order.proofs.Placed.{holds_or}

-- the map at a device, by its spot
pub spot_get : (spots : List (Option Spot)) (m : Ticks) (device : ℕ) → ticks_of (ticks_in spots) ≡ m → map.get m device ≡ tick_of (spot_at spots device)
spot_get spots m device is = get_at (ticks_in spots) m device is ∙ get_or-map tick_of spots device None

some_tick : (o : Option Spot) → IsSome (tick_of o) → IsSome o
some_tick None some = some
some_tick (Some spot) some = refl

-- a device that waits has a spot
pub spot_waits : (spots : List (Option Spot)) (m : Ticks) (device : ℕ) → ticks_of (ticks_in spots) ≡ m → IsSome (map.get m device) → IsSome (spot_at spots device)
spot_waits spots m device is some = some_tick (spot_at spots device) (subst IsSome (spot_get spots m device is) some)

-- a spot that is there has a place in the table
pub spot_there : (spots : List (Option Spot)) (device : ℕ) (spot : Spot) → spot_at spots device ≡ Some spot → device < length spots
spot_there spots device spot is = elim (cases_lt device (length spots)) [
  | inl l ↦ l
  | inr g ↦ let past : spot_at spots device ≡ None = get_or_past spots device None g in cc
]

-- a place of the table after a write
pub spot_at-set : (spots : List (Option Spot)) (device q : ℕ) (x : Option Spot) → device < length spots → spot_at (set spots device x) q ≡ cond (eqb q device) x (spot_at spots q)
spot_at-set spots device q x h = ⊎_elim
    (λ e. rw (eq-eqb q device e, e) (get_or-set_same spots device x None h))
    (λ ne. rw (ne_eqb q device ne) (get_or-set_other spots device q x None ne))
    (cases_eq q device)

pub tick_of-cond : (b : Bool) (x y : Option Spot) → tick_of (cond b x y) ≡ cond b (tick_of x) (tick_of y)
tick_of-cond true x y = refl
tick_of-cond false x y = refl

-- a device has another tick, and the others keep theirs
pub spots-put : (xs zs : List (Option Spot)) (m : Ticks) (R : ℕ → Option Spot) (device : ℕ) (spot : Spot) → ticks_of (ticks_in xs) ≡ m →
    ((q : ℕ) → spot_at zs q ≡ cond (eqb q device) (Some spot) (R q)) → ((q : ℕ) → tick_of (R q) ≡ tick_of (spot_at xs q)) → ticks_of (ticks_in zs) ≡ map.insert m device spot.tick
spots-put xs zs m R device spot is changed ticks = same_map nat_cmp_total nat_cmp-IsAntisymmetric _ _ (λ q.
    spot_get zs _ q refl ∙ ap tick_of (changed q) ∙ tick_of-cond (eqb q device) (Some spot) (R q)
    ∙ (λ i. cond (eqb q device) (Some spot.tick) ((ticks q ∙ sym (spot_get xs m q is)) i))
    ∙ ap (λ b. cond b (Some spot.tick) (map.get m q)) (sym (unsigned_tied q device)) ∙ sym (get-insert nat_cmp_total m device spot.tick q))

-- a device has no tick, and the others keep theirs
pub spots-take : (xs zs : List (Option Spot)) (m : Ticks) (R : ℕ → Option Spot) (device : ℕ) → ticks_of (ticks_in xs) ≡ m →
    ((q : ℕ) → spot_at zs q ≡ cond (eqb q device) None (R q)) → ((q : ℕ) → tick_of (R q) ≡ tick_of (spot_at xs q)) → ticks_of (ticks_in zs) ≡ map.remove m device
spots-take xs zs m R device is changed ticks = same_map nat_cmp_total nat_cmp-IsAntisymmetric _ _ (λ q.
    spot_get zs _ q refl ∙ ap tick_of (changed q) ∙ tick_of-cond (eqb q device) None (R q)
    ∙ (λ i. cond (eqb q device) None ((ticks q ∙ sym (spot_get xs m q is)) i))
    ∙ ap (λ b. cond b None (map.get m q)) (sym (unsigned_tied q device)) ∙ sym (get-remove nat_cmp_total m device q))

-- two tables with the same spots are one map
pub same_spots : (xs ys : List (Option Spot)) (m : Ticks) → ticks_of (ticks_in xs) ≡ m → SameAt xs ys → ticks_of (ticks_in ys) ≡ m
same_spots xs ys m is same = same_map nat_cmp_total nat_cmp-IsAntisymmetric _ _ (λ q. spot_get ys _ q refl ∙ ap tick_of (same q) ∙ sym (spot_get xs m q is))

-- no device has a spot
pub spots-empty : (spots : List (Option Spot)) → ((device : ℕ) → spot_at spots device ≡ None) → ticks_of (ticks_in spots) ≡ map.empty
spots-empty spots none = same_map nat_cmp_total nat_cmp-IsAntisymmetric _ _ (λ q. spot_get spots _ q refl ∙ ap tick_of (none q) ∙ sym (get-empty nat_cmp q))

-- other indexes leave the ticks
pub reindexed_ticks : (old new : List (Option Spot)) (list : List ℕ) (index : ℕ) → Reindexed old new list index →
    ((device : ℕ) → Holds list index device → (spot : Spot) × (spot_at old device ≡ Some spot)) → (q : ℕ) → tick_of (spot_at new q) ≡ tick_of (spot_at old q)
reindexed_ticks old new list index re known q = elim (holds_or list index q) [
  | inl holds ↦ let spot = known q holds in ap tick_of (re.changed q spot.0 holds spot.1) ∙ ap tick_of (sym spot.1)
  | inr apart ↦ ap tick_of (re.others q apart)
]

no_tick : (o : Option Spot) → tick_of o ≡ None → o ≡ None
no_tick None is = refl
no_tick (Some spot) is = cc

-- a device that does not wait has no spot
pub spot_free : (spots : List (Option Spot)) (m : Ticks) (device : ℕ) → ticks_of (ticks_in spots) ≡ m → map.get m device ≡ None → spot_at spots device ≡ None
spot_free spots m device is none = no_tick (spot_at spots device) (sym (spot_get spots m device is) ∙ none)
