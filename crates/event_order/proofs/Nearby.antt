-- What the calls of near devices keep.
use Rattle.std.proofs.Common.{◌≡◌, ◌≢◌, ℕ, ◌+◌, ◌-◌, ◌%◌, ◌^◌, ◌<◌, ◌≤◌, get_or, Bool, true, false, cond, List, [], ◌∷◌, ◌++◌, length, Option, Some, None, refl, sym, ap, subst, ◌∙◌, arith, inl, inr, ⊎_elim}
use Rattle.std.proofs.Math.ListN.{set}
use Rattle.std.proofs.Math.Dec.{eqb}
use Rattle.std.proofs.lemmas.Bool.{eq-eqb, ne_eqb, cases_eq, cases_lt}
use Rattle.std.proofs.lemmas.List.{append-nil}
use Rattle.std.specs.List.{swap_remove}
use Rattle.std.specs.FinMap as map
use Rattle.event_order.specs.declared.spot.Spot.{Spot}
use Rattle.event_order.specs.Parts.{IsWithin}
use Rattle.event_order.specs.Ticks.{Ticks, IsFirst, is_tick, is_due}
use Rattle.event_order.specs.Tables.{ticks_of, SameAt}
use Rattle.event_order.specs.Buckets.{bucket, ChangesAt, SameBuckets, Holds, IsNext}
use Rattle.event_order.specs.Spots.{spot_at, tick_of, ticks_in, IsPlaced, IsNear, Reindexed}
use Rattle.event_order.proofs.Placed.{placed_same, placed_put, placed_left, placed_again, holds_swapped, pushed_last, swap_last, kept}
use Rattle.event_order.proofs.BucketLists.{change_same}
use Rattle.event_order.proofs.SpotTicks.{spots-empty, spot_get, spot_at-set, tick_of-cond, reindexed_ticks}

pub near_same : (xs ys : List (Option Spot)) (old new : List (List ℕ)) → IsNear xs old → SameAt xs ys → SameBuckets old new → IsNear ys new
near_same xs ys old new near spots lists = record {
  placed = placed_same (spot_at xs) (spot_at ys) (bucket old) (bucket new) near.placed spots lists;
  fits = λ d tick h. near.fits d tick (ap tick_of (sym (spots d)) ∙ h);
}

fits_more : (b : Bool) (x : ℕ) (o : Option ℕ) (tick : ℕ) → x < 2 ^ 64 → (o ≡ Some tick → tick < 2 ^ 64) → cond b (Some x) o ≡ Some tick → tick < 2 ^ 64
fits_more true x o tick fits old is = let e : x ≡ tick = cc in subst (λ t. t < 2 ^ 64) e fits
fits_more false x o tick fits old is = old is

fits_less : (b : Bool) (o : Option ℕ) (tick : ℕ) → (o ≡ Some tick → tick < 2 ^ 64) → cond b None o ≡ Some tick → tick < 2 ^ 64
fits_less true o tick old is = cc
fits_less false o tick old is = old is

pub near_put : (xs ys : List (Option Spot)) (old new : List (List ℕ)) (device tick place index : ℕ) → IsNear xs old → SameAt xs ys → spot_at xs device ≡ None →
    place ≡ tick % 256 → ChangesAt old new place (bucket old place ++ device ∷ []) → index ≡ length (bucket old place) → tick < 2 ^ 64 → device < length ys →
    IsNear (set ys device (Some (record { tick = tick; index = index }))) new
near_put xs ys old new device tick place index near same free is lists last fits there = record {
  placed = placed_put (spot_at xs) _ (bucket old) (bucket new) device tick near.placed free
      (subst (λ p. (s : ℕ) → bucket new s ≡ cond (eqb s p) (bucket old p ++ device ∷ []) (bucket old s)) is lists)
      (λ d. spot_at-set ys device d (Some (record { tick = tick; index = index })) there
      ∙ (λ i. cond (eqb d device) (Some (record { tick = tick; index = (last ∙ ap (λ p. length (bucket old p)) is) i })) (same d i)));
  fits = λ d t h. fits_more (eqb d device) tick (tick_of (spot_at xs d)) t fits (near.fits d t)
      (sym (ap tick_of (spot_at-set ys device d (Some (record { tick = tick; index = index })) there) ∙ tick_of-cond (eqb d device) _ (spot_at ys d)
      ∙ ap (λ o. cond (eqb d device) (Some tick) (tick_of o)) (same d)) ∙ h);
}

-- each device of a list has a spot
pub known : (spots : List (Option Spot)) (lists : List (List ℕ)) (place index device : ℕ) → IsNear spots lists → Holds (bucket lists place) index device → (spot : Spot) × (spot_at spots device ≡ Some spot)
known spots lists place index device near holds = let at = near.placed.spot place index device holds in (at.0, at.1)

-- which devices stand behind a gap that the last one filled
pub known_left : (xs : List (Option Spot)) (old : List (List ℕ)) (device : ℕ) (spot : Spot) → IsNear xs old → spot_at xs device ≡ Some spot → (d : ℕ) →
    Holds (swap_remove (bucket old (spot.tick % 256)) spot.index 0) spot.index d → (sp : Spot) × (spot_at xs d ≡ Some sp)
known_left xs old device spot near at d holds =
    let place : ℕ = spot.tick % 256 in
    let mine = near.placed.stands device spot at in
    elim (holds_swapped (bucket old place) spot.index spot.index d mine.0 holds) [
      | inl t ↦ known xs old place _ d near t.1
      | inr t ↦ absurd (t.0 refl)
    ]

pub near_left : (xs rs zs : List (Option Spot)) (old new : List (List ℕ)) (device : ℕ) (spot : Spot) → IsNear xs old → spot_at xs device ≡ Some spot →
    ChangesAt old new (spot.tick % 256) (swap_remove (bucket old (spot.tick % 256)) spot.index 0) → Reindexed xs rs (swap_remove (bucket old (spot.tick % 256)) spot.index 0) spot.index →
    ((q : ℕ) → spot_at zs q ≡ cond (eqb q device) None (spot_at rs q)) → IsNear zs new
near_left xs rs zs old new device spot near at lists re spots = record {
  placed = placed_left (spot_at xs) (spot_at rs) (spot_at zs) (bucket old) (bucket new) device spot near.placed at lists re.changed re.others spots;
  fits = λ d t h.
      let ticks = reindexed_ticks xs rs (swap_remove (bucket old (spot.tick % 256)) spot.index 0) spot.index re (known_left xs old device spot near at) d in
      fits_less (eqb d device) (tick_of (spot_at rs d)) t (λ e. near.fits d t (sym ticks ∙ e)) (sym (ap tick_of (spots d) ∙ tick_of-cond (eqb d device) None (spot_at rs d)) ∙ h);
}

twice : {A : Type 0} (b : Bool) (x y z : A) → cond b x z ≡ cond b x (cond b y z)
twice true x y z = refl
twice false x y z = refl

swapped : {A : Type 0} (s p q : ℕ) (x y z : A) → p ≢ q → cond (eqb s p) x (cond (eqb s q) y z) ≡ cond (eqb s q) y (cond (eqb s p) x z)
swapped s p q x y z apart = ⊎_elim
    (λ e. let ne : s ≢ q = λ f. apart (sym e ∙ f) in rw (eq-eqb s p e, ne_eqb s q ne) refl)
    (λ ne. rw (ne_eqb s p ne) refl)
    (cases_eq s p)

-- a device is put last in another list, and then taken from its own
pub near_moved : (xs rs zs : List (Option Spot)) (old mid new : List (List ℕ)) (device tick place index : ℕ) (spot : Spot) → IsNear xs old → spot_at xs device ≡ Some spot →
    place ≡ tick % 256 → place ≢ spot.tick % 256 → ChangesAt old mid place (bucket old place ++ device ∷ []) → index ≡ length (bucket old place) →
    ChangesAt mid new (spot.tick % 256) (swap_remove (bucket mid (spot.tick % 256)) spot.index 0) → Reindexed xs rs (swap_remove (bucket mid (spot.tick % 256)) spot.index 0) spot.index →
    ((q : ℕ) → spot_at zs q ≡ cond (eqb q device) (Some (record { tick = tick; index = index })) (spot_at rs q)) → tick < 2 ^ 64 → IsNear zs new
near_moved xs rs zs old mid new device tick place index spot near at is apart pushed last left re spots fits =
    let from : ℕ = spot.tick % 256 in
    let same : bucket mid from ≡ bucket old from = kept from place _ _ _ (pushed from) (λ e. apart (sym e)) in
    let rest : List ℕ = swap_remove (bucket old from) spot.index 0 in
    let re_old : Reindexed xs rs rest spot.index = subst (λ list. Reindexed xs rs (swap_remove list spot.index 0) spot.index) same re in
    let without : ℕ → Option Spot = λ q. cond (eqb q device) None (spot_at rs q) in
    let shorter : ℕ → List ℕ = λ s. cond (eqb s from) rest (bucket old s) in
    let placed : IsPlaced without shorter = placed_left (spot_at xs) (spot_at rs) without (bucket old) shorter device spot near.placed at (λ s. refl) re_old.changed re_old.others (λ q. refl) in
    let free : without device ≡ None = ap (λ b. cond b None (spot_at rs device)) (eq-eqb device device refl) in
    let stays : shorter place ≡ bucket old place = kept place from rest _ _ refl apart in
    record {
      placed = placed_put without (spot_at zs) shorter (bucket new) device tick placed free
          (subst (λ p. (s : ℕ) → bucket new s ≡ cond (eqb s p) (shorter p ++ device ∷ []) (shorter s)) is (λ s.
          left s ∙ (λ i. cond (eqb s from) (swap_remove (same i) spot.index 0) (pushed s i)) ∙ swapped s from place _ _ _ (λ e. apart (sym e))
          ∙ ap (λ list. cond (eqb s place) (list ++ device ∷ []) (shorter s)) (sym stays)))
          (λ q. spots q ∙ twice (eqb q device) _ None (spot_at rs q)
          ∙ ap (λ n. cond (eqb q device) (Some (record { tick = tick; index = n })) (without q)) (last ∙ ap length (sym stays) ∙ ap (λ p. length (shorter p)) is));
      fits = λ d t h.
          let ticks = reindexed_ticks xs rs rest spot.index re_old (known_left xs old device spot near at) d in
          fits_more (eqb d device) tick (tick_of (spot_at rs d)) t fits (λ e. near.fits d t (sym ticks ∙ e))
          (sym (ap tick_of (spots d) ∙ tick_of-cond (eqb d device) _ (spot_at rs d)) ∙ h);
    }

pub near_again : (xs zs : List (Option Spot)) (lists : List (List ℕ)) (device tick : ℕ) (spot : Spot) → IsNear xs lists → spot_at xs device ≡ Some spot → tick % 256 ≡ spot.tick % 256 →
    ((q : ℕ) → spot_at zs q ≡ cond (eqb q device) (Some (record { tick = tick; index = spot.index })) (spot_at xs q)) → tick < 2 ^ 64 → IsNear zs lists
near_again xs zs lists device tick spot near at same spots fits = record {
  placed = placed_again (spot_at xs) (spot_at zs) (bucket lists) device tick spot near.placed at same spots;
  fits = λ d t h. fits_more (eqb d device) tick (tick_of (spot_at xs d)) t fits (near.fits d t) (sym (ap tick_of (spots d) ∙ tick_of-cond (eqb d device) _ (spot_at xs d)) ∙ h);
}

-- another list is as it was
pub moved_list : (old mid : List (List ℕ)) (list : List ℕ) (place from index device : ℕ) → place ≢ from → ChangesAt old mid place list → Holds (bucket mid from) index device → Holds (bucket old from) index device
moved_list old mid list place from index device apart pushed holds = subst (λ xs. Holds xs index device) (kept from place _ _ _ (pushed from) (λ e. apart (sym e))) holds

pub moved_re : (xs rs : List (Option Spot)) (old mid : List (List ℕ)) (list : List ℕ) (place : ℕ) (spot : Spot) → place ≢ spot.tick % 256 → ChangesAt old mid place list →
    Reindexed xs rs (swap_remove (bucket mid (spot.tick % 256)) spot.index 0) spot.index → Reindexed xs rs (swap_remove (bucket old (spot.tick % 256)) spot.index 0) spot.index
moved_re xs rs old mid list place spot apart pushed re =
    subst (λ ys. Reindexed xs rs (swap_remove ys spot.index 0) spot.index) (kept (spot.tick % 256) place _ _ _ (pushed (spot.tick % 256)) (λ e. apart (sym e))) re

-- a place that had no device
pub pop_same : (old new : List (List ℕ)) (place : ℕ) → bucket old place ≡ bucket new place ++ [] → ChangesAt old new place (bucket new place) → SameBuckets old new
pop_same old new place last rest = change_same old new place (bucket new place) rest (sym (append-nil (bucket new place)) ∙ sym last)

not_due : (xs : List (Option Spot)) (lists : List (List ℕ)) (tick d : ℕ) (o : Option Spot) → IsNear xs lists → bucket lists (tick % 256) ≡ [] → spot_at xs d ≡ o → is_tick (tick_of o) tick ≡ false
not_due xs lists tick d None near none is = refl
not_due xs lists tick d (Some spot) near none is = ne_eqb spot.tick tick (λ same.
    let holds = near.placed.stands d spot is in
    let gone : length (bucket lists (spot.tick % 256)) ≡ 0 = ap (λ t. length (bucket lists (t % 256))) same ∙ ap length none in
    absurd (omega (arith, holds.0)))

pub near_none : (xs : List (Option Spot)) (lists : List (List ℕ)) (m : Ticks) (tick place : ℕ) → IsNear xs lists → ticks_of (ticks_in xs) ≡ m → place ≡ tick % 256 → bucket lists place ≡ [] → (d : ℕ) → is_due m tick d ≡ false
near_none xs lists m tick place near view is none d =
    ap (λ o. is_tick o tick) (spot_get xs m d view) ∙ not_due xs lists tick d (spot_at xs d) near (ap (bucket lists) (sym is) ∙ none) refl

-- the last device at a place, and its spot
pub last_spot : (xs : List (Option Spot)) (old : List (List ℕ)) (place d : ℕ) (ys : List ℕ) → IsNear xs old → bucket old place ≡ ys ++ d ∷ [] →
    (spot : Spot) × (spot_at xs d ≡ Some spot) × (spot.tick % 256 ≡ place) × (spot.index ≡ length ys)
last_spot xs old place d ys near last = near.placed.spot place (length ys) d (subst (λ list. Holds list (length ys) d) (sym last) (pushed_last ys d))

pub near_popped : (xs zs : List (Option Spot)) (old new : List (List ℕ)) (place d : ℕ) → IsNear xs old → bucket old place ≡ bucket new place ++ d ∷ [] → ChangesAt old new place (bucket new place) →
    ((q : ℕ) → spot_at zs q ≡ cond (eqb q d) None (spot_at xs q)) → IsNear zs new
near_popped xs zs old new place d near last rest spots =
    let ys : List ℕ = bucket new place in
    let at = last_spot xs old place d ys near last in
    let left : swap_remove (bucket old (at.0.tick % 256)) at.0.index 0 ≡ ys = (λ i. swap_remove ((ap (bucket old) at.2 ∙ last) i) (at.3 i) 0) ∙ swap_last ys d in
    let none : (q : ℕ) → Holds (swap_remove (bucket old (at.0.tick % 256)) at.0.index 0) at.0.index q → ⊥ = λ q holds.
    let short : at.0.index < length ys = subst (λ list. at.0.index < length list) left holds.0 in absurd (omega (arith, at.3)) in
    near_left xs xs zs old new d at.0 near at.1
    (λ s. rest s ∙ (λ i. cond (eqb s (sym at.2 i)) (sym left i) (bucket old s)))
    (record { changed = λ q sp holds _. absurd (none q holds); others = λ q _. refl })
    spots

pub popped_due : (xs : List (Option Spot)) (old : List (List ℕ)) (m : Ticks) (tick place d : ℕ) (ys : List ℕ) → IsNear xs old → ticks_of (ticks_in xs) ≡ m → place ≡ tick % 256 →
    bucket old place ≡ ys ++ d ∷ [] → ((device other : ℕ) → map.get m device ≡ Some other → other % 256 ≡ tick % 256 → other ≡ tick) → is_due m tick d ≡ true
popped_due xs old m tick place d ys near view is last alone =
    let at = last_spot xs old place d ys near last in
    let waits : map.get m d ≡ Some at.0.tick = spot_get xs m d view ∙ ap tick_of at.1 in
    ap (λ o. is_tick o tick) waits ∙ eq-eqb at.0.tick tick (alone d at.0.tick waits (at.2 ∙ is))

-- ---- the first tick of all
empty_place : (xs : List (Option Spot)) (lists : List (List ℕ)) (d : ℕ) (o : Option Spot) → IsNear xs lists → ((place : ℕ) → place < 256 → bucket lists place ≡ []) → spot_at xs d ≡ o → o ≡ None
empty_place xs lists d None near none is = refl
empty_place xs lists d (Some spot) near none is =
    let holds = near.placed.stands d spot is in
    let gone : length (bucket lists (spot.tick % 256)) ≡ 0 = ap length (none (spot.tick % 256) (omega arith)) in
    absurd (omega (arith, holds.0))

pub none_near : (xs : List (Option Spot)) (lists : List (List ℕ)) → IsNear xs lists → ((place : ℕ) → place < 256 → bucket lists place ≡ []) → ticks_of (ticks_in xs) ≡ map.empty
none_near xs lists near none = spots-empty xs (λ d. empty_place xs lists d (spot_at xs d) near none refl)

-- the device that stands first at the place so far on waits for the tick so far on
pub waits_ahead : (xs : List (Option Spot)) (lists : List (List ℕ)) (m : Ticks) (from place ahead : ℕ) → IsNear xs lists → ticks_of (ticks_in xs) ≡ m → IsWithin from m → place ≡ from % 256 → IsNext lists place ahead →
    (device : ℕ) × (map.get m device ≡ Some (from + ahead))
waits_ahead xs lists m from place ahead near view within is next =
    let device : ℕ = get_or (bucket lists ((place + ahead) % 256)) 0 0 in
    let at = near.placed.spot ((place + ahead) % 256) 0 device (next.some, refl) in
    let waits : map.get m device ≡ Some at.0.tick = spot_get xs m device view ∙ ap tick_of at.1 in
    let inside = within device at.0.tick waits in
    let same : at.0.tick ≡ from + ahead = omega (arith, at.2, is, inside.0, inside.1, next.below) in
    (device, waits ∙ ap Some same)

some_waits : (o : Option Spot) (t : ℕ) → tick_of o ≡ Some t → (spot : Spot) × (o ≡ Some spot) × (spot.tick ≡ t)
some_waits None t is = cc
some_waits (Some spot) t is = (spot, refl, let e : spot.tick ≡ t = cc in e)

pub first_ahead : (xs : List (Option Spot)) (lists : List (List ℕ)) (m : Ticks) (from place ahead : ℕ) → IsNear xs lists → ticks_of (ticks_in xs) ≡ m → IsWithin from m → place ≡ from % 256 → IsNext lists place ahead →
    IsFirst m (from + ahead)
first_ahead xs lists m from place ahead near view within is next = record {
  waits = waits_ahead xs lists m from place ahead near view within is next;
  least = λ device other h.
      let spot = some_waits (spot_at xs device) other (sym (spot_get xs m device view) ∙ h) in
      let holds = near.placed.stands device spot.0 spot.1 in
      let inside = within device other h in
      elim (cases_lt other (from + ahead)) [
        | inl early ↦
            let less : ℕ = other - from in
            let at : (place + less) % 256 ≡ spot.0.tick % 256 = omega (arith, spot.2, is, inside.0, inside.1) in
            let gone : length (bucket lists (spot.0.tick % 256)) ≡ 0 = ap (λ p. length (bucket lists p)) (sym at) ∙ ap length (next.before less (omega (arith, inside.0))) in
            absurd (omega (arith, holds.0))
        | inr late ↦ late
      ];
}

-- of the ticks of 256, no two have one place
pub alone_from : (from : ℕ) (m : Ticks) (tick : ℕ) → IsWithin from m → (from ≤ tick) × (tick < from + 256) → (device other : ℕ) → map.get m device ≡ Some other → other % 256 ≡ tick % 256 → other ≡ tick
alone_from from m tick within inside device other waits same = let at = within device other waits in omega (arith, at.0, at.1, inside.0, inside.1)
