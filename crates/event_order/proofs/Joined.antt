-- Two maps joined to one.
use Rattle.std.proofs.Common.{◌≡◌, ◌≢◌, ℕ, ◌+◌, ◌<◌, ◌≤◌, min, Bool, true, false, cond, List, [], ◌∷◌, ◌++◌, Option, Some, None, IsSome, is_some, Result, Ok, Err, OnOk, OnErr, refl, sym, ap, subst, ◌∙◌, arith, ◌⊎◌, inl, inr, ⊎_elim}
use Rattle.std.proofs.Math.Dec.{eqb}
use Rattle.std.proofs.lemmas.Bool.{false≢true, eqb-true, eq-eqb, ne_eqb, cases_eq, cases_lt}
use Rattle.std.specs.Ordering.{nat_cmp, eq_by_cmp}
use Rattle.std.specs.Cmp.{nat_cmp_total, unsigned_tied}
use Rattle.std.specs.FinMap as map
use Rattle.std.specs.FinMap.{find, get-entries, get-from_entries, get-insert, get-remove, get-empty, same_map, nat_cmp-IsAntisymmetric}
use Rattle.event_order.specs.Parts.{IsWithin, Pops}
use Rattle.event_order.specs.Ticks.{Ticks, IsFirst, is_due, is_tick}
use Rattle.event_order.specs.Parts.{joined, IsSplit}

abbrev pub either : Option ℕ → Option ℕ → Option ℕ
either None y = y
either (Some t) y = Some t

either_cond : (b : Bool) (t : ℕ) (x y : Option ℕ) → cond b (Some t) (either x y) ≡ either (cond b (Some t) x) y
either_cond true t x y = refl
either_cond false t x y = refl

find_either : (q : ℕ) (es fs : List (ℕ × ℕ)) → find nat_cmp q (es ++ fs) ≡ either (find nat_cmp q es) (find nat_cmp q fs)
find_either q [] fs = refl
find_either q (e ∷ es) fs = ap (cond (eq_by_cmp nat_cmp q e.0) (Some e.1)) (find_either q es fs) ∙ either_cond (eq_by_cmp nat_cmp q e.0) e.1 (find nat_cmp q es) (find nat_cmp q fs)

-- the joined map at a device
pub get-joined : (near far : Ticks) (q : ℕ) → map.get (joined near far) q ≡ either (map.get near q) (map.get far q)
unfolding joined
get-joined near far q = get-from_entries nat_cmp_total (map.entries near ++ map.entries far) q ∙ find_either q (map.entries near) (map.entries far)
    ∙ (λ i. either (sym (get-entries near q) i) (sym (get-entries far q) i))

-- two maps that are joined to a third
pub joined_is : (near far m : Ticks) → ((q : ℕ) → either (map.get near q) (map.get far q) ≡ map.get m q) → joined near far ≡ m
joined_is near far m h = same_map nat_cmp_total nat_cmp-IsAntisymmetric _ _ (λ q. get-joined near far q ∙ h q)

-- the map at a device, by its two parts
pub get_part : (near far m : Ticks) (q : ℕ) → joined near far ≡ m → map.get m q ≡ either (map.get near q) (map.get far q)
get_part near far m q is = ap (λ n. map.get n q) (sym is) ∙ get-joined near far q

pub get_put : (m : Ticks) (d t q : ℕ) → map.get (map.insert m d t) q ≡ cond (eqb q d) (Some t) (map.get m q)
get_put m d t q = get-insert nat_cmp_total m d t q ∙ ap (λ b. cond b (Some t) (map.get m q)) (unsigned_tied q d)

pub get_taken : (m : Ticks) (d q : ℕ) → map.get (map.remove m d) q ≡ cond (eqb q d) None (map.get m q)
get_taken m d q = get-remove nat_cmp_total m d q ∙ ap (λ b. cond b None (map.get m q)) (unsigned_tied q d)

-- a map has a device's tick set, or the device taken out
abbrev pub Puts : Ticks → Ticks → ℕ → ℕ → Type 0
Puts old new device tick = (q : ℕ) → map.get new q ≡ cond (eqb q device) (Some tick) (map.get old q)

abbrev pub Takes : Ticks → Ticks → ℕ → Type 0
Takes old new device = (q : ℕ) → map.get new q ≡ cond (eqb q device) None (map.get old q)

pub puts_from : (old new : Ticks) (device tick : ℕ) → new ≡ map.insert old device tick → Puts old new device tick
puts_from old new device tick is q = ap (λ m. map.get m q) is ∙ get_put old device tick q

pub takes_from : (old new : Ticks) (device : ℕ) → new ≡ map.remove old device → Takes old new device
takes_from old new device is q = ap (λ m. map.get m q) is ∙ get_taken old device q

within_more : (base t u : ℕ) (b : Bool) (x : Option ℕ) → (base ≤ t) × (t < base + 256) → (x ≡ Some u → (base ≤ u) × (u < base + 256)) → cond b (Some t) x ≡ Some u → (base ≤ u) × (u < base + 256)
within_more base t u true x near old is = let e : t ≡ u = cc in subst (λ v. (base ≤ v) × (v < base + 256)) e near
within_more base t u false x near old is = old is

within_less : (base u : ℕ) (b : Bool) (x : Option ℕ) → (x ≡ Some u → (base ≤ u) × (u < base + 256)) → cond b None x ≡ Some u → (base ≤ u) × (u < base + 256)
within_less base u true x old is = cc
within_less base u false x old is = old is

pub within_put : (base : ℕ) (old new : Ticks) (device tick : ℕ) → IsWithin base old → (base ≤ tick) × (tick < base + 256) → Puts old new device tick → IsWithin base new
within_put base old new device tick within near puts q u is = within_more base tick u (eqb q device) (map.get old q) near (within q u) (sym (puts q) ∙ is)

pub within_take : (base : ℕ) (old new : Ticks) (device : ℕ) → IsWithin base old → Takes old new device → IsWithin base new
within_take base old new device within takes q u is = within_less base u (eqb q device) (map.get old q) (within q u) (sym (takes q) ∙ is)

-- by whether it is the device
at_device : {A : Type 0} (q device : ℕ) (x y z : A) → z ≡ cond (eqb q device) x y → q ≡ device → z ≡ x
at_device q device x y z is same = is ∙ ap (λ b. cond b x y) (eq-eqb q device same)

elsewhere : {A : Type 0} (q device : ℕ) (x y z : A) → z ≡ cond (eqb q device) x y → q ≢ device → z ≡ y
elsewhere q device x y z is other = is ∙ ap (λ b. cond b x y) (ne_eqb q device other)

not_some : (o : Option ℕ) → o ≡ None → IsSome o → ⊥
not_some o none some = false≢true (sym (ap is_some none) ∙ some)

either_none : (x y : Option ℕ) → x ≡ None → either x y ≡ y
either_none x y none = ap (λ o. either o y) none

-- ---- a device of neither map, or of the first one, has a tick of the first
pub near_gets : (base : ℕ) (near far near' m : Ticks) (device tick : ℕ) → IsSplit base near far → joined near far ≡ m → map.get far device ≡ None →
    (base ≤ tick) × (tick < base + 256) → Puts near near' device tick → IsSplit base near' far × (joined near' far ≡ map.insert m device tick)
near_gets base near far near' m device tick split is free inside puts = (
  record {
    within = within_put base near near' device tick split.within inside puts;
    apart = λ q some. ⊎_elim (λ same. ap (map.get far) same ∙ free) (λ other. split.apart q (subst IsSome (elsewhere q device _ _ _ (puts q) other) some)) (cases_eq q device);
  },
  joined_is near' far (map.insert m device tick) (λ q.
      ap (λ o. either o (map.get far q)) (puts q) ∙ sym (either_cond (eqb q device) tick (map.get near q) (map.get far q))
      ∙ ap (cond (eqb q device) (Some tick)) (sym (get_part near far m q is)) ∙ sym (get_put m device tick q)),
)

-- ---- a device of neither map, or of the second one, has a tick of the second
pub far_gets : (base : ℕ) (near far far' m : Ticks) (device tick : ℕ) → IsSplit base near far → joined near far ≡ m → map.get near device ≡ None →
    Puts far far' device tick → IsSplit base near far' × (joined near far' ≡ map.insert m device tick)
far_gets base near far far' m device tick split is free puts = (
  record {
    within = split.within;
    apart = λ q some. ⊎_elim
        (λ same. absurd (not_some (map.get near q) (ap (map.get near) same ∙ free) some))
        (λ other. elsewhere q device _ _ _ (puts q) other ∙ split.apart q some)
        (cases_eq q device);
  },
  joined_is near far' (map.insert m device tick) (λ q. ⊎_elim
      (λ same. either_none (map.get near q) (map.get far' q) (ap (map.get near) same ∙ free) ∙ at_device q device _ _ _ (puts q) same ∙ sym (at_device q device _ _ _ (get_put m device tick q) same))
      (λ other. ap (either (map.get near q)) (elsewhere q device _ _ _ (puts q) other) ∙ sym (get_part near far m q is) ∙ sym (elsewhere q device _ _ _ (get_put m device tick q) other))
      (cases_eq q device)),
)

-- ---- a device goes from the first map to the second, and the other way round
pub near_to_far : (base : ℕ) (near far near' far' m : Ticks) (device tick : ℕ) → IsSplit base near far → joined near far ≡ m → Takes near near' device → Puts far far' device tick →
    IsSplit base near' far' × (joined near' far' ≡ map.insert m device tick)
near_to_far base near far near' far' m device tick split is takes puts = (
  record {
    within = within_take base near near' device split.within takes;
    apart = λ q some. ⊎_elim
        (λ same. absurd (not_some (map.get near' q) (at_device q device _ _ _ (takes q) same) some))
        (λ other. elsewhere q device _ _ _ (puts q) other ∙ split.apart q (subst IsSome (elsewhere q device _ _ _ (takes q) other) some))
        (cases_eq q device);
  },
  joined_is near' far' (map.insert m device tick) (λ q. ⊎_elim
      (λ same. either_none (map.get near' q) (map.get far' q) (at_device q device _ _ _ (takes q) same) ∙ at_device q device _ _ _ (puts q) same ∙ sym (at_device q device _ _ _ (get_put m device tick q) same))
      (λ other. (λ i. either (elsewhere q device _ _ _ (takes q) other i) (elsewhere q device _ _ _ (puts q) other i)) ∙ sym (get_part near far m q is) ∙ sym (elsewhere q device _ _ _ (get_put m device tick q) other))
      (cases_eq q device)),
)

pub far_to_near : (base : ℕ) (near far near' far' m : Ticks) (device tick : ℕ) → IsSplit base near far → joined near far ≡ m → (base ≤ tick) × (tick < base + 256) →
    Puts near near' device tick → Takes far far' device → IsSplit base near' far' × (joined near' far' ≡ map.insert m device tick)
far_to_near base near far near' far' m device tick split is inside puts takes = (
  record {
    within = within_put base near near' device tick split.within inside puts;
    apart = λ q some. ⊎_elim
        (λ same. at_device q device _ _ _ (takes q) same)
        (λ other. elsewhere q device _ _ _ (takes q) other ∙ split.apart q (subst IsSome (elsewhere q device _ _ _ (puts q) other) some))
        (cases_eq q device);
  },
  joined_is near' far' (map.insert m device tick) (λ q. ⊎_elim
      (λ same. ap (λ o. either o (map.get far' q)) (at_device q device _ _ _ (puts q) same) ∙ sym (at_device q device _ _ _ (get_put m device tick q) same))
      (λ other. (λ i. either (elsewhere q device _ _ _ (puts q) other i) (elsewhere q device _ _ _ (takes q) other i)) ∙ sym (get_part near far m q is) ∙ sym (elsewhere q device _ _ _ (get_put m device tick q) other))
      (cases_eq q device)),
)

-- ---- a device of the first map is taken out, and one of the second
pub near_loses : (base : ℕ) (near far near' m : Ticks) (device : ℕ) → IsSplit base near far → joined near far ≡ m → map.get far device ≡ None → Takes near near' device →
    IsSplit base near' far × (joined near' far ≡ map.remove m device)
near_loses base near far near' m device split is free takes = (
  record {
    within = within_take base near near' device split.within takes;
    apart = λ q some. ⊎_elim (λ same. ap (map.get far) same ∙ free) (λ other. split.apart q (subst IsSome (elsewhere q device _ _ _ (takes q) other) some)) (cases_eq q device);
  },
  joined_is near' far (map.remove m device) (λ q. ⊎_elim
      (λ same. either_none (map.get near' q) (map.get far q) (at_device q device _ _ _ (takes q) same) ∙ ap (map.get far) same ∙ free ∙ sym (at_device q device _ _ _ (get_taken m device q) same))
      (λ other. ap (λ o. either o (map.get far q)) (elsewhere q device _ _ _ (takes q) other) ∙ sym (get_part near far m q is) ∙ sym (elsewhere q device _ _ _ (get_taken m device q) other))
      (cases_eq q device)),
)

pub far_loses : (base : ℕ) (near far far' m : Ticks) (device : ℕ) → IsSplit base near far → joined near far ≡ m → map.get near device ≡ None → Takes far far' device →
    IsSplit base near far' × (joined near far' ≡ map.remove m device)
far_loses base near far far' m device split is free takes = (
  record {
    within = split.within;
    apart = λ q some. ⊎_elim
        (λ same. absurd (not_some (map.get near q) (ap (map.get near) same ∙ free) some))
        (λ other. elsewhere q device _ _ _ (takes q) other ∙ split.apart q some)
        (cases_eq q device);
  },
  joined_is near far' (map.remove m device) (λ q. ⊎_elim
      (λ same. either_none (map.get near q) (map.get far' q) (ap (map.get near) same ∙ free) ∙ at_device q device _ _ _ (takes q) same ∙ sym (at_device q device _ _ _ (get_taken m device q) same))
      (λ other. ap (either (map.get near q)) (elsewhere q device _ _ _ (takes q) other) ∙ sym (get_part near far m q is) ∙ sym (elsewhere q device _ _ _ (get_taken m device q) other))
      (cases_eq q device)),
)

first_none : (x y : Option ℕ) → either x y ≡ None → x ≡ None
first_none None y is = refl
first_none (Some t) y is = is

-- what holds after a call that did or did not succeed
pub tried : {T E A B P : Type 0} (r : Result T E) → OnOk r A → OnErr r B → (A → P) → (B → P) → P
tried (Ok x) a b good bad = good a
tried (Err e) a b good bad = bad b

-- ---- the parts of what a device has
pub free_near : (near far m : Ticks) (device : ℕ) → joined near far ≡ m → map.get m device ≡ None → map.get near device ≡ None
free_near near far m device is none = first_none (map.get near device) (map.get far device) (sym (get_part near far m device is) ∙ none)

pub free_far : (near far m : Ticks) (device : ℕ) → joined near far ≡ m → map.get m device ≡ None → map.get far device ≡ None
free_far near far m device is none =
    sym (either_none (map.get near device) (map.get far device) (free_near near far m device is none)) ∙ sym (get_part near far m device is) ∙ none

pub waits_far : (near far m : Ticks) (device : ℕ) → joined near far ≡ m → IsSome (map.get m device) → map.get near device ≡ None → IsSome (map.get far device)
waits_far near far m device is some none = subst IsSome (get_part near far m device is ∙ either_none (map.get near device) (map.get far device) none) some

-- ---- no devices
nothing : (o : Option ℕ) (t : ℕ) → o ≡ None → o ≡ Some t → ⊥
nothing o t none some = cc

pub split_empty : (base : ℕ) (near far : Ticks) → near ≡ map.empty → ((device : ℕ) → IsSome (map.get near device) → map.get far device ≡ None) → IsSplit base near far
split_empty base near far is apart = record {
  within = λ q u h. absurd (nothing (map.get near q) u (ap (λ m. map.get m q) is ∙ get-empty nat_cmp q) h);
  apart = apart;
}

pub joined_empty : (near far : Ticks) → near ≡ map.empty → far ≡ map.empty → joined near far ≡ map.empty
joined_empty near far is_near is_far = joined_is near far map.empty (λ q.
    either_none (map.get near q) (map.get far q) (ap (λ m. map.get m q) is_near ∙ get-empty nat_cmp q) ∙ ap (λ m. map.get m q) is_far)

-- ---- the first tick of both
either_cases : (x y : Option ℕ) (t : ℕ) → either x y ≡ Some t → (x ≡ Some t) ⊎ (y ≡ Some t)
either_cases None y t is = inr is
either_cases (Some u) y t is = inl is

either_some : (x y : Option ℕ) (t : ℕ) → x ≡ Some t → either x y ≡ Some t
either_some x y t is = ap (λ o. either o y) is

either_second : (x y : Option ℕ) (t : ℕ) → (IsSome x → y ≡ None) → y ≡ Some t → either x y ≡ Some t
either_second None y t apart is = is
either_second (Some u) y t apart is = absurd (nothing y t (apart refl) is)

first_of_both : (near far : Ticks) (t : ℕ) → (device : ℕ) × (map.get (joined near far) device ≡ Some t) → ((d u : ℕ) → map.get near d ≡ Some u → t ≤ u) → ((d u : ℕ) → map.get far d ≡ Some u → t ≤ u) →
    (m : Ticks) → joined near far ≡ m → IsFirst m t
first_of_both near far t some low high m is = subst (λ n. IsFirst n t) is (record {
  waits = some;
  least = λ d u h. elim (either_cases (map.get near d) (map.get far d) u (sym (get-joined near far d) ∙ h)) [ inl e ↦ low d u e | inr e ↦ high d u e ];
})

near_waits : (base : ℕ) (near far : Ticks) (t : ℕ) → IsSplit base near far → IsFirst near t → (device : ℕ) × (map.get (joined near far) device ≡ Some t)
near_waits base near far t split first = (first.waits.0, get-joined near far first.waits.0 ∙ either_some (map.get near first.waits.0) (map.get far first.waits.0) t first.waits.1)

far_waits : (base : ℕ) (near far : Ticks) (t : ℕ) → IsSplit base near far → IsFirst far t → (device : ℕ) × (map.get (joined near far) device ≡ Some t)
far_waits base near far t split first =
    (first.waits.0, get-joined near far first.waits.0 ∙ either_second (map.get near first.waits.0) (map.get far first.waits.0) t (split.apart first.waits.0) first.waits.1)

none_waits : (m : Ticks) (t : ℕ) → m ≡ map.empty → (d u : ℕ) → map.get m d ≡ Some u → t ≤ u
none_waits m t is d u h = absurd (nothing (map.get m d) u (ap (λ n. map.get n d) is ∙ get-empty nat_cmp d) h)

pub first_near : (base : ℕ) (near far m : Ticks) (t : ℕ) → IsSplit base near far → joined near far ≡ m → IsFirst near t → far ≡ map.empty → IsFirst m t
first_near base near far m t split is first none = first_of_both near far t (near_waits base near far t split first) first.least (none_waits far t none) m is

pub first_far : (base : ℕ) (near far m : Ticks) (t : ℕ) → IsSplit base near far → joined near far ≡ m → near ≡ map.empty → IsFirst far t → IsFirst m t
first_far base near far m t split is none first = first_of_both near far t (far_waits base near far t split first) (none_waits near t none) first.least m is

pub first_both : (base : ℕ) (near far m : Ticks) (t u : ℕ) → IsSplit base near far → joined near far ≡ m → IsFirst near t → IsFirst far u → IsFirst m (min t u)
first_both base near far m t u split is first second = elim (cases_lt u t) [
  | inl l ↦ let e : min t u ≡ u = omega arith in
      subst (IsFirst m) (sym e) (first_of_both near far u (far_waits base near far u split second) (λ d v h. let low : t ≤ v = first.least d v h in omega arith) second.least m is)
  | inr g ↦ let e : min t u ≡ t = omega arith in
      subst (IsFirst m) (sym e) (first_of_both near far t (near_waits base near far t split first) first.least (λ d v h. let low : u ≤ v = second.least d v h in omega arith) m is)
]

-- ---- a device that is due is taken out
tick_from : (o : Option ℕ) (tick : ℕ) → is_tick o tick ≡ true → o ≡ Some tick
tick_from None tick h = absurd (false≢true h)
tick_from (Some t) tick h = ap Some (eqb-true t tick h)

is_tick-self : (tick : ℕ) → is_tick (Some tick) tick ≡ true
is_tick-self tick = eq-eqb tick tick refl

pub pops_near : (base : ℕ) (near far near' m : Ticks) (tick device : ℕ) → IsSplit base near far → joined near far ≡ m → (is_due near tick device ≡ true) × (near' ≡ map.remove near device) →
    IsSplit base near' far × ((is_due m tick device ≡ true) × (joined near' far ≡ map.remove m device))
pops_near base near far near' m tick device split is pops =
    let waits : map.get near device ≡ Some tick = tick_from (map.get near device) tick pops.0 in
    let lost = near_loses base near far near' m device split is (split.apart device (ap is_some waits)) (takes_from near near' device pops.1) in
    (lost.0, (ap (λ o. is_tick o tick) (get_part near far m device is ∙ either_some (map.get near device) (map.get far device) tick waits) ∙ is_tick-self tick, lost.1))

either_due : (x y : Option ℕ) (tick : ℕ) → is_tick x tick ≡ false → is_tick y tick ≡ false → is_tick (either x y) tick ≡ false
either_due None y tick first second = second
either_due (Some t) y tick first second = first

apart_back : (x y : Option ℕ) (tick : ℕ) → (IsSome x → y ≡ None) → y ≡ Some tick → x ≡ None
apart_back None y tick apart is = refl
apart_back (Some t) y tick apart is = absurd (nothing y tick (apart refl) is)

pub pops_far : (base : ℕ) (near far near' far' m : Ticks) (tick : ℕ) (r : Option ℕ) → IsSplit base near far → joined near far ≡ m →
    ((device : ℕ) → is_due near tick device ≡ false) → near' ≡ near → Pops far far' tick r → IsSplit base near' far' × Pops m (joined near' far') tick r
pops_far base near far near' far' m tick None split is none same pops = (
  (let e : IsSplit base near' far = subst (λ n. IsSplit base n far) (sym same) split in subst (IsSplit base near') (sym pops.1) e),
  ((λ d. ap (λ o. is_tick o tick) (get_part near far m d is) ∙ either_due (map.get near d) (map.get far d) tick (none d) (pops.0 d)), (λ i. joined (same i) (pops.1 i)) ∙ is),
)
pops_far base near far near' far' m tick (Some d) split is none same pops =
    let waits : map.get far d ≡ Some tick = tick_from (map.get far d) tick pops.0 in
    let free : map.get near d ≡ None = apart_back (map.get near d) (map.get far d) tick (split.apart d) waits in
    let lost = far_loses base near far far' m d split is free (takes_from far far' d pops.1) in (
      subst (λ n. IsSplit base n far') (sym same) lost.0,
      (ap (λ o. is_tick o tick) (get_part near far m d is ∙ either_none (map.get near d) (map.get far d) free ∙ waits) ∙ is_tick-self tick, ap (λ n. joined n far') same ∙ lost.1),
    )
