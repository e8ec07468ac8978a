-- The ordered pairs beside a table of ticks.
use Rattle.std.proofs.Common.{◌≡◌, ◌≢◌, ℕ, ◌<◌, ◌≤◌, Bool, true, false, cond, ◌&&◌, List, [], ◌∷◌, length, Option, Some, None, refl, sym, ap, subst, ◌∙◌, arith, inl, inr, ⊎_elim, Less, Equal, Greater}
use Rattle.std.proofs.Math.Dec.{eqb}
use Rattle.std.proofs.Math.ListN.{set}
use Rattle.std.proofs.lemmas.Bool.{true≢false, false≢true, eqb-true, eq-eqb, ne_eqb, cases_eq, cases_lt, false_from_ne_true}
use Rattle.std.proofs.lemmas.Bool.Decides.{nat_tests}
use Rattle.std.specs.Ordering.{nat_cmp, ordering_then, is_gt}
use Rattle.std.specs.List.{list_any}
use Rattle.std.specs.Option.{IsSome, is_some}
use Rattle.std.specs.FinMap as map
use Rattle.std.specs.FinMap.{get-empty, same_map, nat_cmp-IsAntisymmetric}
use Rattle.std.specs.Cmp.{nat_cmp_is, nat_cmp_total, unsigned_tied, tied_then}
use Rattle.std.specs.BTreeMap.{is_at}
use Rattle.std.specs.BTreeSet.{BTreeSet, contains, IsLowerBound, IsKeyRangeOf}
use Rattle.std.specs.declared.ops.Bound.TheVariants.{Included, Unbounded}
use Rattle.event_order.specs.Ticks.{Ticks, IsFirst, is_due, is_tick, by_tick}
use Rattle.event_order.specs.Tables.{tick_at, ticks_of, HasAll, SameAt}
use Rattle.event_order.proofs.Tables.{tick_at-set, get-ticks_of}

-- the order tells all pairs apart
pub same_pair : (p q : ℕ × ℕ) → is_at (by_tick p) q ≡ (eqb p.0 q.0 && eqb p.1 q.1)
same_pair p q = sym (tied_then (nat_cmp p.0 q.0) (nat_cmp p.1 q.1)) ∙ (λ i. unsigned_tied p.0 q.0 i && unsigned_tied p.1 q.1 i)

-- what a change of one pair leaves
abbrev pub Changed : BTreeSet (ℕ × ℕ) → BTreeSet (ℕ × ℕ) → ℕ × ℕ → Bool → Type 0
Changed old new p there = (q : ℕ × ℕ) → contains by_tick new q ≡ cond (is_at (by_tick p) q) there (contains by_tick old q)

with_true : (b : Bool) → cond (b && true) true false ≡ b
with_true true = refl
with_true false = refl

with_false : (b : Bool) → cond (b && true) false b ≡ false
with_false true = refl
with_false false = refl

without : (b c there : Bool) → cond (b && false) c there ≡ there
without true c there = refl
without false c there = refl

pub HasAll-same : (order : BTreeSet (ℕ × ℕ)) (xs ys : List (Option ℕ)) → SameAt xs ys → HasAll order xs → HasAll order ys
HasAll-same order xs ys same all p = all p ∙ ap (λ x. is_tick x p.0) (sym (same p.1))

put_one : (t u d e : ℕ) (b : Bool) (x : Option ℕ) → b ≡ is_tick x u → (d ≡ e → x ≡ None) → cond (eqb t u && eqb d e) true b ≡ is_tick (cond (eqb e d) (Some t) x) u
put_one t u d e b x is none = ⊎_elim
    (λ same. rw (is, none same, eq-eqb d e same, eq-eqb e d (sym same)) (with_true (eqb t u)))
    (λ ne. rw (is, ne_eqb d e ne, ne_eqb e d (λ s. ne (sym s))) (without (eqb t u) true (is_tick x u)))
    (cases_eq d e)

pub HasAll-put : (old new : BTreeSet (ℕ × ℕ)) (xs : List (Option ℕ)) (tick device : ℕ) →
    HasAll old xs → Changed old new (tick, device) true → tick_at xs device ≡ None → device < length xs → HasAll new (set xs device (Some tick))
HasAll-put old new xs tick device all changed none h q =
    rw (changed q, same_pair (tick, device) q, tick_at-set xs device q.1 (Some tick) h) (put_one tick q.0 device q.1 _ _ (all q) (λ e. ap (tick_at xs) (sym e) ∙ none))

take_one : (t u d e : ℕ) (b : Bool) (x : Option ℕ) → b ≡ is_tick x u → (d ≡ e → x ≡ Some t) → cond (eqb t u && eqb d e) false b ≡ is_tick (cond (eqb e d) None x) u
take_one t u d e b x is some = ⊎_elim
    (λ same. rw (is, some same, eq-eqb d e same, eq-eqb e d (sym same)) (with_false (eqb t u)))
    (λ ne. rw (is, ne_eqb d e ne, ne_eqb e d (λ s. ne (sym s))) (without (eqb t u) false (is_tick x u)))
    (cases_eq d e)

pub HasAll-take : (old new : BTreeSet (ℕ × ℕ)) (xs : List (Option ℕ)) (tick device : ℕ) →
    HasAll old xs → Changed old new (tick, device) false → tick_at xs device ≡ Some tick → device < length xs → HasAll new (set xs device None)
HasAll-take old new xs tick device all changed some h q =
    rw (changed q, same_pair (tick, device) q, tick_at-set xs device q.1 None h) (take_one tick q.0 device q.1 _ _ (all q) (λ e. ap (tick_at xs) (sym e) ∙ some))

moved_to : (s t u : ℕ) → s ≢ t → cond (eqb s u && true) false (cond (eqb t u && true) true (eqb s u)) ≡ eqb t u
moved_to s t u other = grind (arith, nat_tests)

move_one : (s t u d e : ℕ) (b : Bool) (x : Option ℕ) → b ≡ is_tick x u → (d ≡ e → x ≡ Some s) → s ≢ t →
    cond (eqb s u && eqb d e) false (cond (eqb t u && eqb d e) true b) ≡ is_tick (cond (eqb e d) (Some t) x) u
move_one s t u d e b x is some other = ⊎_elim
    (λ same. rw (is, some same, eq-eqb d e same, eq-eqb e d (sym same)) (moved_to s t u other))
    (λ ne. rw (is, ne_eqb d e ne, ne_eqb e d (λ s. ne (sym s))) (without (eqb s u) false _ ∙ without (eqb t u) true (is_tick x u)))
    (cases_eq d e)

pub HasAll-move : (old mid new : BTreeSet (ℕ × ℕ)) (xs : List (Option ℕ)) (before tick device : ℕ) →
    HasAll old xs → Changed old mid (tick, device) true → Changed mid new (before, device) false → tick_at xs device ≡ Some before → before ≢ tick → device < length xs → HasAll new (set xs device (Some tick))
HasAll-move old mid new xs before tick device all first then some other h q =
    rw (then q, first q, same_pair (before, device) q, same_pair (tick, device) q, tick_at-set xs device q.1 (Some tick) h)
    (move_one before tick q.0 device q.1 _ _ (all q) (λ e. ap (tick_at xs) (sym e) ∙ some) other)

by_first : (a b c d : ℕ) → is_gt (ordering_then (nat_cmp a c) (nat_cmp b d)) ≡ false → a ≤ c
by_first a b c d h = elim (cases_lt c a) [
  | inl l ↦ absurd (true≢false (ap (λ o. is_gt (ordering_then o (nat_cmp b d))) (nat_cmp_is a c Greater l) ∙ h))
  | inr g ↦ g
]

by_second : (a b c d : ℕ) → is_gt (ordering_then (nat_cmp a c) (nat_cmp b d)) ≡ false → a ≡ c → b ≤ d
by_second a b c d h same = elim (cases_lt d b) [
  | inl l ↦ absurd (true≢false (ap is_gt (nat_cmp_is b d Greater l) ∙ ap (λ o. is_gt (ordering_then o (nat_cmp b d))) (nat_cmp_is a c Equal same) ∙ h))
  | inr g ↦ g
]

-- what the order of pairs says of two of them
pub le_from_order : (p q : ℕ × ℕ) → is_gt (by_tick p q) ≡ false → (p.0 ≤ q.0) × (p.0 ≡ q.0 → p.1 ≤ q.1)
le_from_order p q h = (by_first p.0 p.1 q.0 q.1 h, by_second p.0 p.1 q.0 q.1 h)

not_below : (device : ℕ) → is_gt (nat_cmp 0 device) ≡ false
not_below device = elim (cases_lt 0 device) [
  | inl l ↦ ap is_gt (sym (nat_cmp_is 0 device Less l))
  | inr g ↦ ap is_gt (sym (nat_cmp_is 0 device Equal (omega arith)))
]

pub order_from_le : (tick device : ℕ) → is_gt (by_tick (tick, 0) (tick, device)) ≡ false
order_from_le tick device =
    ap (λ o. is_gt (ordering_then o (nat_cmp 0 device))) (sym (nat_cmp_is tick tick Equal refl)) ∙ not_below device

-- a pair that is there is due
due_is : (order : BTreeSet (ℕ × ℕ)) (xs : List (Option ℕ)) (p : ℕ × ℕ) (tick : ℕ) → HasAll order xs → p.0 ≡ tick → contains by_tick order p ≡ true → is_due (ticks_of xs) tick p.1 ≡ true
due_is order xs p tick all same there = rw (get-ticks_of xs p.1, ← same) (sym (all p) ∙ there)

none_due : (order : BTreeSet (ℕ × ℕ)) (xs : List (Option ℕ)) (tick : ℕ) → HasAll order xs → ((device : ℕ) → contains by_tick order (tick, device) ≡ false) → (device : ℕ) → is_due (ticks_of xs) tick device ≡ false
none_due order xs tick all none device = rw (get-ticks_of xs device) (sym (all (tick, device)) ∙ none device)

is_tick_from : (x : Option ℕ) (tick : ℕ) → is_tick x tick ≡ true → x ≡ Some tick
is_tick_from None tick h = absurd (false≢true h)
is_tick_from (Some t) tick h = ap Some (eqb-true t tick h)

is_tick-some : (x : Option ℕ) (tick : ℕ) → x ≡ Some tick → is_tick x tick ≡ true
is_tick-some x tick is = rw is (eq-eqb tick tick refl)

none_from : (x : Option ℕ) → ((tick : ℕ) → is_tick x tick ≡ false) → x ≡ None
none_from None h = refl
none_from (Some tick) h = absurd (true≢false (sym (is_tick-some (Some tick) tick refl) ∙ h tick))

pub first_is : (order : BTreeSet (ℕ × ℕ)) (xs : List (Option ℕ)) (p : ℕ × ℕ) → HasAll order xs → contains by_tick order p ≡ true → IsLowerBound by_tick order p → IsFirst (ticks_of xs) p.0
first_is order xs p all there least = record {
  waits = (p.1, get-ticks_of xs p.1 ∙ is_tick_from _ p.0 (sym (all p) ∙ there));
  least = λ device other h.
      let at : contains by_tick order (other, device) ≡ true = all (other, device) ∙ is_tick-some (tick_at xs device) other (sym (get-ticks_of xs device) ∙ h) in
      (le_from_order p (other, device) (least (other, device) at)).0;
}

pub none_first : (order : BTreeSet (ℕ × ℕ)) (xs : List (Option ℕ)) → HasAll order xs → order.keys ≡ [] → ticks_of xs ≡ map.empty
none_first order xs all empty = same_map nat_cmp_total nat_cmp-IsAntisymmetric _ _ (λ q.
    get-ticks_of xs q ∙ none_from (tick_at xs q) (λ tick. sym (all (tick, q)) ∙ ap (λ keys. list_any (is_at (by_tick (tick, q))) keys) empty) ∙ sym (get-empty nat_cmp q))

-- the pairs from the first of a tick on
abbrev pub Since : BTreeSet (ℕ × ℕ) → ℕ → List (ℕ × ℕ) → Type 0
Since order tick r = IsKeyRangeOf by_tick (Included (tick, 0)) Unbounded order r

pub since_due : (order : BTreeSet (ℕ × ℕ)) (xs : List (Option ℕ)) (m : Ticks) (tick : ℕ) (r rest : List (ℕ × ℕ)) (p : ℕ × ℕ) →
    HasAll order xs → ticks_of xs ≡ m → Since order tick r → r ≡ p ∷ rest → p.0 ≡ tick → is_due m tick p.1 ≡ true
since_due order xs m tick r rest p all view since is same =
    let from : Since order tick (p ∷ rest) = subst (Since order tick) is since in
    subst (λ n. is_due n tick p.1 ≡ true) view (due_is order xs p tick all same from.1.1)

pub since_later : (order : BTreeSet (ℕ × ℕ)) (xs : List (Option ℕ)) (m : Ticks) (tick : ℕ) (r rest : List (ℕ × ℕ)) (p : ℕ × ℕ) →
    HasAll order xs → ticks_of xs ≡ m → Since order tick r → r ≡ p ∷ rest → p.0 ≢ tick → (device : ℕ) → is_due m tick device ≡ false
since_later order xs m tick r rest p all view since is other device =
    let from : Since order tick (p ∷ rest) = subst (Since order tick) is since in
    subst (λ n. is_due n tick device ≡ false) view (none_due order xs tick all (λ d. false_from_ne_true _ (λ there.
    let after : tick ≤ p.0 = (le_from_order (tick, 0) p from.1.0.0).0 in
    let before : p.0 ≤ tick = (le_from_order p (tick, d) (from.2 (tick, d) (order_from_le tick d, tt) there)).0 in
    other (omega arith))) device)

pub since_none : (order : BTreeSet (ℕ × ℕ)) (xs : List (Option ℕ)) (m : Ticks) (tick : ℕ) (r : List (ℕ × ℕ)) →
    HasAll order xs → ticks_of xs ≡ m → Since order tick r → r ≡ [] → (device : ℕ) → is_due m tick device ≡ false
since_none order xs m tick r all view since is device =
    subst (λ n. is_due n tick device ≡ false) view (none_due order xs tick all (λ d. since.5 is (tick, d) (order_from_le tick d, tt)) device)

no_items : {X : Type 0} (xs : List X) → length xs ≡ 0 → xs ≡ []
no_items [] h = refl
no_items (x ∷ xs) h = absurd (omega arith)

-- a search that finds nothing in what would have something
pub none_there : {A X : Type 0} (o : Option A) (xs : List X) → o ≡ None → (0 < length xs → IsSome o) → xs ≡ []
none_there o xs none some = elim (cases_lt 0 (length xs)) [
  | inl l ↦ absurd (false≢true (ap is_some (sym none) ∙ some l))
  | inr g ↦ no_items xs (omega arith)
]
