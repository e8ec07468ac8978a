-- What waits in a queue, and what is taken.
use Rattle.std.proofs.Common.{◌≡◌, ◌≢◌, ℕ, zero, suc, ◌+◌, ◌<◌, ◌≤◌, Bool, true, false, cond, eqb, not, List, [], length, Option, Some, None, min, refl, sym, ap, ◌∙◌, arith, ⊎_elim, inl, inr, ◌⊎◌}
use Rattle.std.specs.List.{Contains}
use Rattle.std.specs.Ordering.{nat_cmp, eq_by_cmp}
use Rattle.std.specs.Cmp.{nat_cmp_total, unsigned_tied, eq_by_cmp_equiv}
use Rattle.std.specs.FinMap as map
use Rattle.std.specs.FinMap.{get-insert, get-remove, get-empty}
use Rattle.std.specs.Prelude.{IfNone, IfSome, All}
use Rattle.std.proofs.lemmas.Bool.{cases_eq, eq-eqb, ne_eqb, false≢true, eqb-true}
use Rattle.std.proofs.lemmas.List.Elements.{Contains-get_or}
use Rattle.std.proofs.lemmas.Map.Views.{length-le_from_below, list_any-from_Contains, Contains-from_any}
use Rattle.event_order.specs.Ticks.{Ticks, is_tick, is_due, due, without, IsFirst}
use Rattle.event_order.proofs.Rising.{get-without, due_has, due_sorted}
use Rattle.window_run.specs.Net.{Net}
use Rattle.window_run.specs.Stage.{AreInside, AreLater, Before, IsFrontier, OnlyDriven, Takes, Waits, waiting}

-- ---- ticks

value : Option ℕ → ℕ → ℕ
value None d = d
value (Some t) d = t

pub same_tick : (t d : ℕ) → ◌≡◌ {A = Option ℕ} (Some t) (Some d) → t ≡ d
unfolding value
same_tick t d e = ap (λ o. value o 0) e

pub no_tick : (d : ℕ) → ◌≡◌ {A = Option ℕ} None (Some d) → ⊥
unfolding value
no_tick d e = let f : suc d ≡ d = ap (λ o. value o (suc d)) e in omega (arith, f)

pub some_later : (now t : ℕ) → now < t → Before now (Some t)
some_later now t h = λ d e. let f = same_tick t d e in omega (arith, h, f)

pub split : (a b : ℕ) → (a < b) ⊎ (b ≤ a)
split zero zero = inr (omega arith)
split zero (suc b) = inl (omega arith)
split (suc a) zero = inr (omega arith)
split (suc a) (suc b) = ⊎_elim (λ (h : a < b). inl (omega (arith, h))) (λ (h : b ≤ a). inr (omega (arith, h))) (split a b)

-- ---- one waits for a new tick

-- the queue after one waits for another tick
abbrev pub Scheduled : Ticks → Ticks → ℕ → Option ℕ → Type 0
Scheduled old new k tick = (j : ℕ) → map.get new j ≡ cond (eqb j k) tick (map.get old j)

pub inserted : (m new : Ticks) (k d : ℕ) → new ≡ map.insert m k d → Scheduled m new k (Some d)
inserted m new k d is i = ap (λ (x : Ticks). map.get x i) is ∙ get-insert nat_cmp_total m k d i ∙ ap (λ b. cond b (Some d) (map.get m i)) (unsigned_tied i k)

pub removed : (m new : Ticks) (k : ℕ) → new ≡ map.remove m k → Scheduled m new k None
removed m new k is i = ap (λ (x : Ticks). map.get x i) is ∙ get-remove nat_cmp_total m k i ∙ ap (λ b. cond b None (map.get m i)) (unsigned_tied i k)

-- what did not wait still does not
pub untouched : (m : Ticks) (k : ℕ) → map.get m k ≡ None → Scheduled m m k None
untouched m k none i = ⊎_elim (λ (e : i ≡ k). rw (eq-eqb i k e, e) none) (λ n. rw (ne_eqb i k n) refl) (cases_eq i k)

pub scheduled_there : (old new : Ticks) (k : ℕ) (tick : Option ℕ) → Scheduled old new k tick → map.get new k ≡ tick
scheduled_there old new k tick is = is k ∙ rw (eq-eqb k k refl) refl

pub scheduled_other : (old new : Ticks) (k i : ℕ) (tick : Option ℕ) → Scheduled old new k tick → i ≢ k → map.get new i ≡ map.get old i
scheduled_other old new k i tick is n = is i ∙ rw (ne_eqb i k n) refl

-- a property of each tick that waits, which the new one has too
each : (P : ℕ → ℕ → Type 0) (old new : Ticks) (k : ℕ) (tick : Option ℕ) → Scheduled old new k tick → ((d : ℕ) → tick ≡ Some d → P k d) → ((i d : ℕ) → map.get old i ≡ Some d → P i d) → (i d : ℕ) → map.get new i ≡ Some d → P i d
each P old new k tick is here there i d e = ⊎_elim
    (λ (s : i ≡ k). rw s (here d (sym (scheduled_there old new k tick is) ∙ ap (λ j. map.get new j) (sym s) ∙ e)))
    (λ (n : i ≢ k). there i d (sym (scheduled_other old new k i tick is n) ∙ e))
    (cases_eq i k)

pub later_more : (old new : Ticks) (now k : ℕ) (tick : Option ℕ) → Scheduled old new k tick → Before now tick → AreLater old now → AreLater new now
later_more old new now k tick is later all = each (λ i d. now < d) old new k tick is later all

pub inside_more : (old new : Ticks) (count k : ℕ) (tick : Option ℕ) → Scheduled old new k tick → k < count → AreInside count old → AreInside count new
inside_more old new count k tick is below all = each (λ i d. i < count) old new k tick is (λ d e. below) all

pub driven_more : (net : Net) (old new : Ticks) (k : ℕ) (tick : Option ℕ) → Scheduled old new k tick → k < net.nodes → net.driven k ≡ true → OnlyDriven net old → OnlyDriven net new
driven_more net old new k tick is below driven all = each (λ i d. (i < net.nodes) × (net.driven i ≡ true)) old new k tick is (λ d e. (below, driven)) all

-- ---- what is taken

tick_is : (o : Option ℕ) (t : ℕ) → is_tick o t ≡ true → o ≡ Some t
tick_is None t h = absurd (false≢true h)
tick_is (Some d) t h = ap Some (eqb-true d t h)

tied : (a b : ℕ) → eq_by_cmp nat_cmp a b ≡ true → a ≡ b
tied a b h = eqb-true a b (sym (unsigned_tied a b) ∙ h)

in_due : (m : Ticks) (tick q : ℕ) → Contains (due m tick) q → map.get m q ≡ Some tick
in_due m tick q has = tick_is (map.get m q) tick (sym (due_has m tick q) ∙ list_any-from_Contains (eq_by_cmp_equiv nat_cmp_total) q (due m tick) has)

due_has_it : (m : Ticks) (tick q : ℕ) → map.get m q ≡ Some tick → Contains (due m tick) q
due_has_it m tick q is = Contains-from_any tied q (due m tick) (due_has m tick q ∙ ap (λ o. is_tick o tick) is ∙ eq-eqb tick tick refl)

pub all_of : (P : ℕ → Type 0) (xs : List ℕ) → ((k : ℕ) → Contains xs k → P k) → All P xs
all_of P xs h = λ j e below. h _ (Contains-get_or xs j e below)

pub room : (m : Ticks) (count tick : ℕ) → AreInside count m → length (due m tick) ≤ count
room m count tick inside = length-le_from_below count (due m tick) (due_sorted m tick) (all_of (λ k. k < count) (due m tick) (λ x has. inside x tick (in_due m tick x has)))

without_waiting : (o : Option ℕ) (t : ℕ) → cond (not (is_tick o t)) o None ≡ waiting t o
without_waiting None t = refl
without_waiting (Some d) t = elim (eqb d t) as (λ b. cond (not b) (Some d) None ≡ cond b None (Some d)) [ true ↦ refl | false ↦ refl ]

pub taken : (m new : Ticks) (tick : ℕ) (out : List ℕ) → out ≡ due m tick → new ≡ without m tick → Takes tick m new out
taken m new tick out list rest = record {
  rest = λ k. ap (λ (x : Ticks). map.get x k) rest ∙ get-without m tick k ∙ without_waiting (map.get m k) tick;
  only = λ k has. in_due m tick k (rw list at has);
  all = λ k is. rw list (due_has_it m tick k is);
}

-- what still waits, waited
pub still : (now : ℕ) (old new : Ticks) (out : List ℕ) → Takes now old new out → (k d : ℕ) → map.get new k ≡ Some d → (map.get old k ≡ Some d) × (d ≢ now)
still now old new out takes k d e = by (map.get old k) refl (sym (takes.rest k) ∙ e)
  where
    by : (o : Option ℕ) → map.get old k ≡ o → waiting now (map.get old k) ≡ Some d → (map.get old k ≡ Some d) × (d ≢ now)
    by None is f = absurd (no_tick d (sym (ap (waiting now) is) ∙ f))
    by (Some t) is f = ⊎_elim
        (λ (s : t ≡ now). absurd (no_tick d (sym (ap (waiting now) is ∙ rw (eq-eqb t now s) refl) ∙ f)))
        (λ (n : t ≢ now). let g : t ≡ d = same_tick t d (sym (ap (waiting now) is ∙ rw (ne_eqb t now n) refl) ∙ f) in (is ∙ ap Some g, λ (s : d ≡ now). n (g ∙ s)))
        (cases_eq t now)

-- what was not taken waits as before
pub not_taken : (now : ℕ) (old new : Ticks) (out : List ℕ) → Takes now old new out → (k : ℕ) → (map.get new k ≡ map.get old k) ⊎ Contains out k
not_taken now old new out takes k = by (map.get old k) refl
  where
    by : (o : Option ℕ) → map.get old k ≡ o → (map.get new k ≡ map.get old k) ⊎ Contains out k
    by None is = inl (takes.rest k ∙ ap (waiting now) is ∙ sym is)
    by (Some t) is = ⊎_elim
        (λ (s : t ≡ now). inr (takes.all k (is ∙ ap Some s)))
        (λ (n : t ≢ now). inl (takes.rest k ∙ ap (waiting now) is ∙ rw (ne_eqb t now n) refl ∙ sym is))
        (cases_eq t now)

pub later_taken : (now : ℕ) (old new : Ticks) (out : List ℕ) → Takes now old new out → IsFrontier old now → AreLater new now
later_taken now old new out takes frontier = λ k d e. let s = still now old new out takes k d e in let h = frontier k d s.0 in let n = s.1 in omega (arith, h, n)

pub inside_taken : (count now : ℕ) (old new : Ticks) (out : List ℕ) → Takes now old new out → AreInside count old → AreInside count new
inside_taken count now old new out takes inside = λ k d e. inside k d (still now old new out takes k d e).0

pub driven_taken : (net : Net) (now : ℕ) (old new : Ticks) (out : List ℕ) → Takes now old new out → OnlyDriven net old → OnlyDriven net new
driven_taken net now old new out takes only = λ k d e. only k d (still now old new out takes k d e).0

-- ---- the first tick

pub first_before : (m : Ticks) (o : Option ℕ) → IfNone o (m ≡ map.empty) → IfSome o (IsFirst m) → (k s : ℕ) → Before s o → Before s (map.get m k)
first_before m None none some = λ k s early d e. absurd (no_tick d (sym (ap (λ (x : Ticks). map.get x k) none ∙ get-empty nat_cmp k) ∙ e))
first_before m (Some t) none some = λ k s early d e. let at = early t refl in let least = some.least k d e in omega (arith, at, least)

pub first_waits : (m : Ticks) (o : Option ℕ) (t : ℕ) → IfSome o (IsFirst m) → o ≡ Some t → Waits m t
first_waits m None t some e = absurd (no_tick t e)
first_waits m (Some d) t some e = (some.waits.0, some.waits.1 ∙ e)

pub none_wait : (P : ℕ → ℕ → Type 0) (m : Ticks) → m ≡ map.empty → (k d : ℕ) → map.get m k ≡ Some d → P k d
none_wait P m empty k d e = absurd (no_tick d (sym (ap (λ (x : Ticks). map.get x k) empty ∙ get-empty nat_cmp k) ∙ e))

pub none_there : (m : Ticks) → m ≡ map.empty → (k : ℕ) → map.get m k ≡ None
none_there m empty k = ap (λ (x : Ticks). map.get x k) empty ∙ get-empty nat_cmp k

pub inside_of : (count n : ℕ) (m : Ticks) → count ≡ n → AreInside count m → AreInside n m
inside_of count n m e inside = λ k d is. let h = inside k d is in omega (arith, h, e)

-- the lesser of first ticks
pub frontier_first : (m : Ticks) (o all : Option ℕ) (tick answer end : ℕ) → IfNone o (m ≡ map.empty) → IfSome o (IsFirst m) → ((s : ℕ) → Before s all → Before s o) → all ≡ Some tick → answer ≡ min tick end → IsFrontier m answer
frontier_first m o all zero answer end none some both is e = λ k d f. omega (arith, e)
frontier_first m o all (suc n) answer end none some both is e = λ k d f.
    let h = first_before m o none some k n (both n (λ t g. let same = same_tick (suc n) t (sym is ∙ g) in omega (arith, same))) d f in omega (arith, h, e)

pub frontier_none : (m : Ticks) (o all : Option ℕ) (end : ℕ) → IfNone o (m ≡ map.empty) → IfSome o (IsFirst m) → ((s : ℕ) → Before s all → Before s o) → all ≡ None → IsFrontier m end
frontier_none m o all end none some both is = λ k d f. let h = first_before m o none some k d (both d (λ t g. absurd (no_tick t (sym is ∙ g)))) d f in omega (arith, h)
