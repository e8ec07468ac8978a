-- Devices at their spots: what the changes of lists and spots keep.
use Rattle.std.proofs.Common.{◌≡◌, ◌≢◌, ℕ, ◌+◌, ◌-◌, ◌%◌, ◌<◌, cond, List, [], ◌∷◌, ◌++◌, length, Option, Some, None, get_or, refl, sym, ap, subst, ◌∙◌, arith, ◌⊎◌, inl, inr, ⊎_elim}
use Rattle.std.proofs.Math.ListN.{set}
use Rattle.std.proofs.Math.Dec.{eqb}
use Rattle.std.proofs.lemmas.Bool.{eq-eqb, ne_eqb, cases_eq, cases_lt}
use Rattle.std.proofs.lemmas.List.{get_or-set_same, get_or-set_other, length-append, length-set, length-take, get_or-take, get_or_append_left}
use Rattle.std.proofs.Math.Seq.{get_or-append_seam}
use Rattle.std.proofs.lemmas.Grind.{same_number_lists}
use Rattle.std.specs.List.{swap_remove}
use Rattle.event_order.specs.declared.spot.Spot.{Spot}
use Rattle.event_order.specs.Buckets.{Holds}
use Rattle.event_order.specs.Spots.{IsPlaced}

-- ---- one list
swapped_length : (xs : List ℕ) (j : ℕ) → length (swap_remove xs j 0) ≡ length xs - 1
swapped_length xs j = rw (length-take (length xs - 1) (set xs j (get_or xs (length xs - 1) 0)), length-set xs j (get_or xs (length xs - 1) 0)) (omega arith)

swapped_read : (xs : List ℕ) (i j : ℕ) → i < length xs - 1 → get_or (swap_remove xs j 0) i 0 ≡ get_or (set xs j (get_or xs (length xs - 1) 0)) i 0
swapped_read xs i j h = get_or-take (length xs - 1) (set xs j (get_or xs (length xs - 1) 0)) i 0 h

-- what stands at an index after the last device took another's place
pub holds_swapped : (xs : List ℕ) (j i d : ℕ) → j < length xs → Holds (swap_remove xs j 0) i d →
    ((i ≡ j) × Holds xs (length xs - 1) d × (j < length xs - 1)) ⊎ ((i ≢ j) × Holds xs i d × (i < length xs - 1))
holds_swapped xs j i d inside holds =
    let short : i < length xs - 1 = subst (λ n. i < n) (swapped_length xs j) holds.0 in
    ⊎_elim
    (λ same. inl (same, (omega arith, sym (swapped_read xs i j short ∙ ap (λ k. get_or (set xs j (get_or xs (length xs - 1) 0)) k 0) same ∙ get_or-set_same xs j _ 0 inside) ∙ holds.1), omega arith))
    (λ apart. inr (apart, (omega arith, sym (swapped_read xs i j short ∙ get_or-set_other xs j i _ 0 apart) ∙ holds.1), short))
    (cases_eq i j)

pub swapped_holds : (xs : List ℕ) (j i d : ℕ) → i ≢ j → Holds xs i d → i < length xs - 1 → Holds (swap_remove xs j 0) i d
swapped_holds xs j i d apart holds short = (subst (λ n. i < n) (sym (swapped_length xs j)) short, swapped_read xs i j short ∙ get_or-set_other xs j i _ 0 apart ∙ holds.1)

pub swapped_last : (xs : List ℕ) (j d : ℕ) → j < length xs - 1 → Holds xs (length xs - 1) d → Holds (swap_remove xs j 0) j d
swapped_last xs j d short holds =
    (subst (λ n. j < n) (sym (swapped_length xs j)) short, swapped_read xs j j short ∙ get_or-set_same xs j _ 0 (omega arith) ∙ holds.1)

pub holds_pushed : (xs : List ℕ) (e i d : ℕ) → Holds (xs ++ e ∷ []) i d → Holds xs i d ⊎ ((i ≡ length xs) × (d ≡ e))
holds_pushed xs e i d holds =
    let longer : length (xs ++ e ∷ []) ≡ length xs + 1 = length-append xs (e ∷ []) in
    elim (cases_lt i (length xs)) [
      | inl l ↦ inl (l, sym (get_or_append_left xs (e ∷ []) 0 i l) ∙ holds.1)
      | inr g ↦
          let last : i ≡ length xs = omega (arith, holds.0) in
          inr (last, sym holds.1 ∙ ap (λ k. get_or (xs ++ e ∷ []) k 0) last ∙ get_or-append_seam xs e [] 0)
    ]

pub pushed_holds : (xs : List ℕ) (e i d : ℕ) → Holds xs i d → Holds (xs ++ e ∷ []) i d
pushed_holds xs e i d holds = (rw (length-append xs (e ∷ [])) (omega (arith, holds.0)), get_or_append_left xs (e ∷ []) 0 i holds.0 ∙ holds.1)

pub pushed_last : (xs : List ℕ) (e : ℕ) → Holds (xs ++ e ∷ []) (length xs) e
pushed_last xs e = (rw (length-append xs (e ∷ [])) (omega arith), get_or-append_seam xs e [] 0)

pub holds_or : (xs : List ℕ) (i d : ℕ) → Holds xs i d ⊎ (Holds xs i d → ⊥)
holds_or xs i d = elim (cases_lt i (length xs)) [
  | inl l ↦ elim (cases_eq (get_or xs i 0) d) [ inl e ↦ inl (l, e) | inr ne ↦ inr (λ h. ne h.1) ]
  | inr g ↦ inr (λ h. absurd (omega arith))
]

-- ---- all spots and lists
pub placed_same : (P Q : ℕ → Option Spot) (B C : ℕ → List ℕ) → IsPlaced P B → ((d : ℕ) → Q d ≡ P d) → ((s : ℕ) → C s ≡ B s) → IsPlaced Q C
placed_same P Q B C placed spots lists = record {
  stands = λ d spot h. subst (λ xs. Holds xs spot.index d) (sym (lists (spot.tick % 256))) (placed.stands d spot (sym (spots d) ∙ h));
  spot = λ s i d h. let at = placed.spot s i d (subst (λ xs. Holds xs i d) (lists s) h) in (at.0, spots d ∙ at.1, at.2, at.3);
}

some_spot : (a b : Spot) → Some a ≡ Some b → a ≡ b
some_spot a b e = cc

no_spot : (o : Option Spot) (a : Spot) → o ≡ None → o ≡ Some a → ⊥
no_spot o a none some = cc

pub picked : {A : Type 0} (a b : ℕ) (x y z : A) → z ≡ cond (eqb a b) x y → a ≡ b → z ≡ x
picked a b x y z is same = is ∙ ap (λ t. cond t x y) (eq-eqb a b same)

pub kept : {A : Type 0} (a b : ℕ) (x y z : A) → z ≡ cond (eqb a b) x y → a ≢ b → z ≡ y
kept a b x y z is apart = is ∙ ap (λ t. cond t x y) (ne_eqb a b apart)

-- a device is put last in a list
pub placed_put : (P Q : ℕ → Option Spot) (B C : ℕ → List ℕ) (device tick : ℕ) → IsPlaced P B → P device ≡ None →
    ((s : ℕ) → C s ≡ cond (eqb s (tick % 256)) (B (tick % 256) ++ device ∷ []) (B s)) →
    ((d : ℕ) → Q d ≡ cond (eqb d device) (Some (record { tick = tick; index = length (B (tick % 256)) })) (P d)) → IsPlaced Q C
placed_put P Q B C device tick placed free lists spots =
    let place : ℕ = tick % 256 in
    let new : Spot = record { tick = tick; index = length (B place) } in
    let longer : (s : ℕ) → s ≡ place → C s ≡ B place ++ device ∷ [] = λ s e. picked s place _ _ _ (lists s) e in
    let alike : (s : ℕ) → s ≢ place → C s ≡ B s = λ s ne. kept s place _ _ _ (lists s) ne in
    let old : (d : ℕ) → d ≢ device → Q d ≡ P d = λ d ne. kept d device _ _ _ (spots d) ne in
    let apart : (d : ℕ) (sp : Spot) → P d ≡ Some sp → d ≢ device = λ d sp is e. no_spot (P d) sp (ap P e ∙ free) is in
    record {
      stands = λ d spot h. ⊎_elim
          (λ same.
          let e : new ≡ spot = some_spot new spot (sym (picked d device _ _ _ (spots d) same) ∙ h) in
          subst (λ p. Holds (C (p.tick % 256)) p.index d) e
          (subst (λ xs. Holds xs (length (B place)) d) (sym (longer place refl)) (subst (λ x. Holds (B place ++ device ∷ []) (length (B place)) x) (sym same) (pushed_last (B place) device))))
          (λ other.
          let at : Holds (B (spot.tick % 256)) spot.index d = placed.stands d spot (sym (old d other) ∙ h) in
          ⊎_elim
          (λ here. subst (λ xs. Holds xs spot.index d) (sym (longer (spot.tick % 256) here)) (pushed_holds (B place) device spot.index d (subst (λ s. Holds (B s) spot.index d) here at)))
          (λ there. subst (λ xs. Holds xs spot.index d) (sym (alike (spot.tick % 256) there)) at)
          (cases_eq (spot.tick % 256) place))
          (cases_eq d device);
      spot = λ s i d h. ⊎_elim
          (λ here. elim (holds_pushed (B place) device i d (subst (λ xs. Holds xs i d) (longer s here) h)) [
            | inl was ↦ let at = placed.spot place i d was in (at.0, old d (apart d at.0 at.1) ∙ at.1, at.2 ∙ sym here, at.3)
            | inr last ↦ (new, picked d device _ _ _ (spots d) last.1, sym here, sym last.0)
          ])
          (λ there. let at = placed.spot s i d (subst (λ xs. Holds xs i d) (alike s there) h) in (at.0, old d (apart d at.0 at.1) ∙ at.1, at.2, at.3))
          (cases_eq s place);
    }

-- a device is taken from a list, and the last one there has its index
pub placed_left : (P R Q : ℕ → Option Spot) (B C : ℕ → List ℕ) (device : ℕ) (spot : Spot) → IsPlaced P B → P device ≡ Some spot →
    ((s : ℕ) → C s ≡ cond (eqb s (spot.tick % 256)) (swap_remove (B (spot.tick % 256)) spot.index 0) (B s)) →
    ((d : ℕ) (sp : Spot) → Holds (swap_remove (B (spot.tick % 256)) spot.index 0) spot.index d → P d ≡ Some sp → R d ≡ Some (record { tick = sp.tick; index = spot.index })) →
    ((d : ℕ) → (Holds (swap_remove (B (spot.tick % 256)) spot.index 0) spot.index d → ⊥) → R d ≡ P d) →
    ((d : ℕ) → Q d ≡ cond (eqb d device) None (R d)) → IsPlaced Q C
placed_left P R Q B C device spot placed at lists changed others spots =
    let place : ℕ = spot.tick % 256 in
    let j : ℕ = spot.index in
    let xs : List ℕ = B place in
    let last : ℕ = length xs - 1 in
    let rest : List ℕ = swap_remove xs j 0 in
    let shorter : (s : ℕ) → s ≡ place → C s ≡ rest = λ s e. picked s place _ _ _ (lists s) e in
    let alike : (s : ℕ) → s ≢ place → C s ≡ B s = λ s ne. kept s place _ _ _ (lists s) ne in
    let gone : Q device ≡ None = picked device device _ _ _ (spots device) refl in
    let other : (d : ℕ) → d ≢ device → Q d ≡ R d = λ d ne. kept d device _ _ _ (spots d) ne in
    let mine : Holds xs j device = placed.stands device spot at in
    let at_last : (d : ℕ) → Holds rest j d → Holds xs last d × (j < last) = λ d moved. elim (holds_swapped xs j j d mine.0 moved) [ inl t ↦ (t.1, t.2) | inr t ↦ absurd (t.0 refl) ] in
    let same_spot : (d : ℕ) (sp : Spot) → d ≡ device → P d ≡ Some sp → sp ≡ spot = λ d sp e is. some_spot sp spot (sym is ∙ ap P e ∙ at) in
    record {
      stands = λ d sp h.
          let ne : d ≢ device = λ e. no_spot (Q d) sp (ap Q e ∙ gone) h in
          let was : R d ≡ Some sp = sym (other d ne) ∙ h in
          elim (holds_or rest j d) [
            | inl moved ↦
                let before = placed.spot place last d (at_last d moved).0 in
                let e : record { tick = before.0.tick; index = j } ≡ sp = some_spot _ sp (sym (changed d before.0 moved before.1) ∙ was) in
                subst (λ (p : Spot). Holds (C (p.tick % 256)) p.index d) e (subst (λ ys. Holds ys j d) (sym (shorter (before.0.tick % 256) before.2)) moved)
            | inr still ↦
                let stands : Holds (B (sp.tick % 256)) sp.index d = placed.stands d sp (sym (others d still) ∙ was) in
                ⊎_elim
                (λ here.
                let holds : Holds xs sp.index d = subst (λ s. Holds (B s) sp.index d) here stands in
                let apart : sp.index ≢ j = λ e. ne (sym holds.1 ∙ ap (λ k. get_or xs k 0) e ∙ mine.1) in
                let short : sp.index < last = elim (cases_lt sp.index last) [
                  | inl l ↦ l
                  | inr g ↦
                      let end : sp.index ≡ last = omega (arith, holds.0, mine.0) in
                      absurd (still (swapped_last xs j d (omega (arith, mine.0)) (subst (λ k. Holds xs k d) end holds)))
                ] in
                subst (λ ys. Holds ys sp.index d) (sym (shorter (sp.tick % 256) here)) (swapped_holds xs j sp.index d apart holds short))
                (λ there. subst (λ ys. Holds ys sp.index d) (sym (alike (sp.tick % 256) there)) stands)
                (cases_eq (sp.tick % 256) place)
          ];
      spot = λ s i d h. ⊎_elim
          (λ here.
          let holds : Holds rest i d = subst (λ ys. Holds ys i d) (shorter s here) h in
          elim (holds_swapped xs j i d mine.0 holds) [
            | inl moved ↦
                let before = placed.spot place last d moved.1 in
                let ne : d ≢ device = λ e. absurd (let same : last ≡ j = sym before.3 ∙ ap (λ (p : Spot). p.index) (same_spot d before.0 e before.1) in omega (arith, moved.2)) in
                (record { tick = before.0.tick; index = j }, other d ne ∙ changed d before.0 (subst (λ k. Holds rest k d) moved.0 holds) before.1, before.2 ∙ sym here, sym moved.0)
            | inr still ↦
                let before = placed.spot place i d still.1 in
                let ne : d ≢ device = λ e. still.0 (sym before.3 ∙ ap (λ (p : Spot). p.index) (same_spot d before.0 e before.1)) in
                let not_moved : Holds rest j d → ⊥ = λ moved.
                let end = placed.spot place last d (at_last d moved).0 in
                let same : i ≡ last = sym before.3 ∙ ap (λ (p : Spot). p.index) (some_spot before.0 end.0 (sym before.1 ∙ end.1)) ∙ end.3 in
                absurd (omega (arith, still.2)) in
                (before.0, other d ne ∙ others d not_moved ∙ before.1, before.2 ∙ sym here, before.3)
          ])
          (λ there.
          let before = placed.spot s i d (subst (λ ys. Holds ys i d) (alike s there) h) in
          let ne : d ≢ device = λ e. there (sym before.2 ∙ ap (λ (p : Spot). p.tick % 256) (same_spot d before.0 e before.1)) in
          let not_moved : Holds rest j d → ⊥ = λ moved.
          let end = placed.spot place last d (at_last d moved).0 in
          there (sym before.2 ∙ ap (λ (p : Spot). p.tick % 256) (some_spot before.0 end.0 (sym before.1 ∙ end.1)) ∙ end.2) in
          (before.0, other d ne ∙ others d not_moved ∙ before.1, before.2, before.3))
          (cases_eq s place);
    }

-- a device waits for another tick of its place
pub placed_again : (P Q : ℕ → Option Spot) (B : ℕ → List ℕ) (device tick : ℕ) (spot : Spot) → IsPlaced P B → P device ≡ Some spot → tick % 256 ≡ spot.tick % 256 →
    ((d : ℕ) → Q d ≡ cond (eqb d device) (Some (record { tick = tick; index = spot.index })) (P d)) → IsPlaced Q B
placed_again P Q B device tick spot placed at same spots =
    let new : Spot = record { tick = tick; index = spot.index } in
    record {
      stands = λ d sp h. ⊎_elim
          (λ e.
          let is : new ≡ sp = some_spot new sp (sym (picked d device _ _ _ (spots d) e) ∙ h) in
          subst (λ p. Holds (B (p.tick % 256)) p.index d) is
          (subst (λ s. Holds (B s) spot.index d) (sym same) (subst (λ x. Holds (B (spot.tick % 256)) spot.index x) (sym e) (placed.stands device spot at))))
          (λ ne. placed.stands d sp (sym (kept d device _ _ _ (spots d) ne) ∙ h))
          (cases_eq d device);
      spot = λ s i d h.
          let was = placed.spot s i d h in
          ⊎_elim
          (λ e.
          let is : was.0 ≡ spot = some_spot was.0 spot (sym was.1 ∙ ap P e ∙ at) in
          (new, picked d device _ _ _ (spots d) e, same ∙ ap (λ (p : Spot). p.tick % 256) (sym is) ∙ was.2, ap (λ (p : Spot). p.index) (sym is) ∙ was.3))
          (λ ne. (was.0, kept d device _ _ _ (spots d) ne ∙ was.1, was.2, was.3))
          (cases_eq d device);
    }

-- to take out the last device is to leave the others
pub swap_last : (ys : List ℕ) (d : ℕ) → swap_remove (ys ++ d ∷ []) (length ys) 0 ≡ ys
swap_last ys d =
    let longer : length (ys ++ d ∷ []) ≡ length ys + 1 = length-append ys (d ∷ []) in
    same_number_lists (swap_remove (ys ++ d ∷ []) (length ys) 0) ys (swapped_length (ys ++ d ∷ []) (length ys) ∙ omega arith) (λ k h.
    let inside : k < length ys = subst (λ n. k < n) (swapped_length (ys ++ d ∷ []) (length ys) ∙ omega arith) h in
    let apart : k ≢ length ys = omega arith in
    swapped_read (ys ++ d ∷ []) k (length ys) (omega arith) ∙ get_or-set_other (ys ++ d ∷ []) (length ys) k _ 0 apart ∙ get_or_append_left ys (d ∷ []) 0 k inside)
