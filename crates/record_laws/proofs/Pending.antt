-- An edit and a commit leave every fault pending.
use Rattle.std.proofs.Common.{◌≡◌, ◌⊎◌, ℕ, suc, ◌+◌, ◌*◌, ◌^◌, ◌<◌, ◌≤◌, Bool, true, false, ◌&&◌, List, refl, sym, ap, ◌∙◌, arith, ⊎_elim, inl, inr, nat_lt, nat_le, unsigned_abs, ℤ, ◌-ℤ◌}
use Rattle.std.proofs.lemmas.Bool.{false≢true, and_parts, and_from, and_left, and_right, or_cases, or_left, or_right, cond-false, cond_both, false_from_ne_true, ltb-true, ltb-false, leb-true, le-leb, le-ltb}
use Rattle.std.proofs.lemmas.Int.{ints}
use Rattle.semantics.specs.Deck.{DeckValue}
use Rattle.semantics.specs.Edit.{IsEdit, IsNear, restarted, KeepsFree}
use Rattle.semantics.specs.Neighbours.{is_free}
use Rattle.semantics.specs.Pending.{Pending, Covers, after_edit, spliced, after_commit, Sweeps, IsBounded}
use Rattle.semantics.specs.Record.{Record, Starts, is_fault}
use Rattle.semantics.proofs.Free.{same_test}
use Rattle.record_laws.specs.Laws.{IsValidEdit, IsFar, SameBeside, IsApart, SameFault}
use Rattle.record_laws.proofs.Damage.{damages, valid_farads, HasFarads}
use Rattle.record_laws.proofs.Faults.{changes, fault_real}

-- ---- an edit

pub covers_edit : (old new : DeckValue) (v w : Record) (p : Pending) → new.stop ≡ old.stop → Covers old v p → Covers new w (after_edit new w p)
covers_edit old new v w p stop c = record {
  faults = λ n t fault. or_right (is_free new n && p n t) (is_fault new w n t) fault;
  real = λ n t h. ⊎_elim
      (λ (was : (is_free new n && p n t) ≡ true).
      let parts = and_parts (is_free new n) (p n t) was in
      and_from _ _ parts.0 (ap (nat_lt t) stop ∙ (and_parts (is_free old n) (nat_lt t old.stop) (c.real n t parts.1)).1))
      (λ (fault : is_fault new w n t ≡ true). fault_real new w n t fault)
      (or_cases (is_free new n && p n t) (is_fault new w n t) h);
}

-- what is pending of a node that is not near an edit stays
pub edit_keeps_pending : (old new : DeckValue) (keeps : List ℕ → Bool) (w : Record) (p : Pending) → HasFarads old → HasFarads new → IsEdit old new → Starts old w → KeepsFree old keeps → Covers old w p
    → (n : List ℕ) (t : ℕ) → is_free new n ≡ true → (IsNear old new n → ⊥) → after_edit new (restarted new keeps w) p n t ≡ p n t
edit_keeps_pending old new keeps w p some_old some_new e starts kept c n t free beyond = same_test _ _
    (λ h. ⊎_elim
    (λ (was : (is_free new n && p n t) ≡ true). (and_parts (is_free new n) (p n t) was).1)
    (λ (fault : is_fault new (restarted new keeps w) n t ≡ true). c.faults n t (sym (damages old new keeps w some_old some_new e starts kept n t free beyond) ∙ fault))
    (or_cases (is_free new n && p n t) (is_fault new (restarted new keeps w) n t) h))
    (λ h. or_left (is_free new n && p n t) (is_fault new (restarted new keeps w) n t) (and_from _ _ free h))

-- ---- a commit

-- a splice writes its nodes and ticks alone
pub splice_beside : (d : DeckValue) (w x : Record) (among : List ℕ → Bool) (from until : ℕ) → SameBeside d among from until w (spliced w x among from until)
splice_beside d w x among from until n t free up_to aside = sym (cond-false (among n && (nat_lt from t && nat_le t until)) (x n t) (w n t) (off aside))
  where
    off : (among n ≡ false) ⊎ ((t ≤ from) ⊎ (until < t)) → (among n && (nat_lt from t && nat_le t until)) ≡ false
    off (inl out) = and_left _ _ out
    off (inr (inl early)) = and_right (among n) _ (and_left _ _ (le-ltb from t early))
    off (inr (inr late)) = and_right (among n) _ (and_right (nat_lt from t) _ (false_from_ne_true (nat_le t until) (λ h. let under : t ≤ until = leb-true t until h in absurd (omega arith))))

pub starts_splice : (d : DeckValue) (w x : Record) (among : List ℕ → Bool) (from until : ℕ) → Starts d w → Starts d (spliced w x among from until)
starts_splice d w x among from until starts n free = sym (splice_beside d w x among from until n 0 free (omega arith) (inr (inl (omega arith)))) ∙ starts n free

pub covers_commit : (d : DeckValue) (w x : Record) (among swept : List ℕ → Bool) (from until : ℕ) (p : Pending) → Sweeps d among swept → Covers d w p
    → Covers d (spliced w x among from until) (after_commit d (spliced w x among from until) swept from until p)
covers_commit d w x among swept from until p sweeps c = record {
  faults = λ n t fault. cond_both (here n t) (is_fault d now n t) (p n t) (λ b. b ≡ true) (λ _. fault) (λ away. c.faults n t (same n t (fault_real d now n t fault) away ∙ fault));
  real = λ n t. cond_both (here n t) (is_fault d now n t) (p n t) (λ b. b ≡ true → (is_free d n && nat_lt t d.stop) ≡ true) (λ _ h. fault_real d now n t h) (λ _ h. c.real n t h);
}
  where
    now : Record
    now = spliced w x among from until

    here : List ℕ → ℕ → Bool
    here n t = swept n && ((nat_le from t && nat_le t until) && nat_lt t d.stop)

    -- what is not swept has no other faults than before
    same : (n : List ℕ) (t : ℕ) → (is_free d n && nat_lt t d.stop) ≡ true → here n t ≡ false → SameFault d w now n t
    same n t real away = changes d among from until w now (splice_beside d w x among from until) n t (place (nat_lt t from) refl (nat_lt until t) refl)
      where
        free : is_free d n ≡ true
        free = (and_parts (is_free d n) (nat_lt t d.stop) real).0

        place : (a : Bool) → nat_lt t from ≡ a → (b : Bool) → nat_lt until t ≡ b → (t < from) ⊎ ((until < t) ⊎ IsApart d among n)
        place true early b is = inl (ltb-true t from early)
        place false from_on true late = inr (inl (ltb-true until t late))
        place false from_on false up_to =
            let inside : ((nat_le from t && nat_le t until) && nat_lt t d.stop) ≡ true =
            and_from _ _ (and_from _ _ (le-leb from t (ltb-false t from from_on)) (le-leb t until (ltb-false until t up_to))) (and_parts (is_free d n) (nat_lt t d.stop) real).1 in
            let unswept : swept n ≡ true → ⊥ = λ s. false≢true (sym away ∙ and_from _ _ s inside) in
            inr (inr (record {
              outside = false_from_ne_true (among n) (λ a. unswept (sweeps.written n free a));
              unjoined = λ m free' near. false_from_ne_true (among m) (λ a. unswept (sweeps.beside n m free free' a near));
            }))

-- a bounded record takes steps that fit
pub steps_fit : (d : DeckValue) (keeps : List ℕ → Bool) (w : Record) (n : List ℕ) (t : ℕ) → d.stop ≤ 10 ^ 10 → IsBounded d keeps w → keeps n ≡ true → t < d.stop → unsigned_abs ((w n (suc t)).num -ℤ (w n t).num) ≤ 10 ^ 26
steps_fit d keeps w n t stop bounded kept below =
    apart (w n (suc t)).num (w n t).num t (bounded n (suc t) kept (omega arith)).num (bounded n t kept (omega arith)).num (omega arith)
  where
    apart : (a b : ℤ) (s : ℕ) → unsigned_abs a ≤ 10 ^ 21 + 10 ^ 15 * suc s → unsigned_abs b ≤ 10 ^ 21 + 10 ^ 15 * s → suc s ≤ 10 ^ 10 → unsigned_abs (a -ℤ b) ≤ 10 ^ 26
    apart a b s x y z = omega (arith, ints, x, y, z)

-- of valid decks
pub edit_keeps_valid : (old new : DeckValue) (keeps : List ℕ → Bool) (w : Record) (p : Pending) → IsValidEdit old new → Starts old w → KeepsFree old keeps → Covers old w p
    → (n : List ℕ) (t : ℕ) → IsFar old new n → after_edit new (restarted new keeps w) p n t ≡ p n t
edit_keeps_valid old new keeps w p e starts kept c n t far = edit_keeps_pending old new keeps w p (valid_farads old e.old_valid) (valid_farads new e.new_valid) e.edit starts kept c n t far.free far.beyond
