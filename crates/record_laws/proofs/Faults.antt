-- What a fault hangs on, and what two records have in common.
use Rattle.std.proofs.Common.{◌≡◌, ◌⊎◌, ℕ, suc, ◌<◌, Bool, true, false, not, ◌&&◌, ◌==◌, List, refl, sym, ap, ◌∙◌, arith, inl, inr, nat_lt, ◌+ℤ◌}
use Rattle.std.specs.Ordering.{int_eq}
use Rattle.std.proofs.lemmas.Bool.{false≢true, and_parts, and_from, and_right, not-false, not_from_true, eqb-true, eq-eqb, lt-ltb, ltb-true}
use Rattle.std.proofs.lemmas.Bool.Decides.{Decides-int_eq}
use Rattle.semantics.specs.declared.fraction.Fraction.{Fraction}
use Rattle.semantics.specs.Deck.{DeckValue, capacity}
use Rattle.semantics.specs.Neighbours.{is_free}
use Rattle.semantics.specs.Record.{Record, record_current, follows, is_fault}
use Rattle.semantics.proofs.Neighbours.{free_suffices}
use Rattle.record_laws.specs.Laws.{SameBeside, SameFault, SameBy, IsApart}

-- two records are the same at a node at a tick and the next, and at its free neighbours at the tick
pub record SameNear (d : DeckValue) (v w : Record) (n : List ℕ) (t : ℕ) : Type 0 where
  pub now : v n t ≡ w n t
  pub next : v n (suc t) ≡ w n (suc t)
  pub near : SameBy d v w t n

follows_same : (d : DeckValue) (v w : Record) (n : List ℕ) (t : ℕ) → SameNear d v w n t → follows d v n t ≡ follows d w n t
unfolding follows
follows_same d v w n t same =
    let currents : record_current d v t n ≡ record_current d w t n = free_suffices d t (λ m. v m t) (λ m. w m t) n same.near in
    λ i. ((same.now i).den == capacity d n) && (((same.next i).den == capacity d n) && int_eq (same.next i).num ((same.now i).num +ℤ currents i))

pub fault_same : (d : DeckValue) (v w : Record) (n : List ℕ) (t : ℕ) → (is_free d n ≡ true → t < d.stop → SameNear d v w n t) → SameFault d v w n t
unfolding is_fault
fault_same d v w n t same = by (is_free d n && nat_lt t d.stop) refl
  where
    by : (b : Bool) → (is_free d n && nat_lt t d.stop) ≡ b → (b && not (follows d v n t)) ≡ (b && not (follows d w n t))
    by true is =
        let parts = and_parts (is_free d n) (nat_lt t d.stop) is in
        ap not (follows_same d v w n t (same parts.0 (ltb-true t d.stop parts.1)))
    by false is = refl

-- ---- the laws of change

pub changes : (d : DeckValue) (among : List ℕ → Bool) (from until : ℕ) (v w : Record) → SameBeside d among from until v w
    → (n : List ℕ) (t : ℕ) → (t < from) ⊎ ((until < t) ⊎ IsApart d among n) → SameFault d v w n t
changes d among from until v w same n t (inl before) = fault_same d v w n t (λ free below. record {
  now = same n t free (omega arith) (inr (inl (omega arith)));
  next = same n (suc t) free (omega arith) (inr (inl (omega arith)));
  near = λ m free' _. same m t free' (omega arith) (inr (inl (omega arith)));
})
changes d among from until v w same n t (inr (inl after)) = fault_same d v w n t (λ free below. record {
  now = same n t free (omega arith) (inr (inr (omega arith)));
  next = same n (suc t) free (omega arith) (inr (inr (omega arith)));
  near = λ m free' _. same m t free' (omega arith) (inr (inr (omega arith)));
})
changes d among from until v w same n t (inr (inr apart)) = fault_same d v w n t (λ free below. record {
  now = same n t free (omega arith) (inl apart.outside);
  next = same n (suc t) free (omega arith) (inl apart.outside);
  near = λ m free' near. same m t free' (omega arith) (inl (apart.unjoined m free' near));
})

pub reconverges : (d : DeckValue) (among : List ℕ → Bool) (from until : ℕ) (v w : Record) → SameBeside d among from until v w
    → ((n : List ℕ) → is_free d n ≡ true → v n until ≡ w n until) → (n : List ℕ) → SameFault d v w n until
reconverges d among from until v w same met n = fault_same d v w n until (λ free below. record {
  now = met n free;
  next = same n (suc until) free (omega arith) (inr (inr (omega arith)));
  near = λ m free' _. met m free';
})

-- ---- steps without a fault

-- a fault is of a free node at a tick below the stop
pub fault_real : (d : DeckValue) (w : Record) (n : List ℕ) (t : ℕ) → is_fault d w n t ≡ true → (is_free d n && nat_lt t d.stop) ≡ true
unfolding is_fault
fault_real d w n t fault = (and_parts (is_free d n && nat_lt t d.stop) (not (follows d w n t)) fault).0

-- a node's step without a fault
pub record Goes (d : DeckValue) (w : Record) (n : List ℕ) (t : ℕ) : Type 0 where
  pub now : (w n t).den ≡ capacity d n
  pub next : (w n (suc t)).den ≡ capacity d n
  pub gains : (w n (suc t)).num ≡ (w n t).num +ℤ record_current d w t n

pub goes : (d : DeckValue) (w : Record) (n : List ℕ) (t : ℕ) → is_free d n ≡ true → t < d.stop → is_fault d w n t ≡ false → Goes d w n t
unfolding is_fault follows
goes d w n t free below none =
    let here : (is_free d n && nat_lt t d.stop) ≡ true = and_from _ _ free (lt-ltb t d.stop below) in
    let all : follows d w n t ≡ true = not-false (follows d w n t) ((λ i. sym here i && not (follows d w n t)) ∙ none) in
    let parts = and_parts ((w n t).den == capacity d n) (((w n (suc t)).den == capacity d n) && int_eq (w n (suc t)).num ((w n t).num +ℤ record_current d w t n)) all in
    let more = and_parts ((w n (suc t)).den == capacity d n) (int_eq (w n (suc t)).num ((w n t).num +ℤ record_current d w t n)) parts.1 in
    record {
      now = eqb-true (w n t).den (capacity d n) parts.0;
      next = eqb-true (w n (suc t)).den (capacity d n) more.0;
      gains = (Decides-int_eq (w n (suc t)).num ((w n t).num +ℤ record_current d w t n)).0 more.1;
    }

-- and a step that goes so is no fault
pub goes_unfaulted : (d : DeckValue) (w : Record) (n : List ℕ) (t : ℕ) → (w n t).den ≡ capacity d n → (w n (suc t)).den ≡ capacity d n → (w n (suc t)).num ≡ (w n t).num +ℤ record_current d w t n → is_fault d w n t ≡ false
unfolding is_fault follows
goes_unfaulted d w n t now next gains =
    and_right (is_free d n && nat_lt t d.stop) _ (not_from_true _ (and_from _ _ (eq-eqb _ _ now) (and_from _ _ (eq-eqb _ _ next) ((Decides-int_eq _ _).1 gains))))

-- ---- growth

-- a node that was not written, and whose current changed only where its denominator was wrong, has no new fault
pub others_kept : (d : DeckValue) (w x : Record) (m : List ℕ) (t : ℕ) → x m t ≡ w m t → x m (suc t) ≡ w m (suc t) → ((w m t).den ≡ capacity d m → record_current d x t m ≡ record_current d w t m)
    → is_fault d x m t ≡ true → is_fault d w m t ≡ true
others_kept d w x m t now next same fault = by (is_fault d w m t) refl
  where
    real : (is_free d m && nat_lt t d.stop) ≡ true
    real = fault_real d x m t fault

    by : (b : Bool) → is_fault d w m t ≡ b → b ≡ true
    by true is = refl
    by false is =
        let parts = and_parts (is_free d m) (nat_lt t d.stop) real in
        let g : Goes d w m t = goes d w m t parts.0 (ltb-true t d.stop parts.1) is in
        absurd (false≢true (sym (goes_unfaulted d x m t (ap (λ (p : Fraction). p.den) now ∙ g.now) (ap (λ (p : Fraction). p.den) next ∙ g.next)
        (ap (λ (p : Fraction). p.num) next ∙ g.gains ∙ (λ i. (sym now i).num +ℤ sym (same g.now) i))) ∙ fault))
