-- An edit and a commit keep a record and what is pending sound, and a sound record with nothing pending is the run.
use Rattle.std.proofs.Common.{◌≡◌, ℕ, zero, suc, ◌^◌, ◌≤◌, Bool, true, false, not, ◌&&◌, List, refl, sym, ◌∙◌, subst, arith, ⊎_elim, nat_lt, nat_le, unsigned_abs, pos}
use Rattle.std.proofs.lemmas.Bool.{false≢true, and_parts, or_cases, or_right, cond_both, ltb-true, leb-true, false_from_ne_true, and_cases, not-false}
use Rattle.std.proofs.lemmas.Int.{unsigned_abs-mul}
use Rattle.std.proofs.lemmas.Nat.{mul-le}
use Rattle.semantics.specs.Deck.{DeckValue, capacity, initial_of}
use Rattle.semantics.specs.Valid.{is_valid}
use Rattle.semantics.proofs.Limits.{Limits, limits, Held, initial_small}
use Rattle.semantics.specs.Edit.{kept_after, restarted}
use Rattle.semantics.specs.Neighbours.{is_free}
use Rattle.semantics.specs.Pending.{Pending, NothingPending, after_edit, spliced, after_commit, Sweeps, IsBoundedAt, IsBounded, IsSound}
use Rattle.semantics.specs.Record.{Record, start_pair, is_fault, IsRunTo}
use Rattle.semantics.proofs.Free.{free_held}
use Rattle.record_laws.specs.Laws.{IsBoundedWithin}
use Rattle.record_laws.proofs.Pending.{covers_edit, covers_commit, starts_splice}
use Rattle.record_laws.proofs.Unique.{unique}

-- the pair that a free node of a valid deck begins with is bounded at every tick
start_bounded : (d : DeckValue) → Limits d → (n : List ℕ) (t : ℕ) → is_free d n ≡ true → IsBoundedAt t (start_pair d n)
start_bounded d l n t free =
    let h : Held d n = free_held d l n free in
    record {
      den_low = h.some;
      den_high = h.most;
      num = rw (unsigned_abs-mul (pos (capacity d n)) (initial_of d n))
          (omega (arith, mul-le (capacity d n) (unsigned_abs (initial_of d n)) (10 ^ 12) (10 ^ 9) h.most (initial_small d n l)));
    }

pub sound_edit : (old new : DeckValue) (keeps : List ℕ → Bool) (w : Record) (p : Pending) → is_valid new ≡ true → new.stop ≡ old.stop → IsSound old keeps w p
    → IsSound new (kept_after new keeps) (restarted new keeps w) (after_edit new (restarted new keeps w) p)
sound_edit old new keeps w p valid stop s = record {
  kept = λ n free. or_right (keeps n) (is_free new n) free;
  bounded = bounded;
  starts = λ n free. cond_both (is_free new n) (start_pair new n) (w n 0) (λ v. v ≡ start_pair new n) (λ _. refl) (λ bound. absurd (false≢true (sym bound ∙ free)));
  covers = covers_edit old new w (restarted new keeps w) p stop s.covers;
}
  where
    bounded : IsBounded new (kept_after new keeps) (restarted new keeps w)
    bounded n zero kept up_to = cond_both (is_free new n) (start_pair new n) (w n 0) (IsBoundedAt 0) (λ free. start_bounded new (limits new valid) n 0 free)
        (λ bound. ⊎_elim (λ (old' : keeps n ≡ true). s.bounded n 0 old' (omega arith)) (λ (free : is_free new n ≡ true). absurd (false≢true (sym bound ∙ free))) (or_cases (keeps n) (is_free new n) kept))
    bounded n (suc t) kept up_to = cond_both (is_free new n && not (keeps n)) (start_pair new n) (w n (suc t)) (IsBoundedAt (suc t))
        (λ both. start_bounded new (limits new valid) n (suc t) (and_parts (is_free new n) (not (keeps n)) both).0)
        (λ off. s.bounded n (suc t)
        (⊎_elim (λ (old' : keeps n ≡ true). old')
        (λ (free : is_free new n ≡ true). ⊎_elim (λ (bound : is_free new n ≡ false). absurd (false≢true (sym bound ∙ free))) (λ (back : not (keeps n) ≡ false). not-false (keeps n) back) (and_cases (is_free new n) (not (keeps n)) off))
        (or_cases (keeps n) (is_free new n) kept))
        (subst (λ k. suc t ≤ k) stop up_to))

pub sound_commit : (d : DeckValue) (keeps : List ℕ → Bool) (w x : Record) (among swept : List ℕ → Bool) (from until : ℕ) (p : Pending) → Sweeps d among swept
    → IsBoundedWithin among from until x → IsSound d keeps w p
    → IsSound d keeps (spliced w x among from until) (after_commit d (spliced w x among from until) swept from until p)
sound_commit d keeps w x among swept from until p sweeps fits s = record {
  kept = s.kept;
  bounded = λ n t kept up_to. cond_both (among n && (nat_lt from t && nat_le t until)) (x n t) (w n t) (IsBoundedAt t)
      (λ here.
      let outer = and_parts (among n) (nat_lt from t && nat_le t until) here in
      let inner = and_parts (nat_lt from t) (nat_le t until) outer.1 in
      fits n t outer.0 (ltb-true from t inner.0) (leb-true t until inner.1))
      (λ _. s.bounded n t kept up_to);
  starts = starts_splice d w x among from until s.starts;
  covers = covers_commit d w x among swept from until p sweeps s.covers;
}

-- with nothing pending the record is the run
pub sound_settled : (d : DeckValue) (keeps : List ℕ → Bool) (w : Record) (p : Pending) → IsSound d keeps w p → NothingPending p → IsRunTo d w d.stop
sound_settled d keeps w p s nothing n t free up_to = unique d w d.stop (omega arith) s.starts
    (λ m r _. false_from_ne_true (is_fault d w m r) (λ fault. false≢true (sym (nothing m r) ∙ s.covers.faults m r fault))) n t free up_to
