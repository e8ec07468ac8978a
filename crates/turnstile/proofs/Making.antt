-- How the passes of a new turnstile are numbered.
use Rattle.std.proofs.Common.{◌≡◌, ℕ, zero, suc, ◌+◌, List, [], ◌∷◌, ◌++◌, length, take, drop, Some, None, Option, refl, sym, ap, ◌∙◌, subst, arith}
use Rattle.std.specs.Prelude.{slice_get}
use Rattle.std.proofs.Math.Seq.{drop-append_seam, take-append_seam}
use Rattle.turnstile.specs.declared.turns.Turns.{Ghosts}
use Rattle.turnstile.specs.declared.pass.Pass.{Pass}
use Rattle.turnstile.specs.declared.turnstile.Turnstile.{Turnstile}
use Rattle.turnstile.specs.Passes.{IsOf, IsNew}
use Rattle.turnstile.specs.Making.{AreNew}
use Rattle.turnstile.specs.Steps.{Sat, maker_of, pass_of, numbers_of, label_of, seen_of}
use Rattle.turnstile.specs.declared.view.Stage.TheVariants.{Idle}
use Rattle.turnstile.proofs.Growing.{unsome, none_some}

module _ {V E L : Type 0} {g : Ghosts V E L} (lab : L) where
  pub made_new : (n k : ℕ) (p : Pass V E L g) → p.seat.me ≡ (pass_of lab n, []) → p.number ≡ n → n ≡ k → IsNew lab k p
  made_new n k p e number same = subst (λ (z : ℕ). IsNew lab z p) same record {
    ready = (record { label = lab; stage = Idle; seen = []; number = n; joined = []; given = 0 }, refl, e);
    number = number;
    numbers = ap (λ (m : Sat V E L). numbers_of m.0) e;
    label = ap (λ (m : Sat V E L). label_of m.0) e;
    seen = ap (λ (m : Sat V E L). seen_of m.0) e;
  }

  pub first_new : (n : ℕ) (p : Pass V E L g) → p.seat.me ≡ (maker_of lab n, []) → p.number ≡ 0 → IsNew lab 0 p
  first_new n p e number = record {
    ready = (record { label = lab; stage = Idle; seen = []; number = 0; joined = []; given = n }, refl, e);
    number = number;
    numbers = ap (λ (m : Sat V E L). numbers_of m.0) e;
    label = ap (λ (m : Sat V E L). label_of m.0) e;
    seen = ap (λ (m : Sat V E L). seen_of m.0) e;
  }

module _ {V E L : Type 0} {g : Ghosts V E L} (lock : Turnstile V E L) (lab : L) where
  pub are_new_snoc : (n : ℕ) (ps : List (Pass V E L g)) (p : Pass V E L g) → AreNew lock lab n ps → IsOf lock p → IsNew lab (n + length ps) p → AreNew lock lab n (ps ++ p ∷ [])
  are_new_snoc n [] p h of new = (of, subst (λ (k : ℕ). IsNew lab k p) (omega arith) new, tt)
  are_new_snoc n (x ∷ ps) p h of new = (h.0, h.1, are_new_snoc (n + 1) ps p h.2 of (subst (λ (k : ℕ). IsNew lab k p) (omega arith) new))

  pub are_new_at : (n : ℕ) (ps : List (Pass V E L g)) (i : ℕ) (p : Pass V E L g) → AreNew lock lab n ps → slice_get ps i ≡ Some p → IsOf lock p × IsNew lab (n + i) p
  are_new_at n [] i p h e = absurd (none_some e)
  are_new_at n (x ∷ ps) zero p h e = (subst (IsOf lock) (unsome e) h.0, subst (λ (k : ℕ). IsNew lab k p) (omega arith) (subst (IsNew lab n) (unsome e) h.1))
  are_new_at n (x ∷ ps) (suc i) p h e = let r = are_new_at (n + 1) ps i p h.2 e in (r.0, subst (λ (k : ℕ). IsNew lab k p) (omega arith) r.1)

  pub new_at : (first : Pass V E L g) (others : List (Pass V E L g)) (i : ℕ) (p : Pass V E L g) → IsOf lock first → IsNew lab 0 first → AreNew lock lab 1 others → slice_get (first ∷ others) i ≡ Some p → IsOf lock p × IsNew lab i p
  new_at first others i p of new rest e = let r = are_new_at 0 (first ∷ others) i p (of, new, rest) e in (r.0, subst (λ (k : ℕ). IsNew lab k p) (omega arith) r.1)

pub rotated : {A : Type 0} (n : ℕ) (xs : List A) (x : A) → n ≡ length xs → drop n (xs ++ x ∷ []) ++ take n (xs ++ x ∷ []) ≡ x ∷ xs
rotated {A} n xs x e = ap (λ (k : ℕ). drop k (xs ++ x ∷ []) ++ take k (xs ++ x ∷ [])) e ∙ (λ i. drop-append_seam xs (x ∷ []) i ++ take-append_seam xs (x ∷ []) i)
