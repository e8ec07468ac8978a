-- What a turn does to the own lists of a pass.
use Rattle.std.proofs.Common.{if◌then◌else◌, ◌≡◌, ◌≢◌, ◌⊎◌, ◌==◌, ℕ, ◌+◌, ◌<◌, List, [], ◌∷◌, ◌++◌, length, Bool, true, false, Some, None, Option, refl, sym, ap, ◌∙◌, subst, ⊎_elim, inl, inr, arith, append-nil}
use Rattle.std.proofs.lemmas.Bool.Decides.{nat_tests}
use Rattle.turnstile.specs.Lists.{Has, Begins, OneMore, entries_of}
use Rattle.turnstile.proofs.Keeps.{entries_append, entries_stay}

some_or : {A : Type 0} → A → Option A → A
some_or d None = d
some_or d (Some x) = x

pub unsome : {A : Type 0} {x y : A} → Some x ≡ Some y → x ≡ y
unfolding some_or
unsome {A} {x} {y} e = ap (some_or x) e

is_some : {A : Type 0} → Option A → Type 0
is_some None = ⊥
is_some (Some x) = Unit {0}

pub none_some : {A : Type 0} {x : A} → None ≡ Some x → ⊥
unfolding is_some
none_some {A} {x} e = subst is_some (sym e) tt

module _ {E : Type 0} (maker : E → ℕ) where
  one_by : (n : ℕ) (e : E) → maker e ≡ n → (b : Bool) → (maker e == n) ≡ b → (if b then e ∷ [] else []) ≡ e ∷ []
  one_by n e by true is = refl
  one_by n e by false is = absurd (grind (arith, nat_tests))

  none_by : (k : ℕ) (e : E) → maker e ≢ k → (b : Bool) → (maker e == k) ≡ b → (if b then e ∷ [] else []) ≡ []
  none_by k e not_by true is = absurd (grind (arith, nat_tests))
  none_by k e not_by false is = refl

  pub own_grows : (n : ℕ) (found turns seen : List E) (ks : List ℕ) → Has ks n → OneMore maker n found turns → Begins maker found seen ks
      → ((turns ≡ found) × ((k : ℕ) → Has ks k → entries_of maker k turns ≡ entries_of maker k seen))
      ⊎ ((e : E) × (turns ≡ found ++ e ∷ []) × (entries_of maker n turns ≡ entries_of maker n seen ++ e ∷ [])
      × ((k : ℕ) → Has ks k → k ≢ n → entries_of maker k turns ≡ entries_of maker k seen))
  own_grows n found turns seen ks has more begins = ⊎_elim
      (λ (same : turns ≡ found). inl (same, λ k b. ap (entries_of maker k) same ∙ entries_stay maker found seen ks k b begins))
      (λ (t : (e : E) × (turns ≡ found ++ e ∷ []) × (maker e ≡ n)).
      let grown : (k : ℕ) → Has ks k → entries_of maker k turns ≡ entries_of maker k seen ++ entries_of maker k (t.0 ∷ []) =
      (λ k b. ap (entries_of maker k) t.1 ∙ entries_append maker k found (t.0 ∷ []) ∙ ap (λ (l : List E). l ++ entries_of maker k (t.0 ∷ [])) (entries_stay maker found seen ks k b begins)) in
      inr (
        t.0,
        t.1,
        grown n has ∙ ap (λ (l : List E). entries_of maker n seen ++ l) (one_by n t.0 t.2 (maker t.0 == n) refl),
        λ k b apart. grown k b ∙ ap (λ (l : List E). entries_of maker k seen ++ l) (none_by k t.0 (λ e. apart (sym e ∙ t.2)) (maker t.0 == k) refl) ∙ append-nil (entries_of maker k seen),
      ))
      more
