-- The numbers of the free nodes, one after another.
use Rattle.std.proofs.Common.{◌≡◌, ◌≢◌, ℕ, zero, suc, ◌+◌, ◌<◌, ◌≤◌, Bool, true, false, cond, List, [], ◌∷◌, ◌++◌, length, get_or, refl, sym, ap, ◌∙◌, arith, ⊎_elim, subst}
use Rattle.std.specs.Prelude.{filter}
use Rattle.std.specs.List.{All, Contains, range_with_len}
use Rattle.std.proofs.lemmas.List.Elements.{Contains-get_or}
use Rattle.std.proofs.lemmas.Bool.{false≢true}
use Rattle.std.proofs.lemmas.List.{length-append}
use Rattle.circuit_model.specs.declared.node_kind.NodeKind.TheVariants.{Free}
use Rattle.circuit_model.specs.Numbers.{CircuitValue, kind_at}
use Rattle.circuit_model.proofs.NodeKinds.{kind_inside}
use Rattle.window_run.specs.Circuit.{free_numbers, is_free_kind}
use Rattle.window_run.specs.Window.{AreDifferent}
use Rattle.window_run.proofs.Flows.{back, front}
use Rattle.window_run.proofs.Noted.{pushed, up_to_next, up_to_pushed}
use Rattle.window_run.proofs.Sources.{free_kind}
use Rattle.window_run.proofs.Waiting.{split}

filter_more : (p : ℕ → Bool) (xs : List ℕ) (x : ℕ) → filter p (xs ++ x ∷ []) ≡ filter p xs ++ filter p (x ∷ [])
filter_more p [] x = refl
filter_more p (y ∷ ys) x = by (p y) (filter_more p ys x)
  where
    by : (b : Bool) → filter p (ys ++ x ∷ []) ≡ filter p ys ++ filter p (x ∷ []) → cond b (y ∷ filter p (ys ++ x ∷ [])) (filter p (ys ++ x ∷ [])) ≡ cond b (y ∷ filter p ys) (filter p ys) ++ filter p (x ∷ [])
    by true rest = ap (λ zs. y ∷ zs) rest
    by false rest = rest

range_more : (a n : ℕ) → range_with_len a (suc n) ≡ range_with_len a n ++ (a + n) ∷ []
range_more a zero = ap (λ x. x ∷ []) (omega arith)
range_more a (suc n) = ap (λ xs. a ∷ xs) (range_more (a + 1) n ∙ ap (λ x. range_with_len (a + 1) n ++ x ∷ []) (omega arith))

-- the free numbers below this one
abbrev pub free_below : CircuitValue → ℕ → List ℕ
free_below c n = filter (λ i. is_free_kind (kind_at c i)) (range_with_len 0 n)

step : (c : CircuitValue) (n : ℕ) → free_below c (n + 1) ≡ free_below c n ++ cond (is_free_kind (kind_at c n)) (n ∷ []) []
step c n =
    let e : n + 1 ≡ suc n = omega arith in
    let z : 0 + n ≡ n = omega arith in
    ap (free_below c) e
    ∙ ap (filter (λ i. is_free_kind (kind_at c i))) (range_more 0 n ∙ ap (λ k. range_with_len 0 n ++ k ∷ []) z)
    ∙ filter_more (λ i. is_free_kind (kind_at c i)) (range_with_len 0 n) n

pub one_more : (c : CircuitValue) (n : ℕ) → is_free_kind (kind_at c n) ≡ true → free_below c (n + 1) ≡ free_below c n ++ n ∷ []
one_more c n free = step c n ∙ ap (λ b. free_below c n ++ cond b (n ∷ []) []) free

no_more : (xs : List ℕ) → xs ++ [] ≡ xs
no_more [] = refl
no_more (x ∷ xs) = ap (λ zs. x ∷ zs) (no_more xs)

pub none_more : (c : CircuitValue) (n : ℕ) → is_free_kind (kind_at c n) ≡ false → free_below c (n + 1) ≡ free_below c n
none_more c n other = step c n ∙ ap (λ b. free_below c n ++ cond b (n ∷ []) []) other ∙ no_more (free_below c n)

pub numbers_are : (c : CircuitValue) (n : ℕ) → n ≡ length c.names → free_below c n ≡ free_numbers c
unfolding free_numbers
numbers_are c n e = ap (free_below c) e

-- ---- what they are

record Are (c : CircuitValue) (n : ℕ) (xs : List ℕ) : Type 0 where
  pub below : (k : ℕ) → k < length xs → get_or xs k 0 < n
  pub different : AreDifferent xs
  pub free : (i : ℕ) → Contains xs i → kind_at c i ≡ Free
  pub all : (i : ℕ) → i < n → kind_at c i ≡ Free → Contains xs i

are_more : (c : CircuitValue) (n : ℕ) (xs : List ℕ) → Are c n xs → kind_at c n ≡ Free → Are c (n + 1) (xs ++ n ∷ [])
are_more c n xs old free = record {
  below = λ k h. ⊎_elim
      (λ (early : k < length xs). rw (front xs n 0 k early) (let b = old.below k early in omega (arith, b)))
      (λ (late : length xs ≤ k). rw (back xs n 0 k (omega (arith, late, h, length-append xs (n ∷ [])))) (omega arith))
      (split k (length xs));
  different = λ j k h inside e. ⊎_elim
      (λ (early : k < length xs). old.different j k h early (sym (front xs n 0 k early) ∙ e ∙ front xs n 0 j (omega (arith, h, early))))
      (λ (late : length xs ≤ k).
      let last : k ≡ length xs = omega (arith, late, inside, length-append xs (n ∷ [])) in
      let same : n ≡ get_or xs j 0 = sym (back xs n 0 k last) ∙ e ∙ front xs n 0 j (omega (arith, h, last)) in
      let b = old.below j (omega (arith, h, last)) in omega (arith, b, same))
      (split k (length xs));
  free = pushed (λ i. kind_at c i ≡ Free) xs n old.free free;
  all = up_to_pushed (λ i. kind_at c i ≡ Free) xs n old.all;
}

are_same : (c : CircuitValue) (n : ℕ) (xs : List ℕ) → Are c n xs → (kind_at c n ≡ Free → ⊥) → Are c (n + 1) xs
are_same c n xs old other = record {
  below = λ k h. let b = old.below k h in omega (arith, b);
  different = old.different;
  free = old.free;
  all = up_to_next (λ i. kind_at c i ≡ Free) xs n old.all other;
}

empty : (c : CircuitValue) → Are c zero []
empty c = record {
  below = λ k h. absurd (omega (arith, h));
  different = λ j k h inside. absurd (omega (arith, inside));
  free = λ i has. absurd (omega (arith, has.1));
  all = λ i h. absurd (omega (arith, h));
}

none_below : (c : CircuitValue) → free_below c zero ≡ []
none_below c = refl

are : (c : CircuitValue) (n : ℕ) → Are c n (free_below c n)
are c zero = rw (none_below c) (empty c)
are c (suc n) = by (is_free_kind (kind_at c n)) refl (are c n)
  where
    by : (b : Bool) → is_free_kind (kind_at c n) ≡ b → Are c n (free_below c n) → Are c (suc n) (free_below c (suc n))
    by true is old =
        let e : n + 1 ≡ suc n = omega arith in
        subst (λ k. Are c k (free_below c k)) e (subst (Are c (n + 1)) (sym (one_more c n is)) (are_more c n (free_below c n) old (free_kind (kind_at c n) is)))
    by false is old =
        let e : n + 1 ≡ suc n = omega arith in
        subst (λ k. Are c k (free_below c k)) e (subst (Are c (n + 1)) (sym (none_more c n is)) (are_same c n (free_below c n) old (λ free. false≢true (sym is ∙ ap is_free_kind free))))

pub numbers_free : (c : CircuitValue) (i : ℕ) → Contains (free_numbers c) i → kind_at c i ≡ Free
unfolding free_numbers
numbers_free c = (are c (length c.names)).free

pub numbers_different : (c : CircuitValue) → AreDifferent (free_numbers c)
unfolding free_numbers
numbers_different c = (are c (length c.names)).different

pub numbers_all : (c : CircuitValue) (i : ℕ) → kind_at c i ≡ Free → Contains (free_numbers c) i
unfolding free_numbers
numbers_all c i free = (are c (length c.names)).all i (kind_inside c i (λ absent. cc)) free

pub each_free : (c : CircuitValue) → All (λ i. kind_at c i ≡ Free) (free_numbers c)
each_free c = λ k d h. numbers_free c (get_or (free_numbers c) k d) (Contains-get_or (free_numbers c) k d h)
