-- Numbers that are found one after another.
use Rattle.std.proofs.Common.{◌≡◌, ◌∙◌, ℕ, ◌<◌, Bool, true, false, ◌&&◌, ◌||◌, nat_eq, List, [], ◌∷◌, ◌++◌, length, get_or, slice_get, Option, Some, None, refl, sym, ap, Contains}
use Rattle.std.specs.List.{dedup}
use Rattle.std.specs.List.Sorted.{IsPermutation}
use Rattle.std.specs.Option.{option_map_or}
use Rattle.std.proofs.lemmas.Bool.{false≢true, eqb-true, eq-eqb}
use Rattle.std.proofs.lemmas.List.Folds.{list_any-append, list_any_at}
use Rattle.std.proofs.lemmas.List.Kept.{Contains-dedup_nat, Contains-from_dedup}
use Rattle.std.proofs.lemmas.List.Sorted.{Contains-permutation, IsPermutation-sym}
use Rattle.std.proofs.lemmas.Option.{slice_get_within}
use Rattle.semantics.proofs.Free.{same_test}
use Rattle.circuit_model.specs.Numbers.{CircuitValue, kind_at, kind_of}
use Rattle.circuit_model.specs.declared.node_kind.NodeKind.TheVariants.{Absent}
use Rattle.edit_damage.specs.ByEdit.{is_among, AreNumbersFound}
use Rattle.edit_damage.specs.Marks.{is_free_kind}
use Rattle.edit_damage.proofs.Alike.{any_index}

-- ---- numbers of free nodes

-- the number of a free node is that of a name
free_below : (c : CircuitValue) (i : ℕ) → is_free_kind (kind_at c i) ≡ true → i < length c.names
free_below c i free = by (slice_get c.names i) refl free
  where
    by : (o : Option (List ℕ)) → slice_get c.names i ≡ o → is_free_kind (option_map_or (kind_of c.deck) o Absent) ≡ true → i < length c.names
    by None at h = absurd (false≢true h)
    by (Some n) at h = slice_get_within c.names i n at

-- ---- numbers among others

pub among_has : (xs : List ℕ) (i : ℕ) → is_among xs i ≡ true → Contains xs i
among_has xs i h = let at = any_index (nat_eq i) xs i h in (at.0, at.1, sym (eqb-true i (get_or xs at.0 i) at.2))

pub has_among : (xs : List ℕ) (i : ℕ) → Contains xs i → is_among xs i ≡ true
has_among xs i at = list_any_at (nat_eq i) xs at.0 i at.1 (ap (nat_eq i) at.2 ∙ eq-eqb i i refl)

-- sorted and each once they are the same
pub sorted_same : (old sorted new : List ℕ) → IsPermutation old sorted → new ≡ dedup nat_eq sorted → (i : ℕ) → is_among new i ≡ is_among old i
sorted_same old sorted new moved is i = ap (λ xs. is_among xs i) is ∙ same_test (is_among (dedup nat_eq sorted) i) (is_among old i)
    (λ h. has_among old i (Contains-permutation _ _ i (IsPermutation-sym _ _ moved) (Contains-from_dedup nat_eq sorted i (among_has (dedup nat_eq sorted) i h))))
    (λ h. has_among (dedup nat_eq sorted) i (Contains-dedup_nat sorted i (Contains-permutation _ _ i moved (among_has old i h))))

-- ---- what is found

module _ (c : CircuitValue) where
  abbrev free : ℕ → Bool
  free i = is_free_kind (kind_at c i)

  -- of numbers of free nodes the one test says what the other does
  same_free : (p q : ℕ → Bool) (i : ℕ) → (i < length c.names → p i ≡ q i) → (free i && p i) ≡ (free i && q i)
  same_free p q i same = by (free i) refl
    where
      by : (b : Bool) → free i ≡ b → (b && p i) ≡ (b && q i)
      by true is = same (free_below c i is)
      by false is = refl

  pub found_as : (p q : ℕ → Bool) (a b : List ℕ) → AreNumbersFound c p a b → ((i : ℕ) → i < length c.names → p i ≡ q i) → AreNumbersFound c q a b
  found_as p q a b found same i = found i ∙ ap (λ x. is_among a i || x) (same_free p q i (same i))

  and_false : (b : Bool) → (b && false) ≡ false
  and_false true = refl
  and_false false = refl

  or_false : (b : Bool) → b ≡ (b || false)
  or_false true = refl
  or_false false = refl

  -- where nothing passes, nothing more is found
  pub found_none : (p : ℕ → Bool) (a : List ℕ) → ((i : ℕ) → i < length c.names → p i ≡ false) → AreNumbersFound c p a a
  found_none p a none i = or_false (is_among a i) ∙ ap (λ x. is_among a i || x) (sym (same_free p (λ k. false) i (none i) ∙ and_false (free i)))

  both_found : (x k p q : Bool) → ((x || (k && p)) || (k && q)) ≡ (x || (k && (p || q)))
  both_found true k p q = refl
  both_found false true p q = refl
  both_found false false p q = refl

  pub found_both : (p q r : ℕ → Bool) (a b e : List ℕ) → AreNumbersFound c p a b → AreNumbersFound c q b e → ((i : ℕ) → i < length c.names → (p i || q i) ≡ r i) → AreNumbersFound c r a e
  found_both p q r a b e first second same =
      found_as (λ i. p i || q i) r a e
      (λ i. second i ∙ ap (λ x. x || (free i && q i)) (first i) ∙ both_found (is_among a i) (free i) (p i) (q i))
      same

  three : (p q s : Bool) → ((p || q) || s) ≡ (p || (q || s))
  three true q s = refl
  three false q s = refl

  pub found_three : (p q s r : ℕ → Bool) (a b e f : List ℕ) → AreNumbersFound c p a b → AreNumbersFound c q b e → AreNumbersFound c s e f
      → ((i : ℕ) → i < length c.names → (p i || (q i || s i)) ≡ r i) → AreNumbersFound c r a f
  found_three p q s r a b e f one two last same =
      found_both (λ i. p i || q i) s r a e f (found_both p q (λ i. p i || q i) a b e one two (λ i below. refl)) last
      (λ i below. three (p i) (q i) (s i) ∙ same i below)

  -- the number of a free node is put last
  pub found_one : (a : List ℕ) (node : ℕ) → free node ≡ true → AreNumbersFound c (λ i. nat_eq i node) a (a ++ node ∷ [])
  found_one a node is i = list_any-append (nat_eq i) a (node ∷ []) ∙ ap (λ x. is_among a i || x) (by (nat_eq i node) refl)
    where
      by : (b : Bool) → nat_eq i node ≡ b → (b || false) ≡ (free i && b)
      by true same = sym (ap (λ x. x && true) (ap free (eqb-true i node same) ∙ is))
      by false other = sym (and_false (free i))

  -- that of another node is not
  pub found_other : (a : List ℕ) (node : ℕ) → free node ≡ false → AreNumbersFound c (λ i. nat_eq i node) a a
  found_other a node is i = or_false (is_among a i) ∙ ap (λ x. is_among a i || x) (by (nat_eq i node) refl)
    where
      by : (b : Bool) → nat_eq i node ≡ b → false ≡ (free i && b)
      by true same = sym (ap (λ x. x && true) (ap free (eqb-true i node same) ∙ is))
      by false other = sym (and_false (free i))
