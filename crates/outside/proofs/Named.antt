-- A list of files, each found by its name.
use Rattle.std.proofs.Common.{◌≡◌, ◌≢◌, ℕ, zero, suc, ◌+◌, ◌<◌, Bool, true, false, not, List, [], ◌∷◌, length, map, get_or, set, Contains, position, find, Option, Some, bytes_eq, IsSome, is_some, nat_lt, ◌↔◌, refl, sym, ◌∙◌, ap, subst, inl, inr, true≢false, arith}
use Rattle.std.specs.List.{position_or_len, slice_get}
use Rattle.std.proofs.Math.Seq.{map-set_same}
use Rattle.std.proofs.lemmas.Bool.{cases_Bool, lt-ltb, ltb-true, false_from_ne_true}
use Rattle.std.proofs.lemmas.Option.{cond_some, slice_get-get_or}
use Rattle.std.proofs.lemmas.Slice.Eq.{bytes_eq-Decides}
use Rattle.std.proofs.lemmas.List.Folds.{find_at, find-set, find_past}
use Rattle.std.proofs.lemmas.List.Sums.{passes_at_first}

module _ {X : Type 0} (name_of : X → List ℕ) where
  abbrev named : List ℕ → X → Bool
  named name x = bytes_eq (name_of x) name

  at_or_before : (name : List ℕ) (xs : List X) (k : ℕ) → k < length (map name_of xs) → get_or (map name_of xs) k name ≡ name → position_or_len (named name) xs < length xs
  at_or_before name [] k below is = absurd (omega arith)
  at_or_before name (x ∷ xs) zero below is = rw ((bytes_eq-Decides (name_of x) name).1 is) (omega arith)
  at_or_before name (x ∷ xs) (suc k) below is = elim (cases_Bool (named name x)) [
    | inl here ↦ rw here (omega arith)
    | inr past ↦ rw past (omega (arith, at_or_before name xs k (omega (arith, below)) is))
  ]

  -- a name of the list has a place
  has_place : (name : List ℕ) (xs : List X) → Contains (map name_of xs) name → IsSome (position (named name) xs)
  has_place name xs has = rw (lt-ltb (position_or_len (named name) xs) (length xs) (at_or_before name xs has.0 has.1 has.2)) refl

  -- and no other name has one
  has_at : (name : List ℕ) (xs : List X) → position_or_len (named name) xs < length xs → Contains (map name_of xs) name
  has_at name [] within = absurd (omega arith)
  has_at name (x ∷ xs) within = elim (cases_Bool (named name x)) [
    | inl here ↦ (0, omega arith, (bytes_eq-Decides (name_of x) name).0 here)
    | inr past ↦
        let within' : position_or_len (named name) (x ∷ xs) < suc (length xs) = within in
        let size : position_or_len (named name) (x ∷ xs) ≡ 1 + position_or_len (named name) xs = rw past refl in
        let rest : Contains (map name_of xs) name = has_at name xs (omega (arith, within', size)) in
        (suc rest.0, omega (arith, rest.1), rest.2)
  ]

  has_name : (name : List ℕ) (xs : List X) → IsSome (position (named name) xs) → Contains (map name_of xs) name
  has_name name xs is = elim (cases_Bool (nat_lt (position_or_len (named name) xs) (length xs))) [
    | inl within ↦ has_at name xs (ltb-true _ _ within)
    | inr past ↦ absurd (true≢false (sym (rw past at is)))
  ]

  -- a place that was looked up in xs, which are the files ys
  pub record LookedUp (xs ys : List X) (name : List ℕ) (place : Option ℕ) : Type 0 where
    pub same : xs ≡ ys
    pub is : place ≡ position (named name) xs

  in_files : (xs ys : List X) (name : List ℕ) (place : Option ℕ) → LookedUp xs ys name place → place ≡ position (named name) ys
  in_files xs ys name place look = subst (λ (l : List X). place ≡ position (named name) l) look.same look.is

  -- is found exactly where the name is there
  pub looked_up : (xs ys : List X) (name : List ℕ) (place : Option ℕ) → LookedUp xs ys name place → (IsSome place) ↔ Contains (map name_of ys) name
  looked_up xs ys name place look =
      let is = ap (λ (o : Option ℕ). is_some o) (in_files xs ys name place look) in
      (λ some. has_name name ys (sym is ∙ some), λ has. is ∙ has_place name ys has)

  -- the place of a name
  record At (name : List ℕ) (xs : List X) (i : ℕ) : Type 0 where
    pub first : i ≡ position_or_len (named name) xs
    pub within : i < length xs

  at_place : (name : List ℕ) (xs : List X) (i : ℕ) → position (named name) xs ≡ Some i → At name xs i
  at_place name xs i is =
      let parts = cond_some _ _ _ is in
      let below = ltb-true _ _ parts.0 in
      record { first = sym parts.1; within = subst (λ (k : ℕ). k < length xs) parts.1 below }

  is_named : (name : List ℕ) (xs : List X) (i : ℕ) (d : X) → At name xs i → name_of (get_or xs i d) ≡ name
  is_named name xs i d place =
      let below : position_or_len (named name) xs < length xs = subst (λ (k : ℕ). k < length xs) place.first place.within in
      let passes : named name (get_or xs i d) ≡ true = subst (λ (k : ℕ). named name (get_or xs k d) ≡ true) (sym place.first) (passes_at_first (named name) xs d below) in
      (bytes_eq-Decides (name_of (get_or xs i d)) name).0 passes

  -- y takes the place of x, which is the first of the name
  pub record Replaces (old new : List X) (name : List ℕ) (x y : X) : Type 0 where
    pub found : find (named name) old ≡ Some x
    pub after : find (named name) new ≡ Some y
    pub beside : (other : List ℕ) → other ≢ name → find (named other) new ≡ find (named other) old
    pub names : map name_of new ≡ map name_of old

  pub replaces : (xs old : List X) (name : List ℕ) (place : Option ℕ) (i : ℕ) (x y : X) → LookedUp xs old name place → place ≡ Some i → x ≡ get_or old i x → name_of y ≡ name_of x → Replaces old (set old i y) name x y
  replaces xs old name place i x y look some stands same =
      let at = at_place name old i (sym (in_files xs old name place look) ∙ some) in
      let has : name_of y ≡ name = same ∙ ap name_of stands ∙ is_named name old i x at in
      let fails : (other : List ℕ) → other ≢ name → (z : X) → name_of z ≡ name → named other z ≡ false =
      λ other differs z names. false_from_ne_true (named other z) (λ h. differs (sym ((bytes_eq-Decides (name_of z) other).0 h) ∙ names)) in
      record {
        found = find_at (named name) old ∙ ap (λ (k : ℕ). slice_get old k) (sym at.first) ∙ slice_get-get_or old i x at.within ∙ ap (λ (z : X). Some z) (sym stands);
        after = find-set (named name) old i y at.first at.within ((bytes_eq-Decides (name_of y) name).1 has);
        beside = λ other differs. find_past (named other) old i y x (fails other differs (get_or old i x) (is_named name old i x at)) (fails other differs y has);
        names = map-set_same name_of old i y x (same ∙ ap name_of stands);
      }

  -- what x and y share, every name keeps
  pub shared : {B : Type 0} (part : Option X → B) (old new : List X) (name : List ℕ) (x y : X) → Replaces old new name x y → part (Some y) ≡ part (Some x) → (other : List ℕ) → part (find (named other) new) ≡ part (find (named other) old)
  shared part old new name x y step same other = elim (cases_Bool (bytes_eq other name)) [
    | inl is ↦
        let here : other ≡ name = (bytes_eq-Decides other name).0 is in
        subst (λ (n : List ℕ). part (find (named n) new) ≡ part (find (named n) old)) (sym here) (ap part step.after ∙ same ∙ ap part (sym step.found))
    | inr not ↦ ap part (step.beside other (λ e. true≢false (sym ((bytes_eq-Decides other name).1 e) ∙ not)))
  ]
