-- A list that has a value for each of some names that differ: what the value of a name is, and what a write to it leaves.
use Rattle.std.proofs.Common.{◌≡◌, ℕ, suc, zero, Bool, true, false, not, ◌&&◌, ◌||◌, if◌then◌else◌, cond, List, [], ◌∷◌, length, map, get_or, set, replicate, position, Option, Some, None, is_some, slice_get, refl, sym, ◌∙◌, ap, subst}
use Rattle.std.specs.List.{list_any, All}
use Rattle.std.specs.Str.{bytes_eq}
use Rattle.std.specs.Option.{option_map}
use Rattle.std.specs.Cmp.Lexicographic.{nat_list_eq_equiv}
use Rattle.std.proofs.lemmas.Slice.Eq.{bytes_eq-Decides}
use Rattle.std.proofs.lemmas.List.Elements.{All-map}
use Rattle.std.proofs.lemmas.List.Quantifiers.{position-Some}
use Rattle.std.proofs.lemmas.Option.{slice_get-get_or, slice_get-map, get_or_from_slice_get}
use Rattle.semantics.specs.Valid.{differ}
use Rattle.deck_cards.specs.Facts.{ChangesAt}

pub or_both : (a b : Bool) → (a || b) ≡ false → (a ≡ false) × (b ≡ false)
or_both true b h = absurd (cc)
or_both false b h = (refl, h)

pub and_both : (a b : Bool) → (a && b) ≡ true → (a ≡ true) × (b ≡ true)
and_both true b h = (refl, h)
and_both false b h = absurd (cc)

pub from_not : (a : Bool) → not a ≡ true → a ≡ false
from_not true h = absurd (cc)
from_not false h = refl

-- equal bytes
pub same_name : (a b : List ℕ) → bytes_eq a b ≡ true → a ≡ b
same_name a b h = (bytes_eq-Decides a b).0 h

pub name_itself : (a : List ℕ) → bytes_eq a a ≡ true
name_itself a = (bytes_eq-Decides a a).1 refl

pub name_turned : (a b : List ℕ) → bytes_eq a b ≡ bytes_eq b a
name_turned a b = nat_list_eq_equiv.symm a b

-- the place that a look-up finds is that of the name
pub named_at : (n : List ℕ) (names : List (List ℕ)) (i : ℕ) → position (bytes_eq n) names ≡ Some i → slice_get names i ≡ Some n
named_at n names i h =
    let p = position-Some (bytes_eq n) names i [] h in
    slice_get-get_or names i [] p.0 ∙ ap Some (sym (same_name n (get_or names i []) p.1))

-- what stands at a place is no element that none is
pub not_at : {X : Type 0} (p : X → Bool) (xs : List X) (i : ℕ) (x : X) → list_any p xs ≡ false → slice_get xs i ≡ Some x → p x ≡ false
not_at p [] i x none at = absurd (cc)
not_at p (y ∷ ys) zero x none at =
    let e : y ≡ x = cc in
    subst (λ z. p z ≡ false) e (or_both (p y) (list_any p ys) none).0
not_at p (y ∷ ys) (suc i) x none at = not_at p ys i x (or_both (p y) (list_any p ys) none).1 at

module _ {F : Type 0} (f : List ℕ → F) where
  -- the value of a name
  pub read_named : (names : List (List ℕ)) (n : List ℕ) (i : ℕ) (d : F) → slice_get names i ≡ Some n → get_or (map f names) i d ≡ f n
  read_named names n i d h = get_or_from_slice_get (map f names) i (f n) d (slice_get-map f names i ∙ ap (option_map f) h)

  module _ (g : F → F) where
    -- where the name is none of them, no value changes
    pub others_stay : (names : List (List ℕ)) (n : List ℕ) → list_any (bytes_eq n) names ≡ false
        → map f names ≡ map (λ m. if bytes_eq m n then g (f m) else f m) names
    others_stay [] n h = refl
    others_stay (k ∷ ks) n h =
        let p = or_both (bytes_eq n k) (list_any (bytes_eq n) ks) h in
        let e : bytes_eq k n ≡ false = name_turned k n ∙ p.0 in
        λ i. cond (sym e i) (g (f k)) (f k) ∷ others_stay ks n p.1 i

    -- a write to the value of a name changes no other
    pub write_named : (names : List (List ℕ)) (n : List ℕ) (i : ℕ) (y : F) → differ names ≡ true → slice_get names i ≡ Some n → y ≡ g (f n)
        → set (map f names) i y ≡ map (λ m. if bytes_eq m n then g (f m) else f m) names
    write_named [] n i y apart at is = absurd (cc)
    write_named (k ∷ ks) n zero y apart at is =
        let e : k ≡ n = cc in
        let p = and_both (not (list_any (bytes_eq k) ks)) (differ ks) apart in
        let none = from_not (list_any (bytes_eq k) ks) p.0 in
        let P : List ℕ → Type 0 = λ m. y ≡ g (f m) → y ∷ map f ks ≡ map (λ x. if bytes_eq x m then g (f x) else f x) (k ∷ ks) in
        subst P e (λ (h : y ≡ g (f k)). λ j. (h ∙ (λ l. cond (sym (name_itself k) l) (g (f k)) (f k))) j ∷ others_stay ks k none j) is
    write_named (k ∷ ks) n (suc i) y apart at is =
        let p = and_both (not (list_any (bytes_eq k) ks)) (differ ks) apart in
        let e : bytes_eq k n ≡ false = not_at (bytes_eq k) ks i n (from_not (list_any (bytes_eq k) ks) p.0) at in
        λ j. cond (sym e j) (g (f k)) (f k) ∷ write_named ks n i y p.1 at is j

module _ {F : Type 0} (g : F → F) (names : List (List ℕ)) (n : List ℕ) (old : List F) where
  -- after a look-up that finds the name and a write there, the value of the name is changed by g
  pub changed : (i : ℕ) (d y : F) → differ names ≡ true → Some i ≡ position (bytes_eq n) names → y ≡ g (get_or old i d)
      → (f : List ℕ → F) → old ≡ map f names → set old i y ≡ map (λ m. if bytes_eq m n then g (f m) else f m) names
  changed i d y apart found is f same =
      let at = named_at n names i (sym found) in
      let e : get_or old i d ≡ f n = ap (λ l. get_or l i d) same ∙ read_named f names n i d at in
      ap (λ l. set l i y) same ∙ write_named f g names n i y apart at (is ∙ ap g e)

  -- after a look-up that finds nothing there is nothing to change
  pub unchanged : (r : Option ℕ) → is_some r ≡ list_any (bytes_eq n) names → r ≡ None
      → (f : List ℕ → F) → old ≡ map f names → old ≡ map (λ m. if bytes_eq m n then g (f m) else f m) names
  unchanged r found none f same = same ∙ others_stay f g names n (sym found ∙ ap is_some none)

-- two changes, one after another
module _ {F : Type 0} (names : List (List ℕ)) (one two : List ℕ) (g : F → F) (old mid new : List F) (f h : List ℕ → F) where
  pub twice : old ≡ map f names → ChangesAt names one g old mid → ChangesAt names two g mid new
      → ((n : List ℕ) → (if bytes_eq n two then g (if bytes_eq n one then g (f n) else f n) else (if bytes_eq n one then g (f n) else f n)) ≡ h n) → new ≡ map h names
  twice same first second is = second _ (first f same) ∙ (λ i. map (λ n. is n i) names)

module _ {F : Type 0} (f : List ℕ → F) where
  -- what holds of the value of each name holds of each value
  pub every_value : (P : F → Type 0) (names : List (List ℕ)) (values : List F) → values ≡ map f names → ((n : List ℕ) → P (f n)) → All P values
  every_value P names values same each = subst (All P) (sym same) (All-map P f names (λ k d h. each _))

  -- names that all have one value
  pub one_value : (x : F) → ((n : List ℕ) → f n ≡ x) → (names : List (List ℕ)) → replicate (length names) x ≡ map f names
  one_value x is [] = refl
  one_value x is (n ∷ ns) = λ i. sym (is n) i ∷ one_value x is ns i
