-- Each kind of edit is one stretch of elements that gives way to another.
use Rattle.std.proofs.Common.{◌≡◌, ◌≢◌, ℕ, zero, suc, ◌<◌, true, false, not, ◌&&◌, List, [], ◌∷◌, ◌++◌, map, length, get_or, All, Contains, refl, sym, ap, ◌∙◌, subst, arith, inl, inr}
use Rattle.std.specs.List.{list_any}
use Rattle.std.specs.Str.{bytes_eq}
use Rattle.std.proofs.lemmas.Bool.{false≢true, and_parts, or_left, or_right, not-true}
use Rattle.std.proofs.lemmas.List.Elements.{All-nil, All-cons}
use Rattle.semantics.specs.declared.element.Element.{Element}
use Rattle.semantics.specs.Deck.{DeckValue, name_of}
use Rattle.semantics.specs.Valid.{is_valid, has_limits, has_elements, has_nodes, differ}
use Rattle.semantics.proofs.Nodes.{bytes_eq-same}
use Rattle.semantics.specs.Edit.{IsChanged, IsEdit, SameFrame}

-- ---- elements by their names

abbrev names : List Element → List (List ℕ)
names xs = map name_of xs

-- the names of a valid deck's elements differ
pub valid_names : (d : DeckValue) → is_valid d ≡ true → differ (names d.elements) ≡ true
unfolding is_valid
valid_names d valid =
    let rest : (has_elements d && has_nodes d) ≡ true = (and_parts (has_limits d) (has_elements d && has_nodes d) valid).1 in
    let elements : has_elements d ≡ true = (and_parts (has_elements d) (has_nodes d) rest).0 in
    (and_parts (differ (names d.elements)) _ (and_parts _ _ elements).0).0

-- what stands among elements has its name among theirs
named : (xs : List Element) (x : Element) (n : List ℕ) → Contains xs x → n ≡ name_of x → list_any (bytes_eq n) (names xs) ≡ true
named xs x n at same = by xs at.0 at.1 at.2
  where
    by : (ys : List Element) (k : ℕ) → k < length ys → get_or ys k x ≡ x → list_any (bytes_eq n) (names ys) ≡ true
    by [] k below is = absurd (omega arith)
    by (y ∷ ys) zero below is = or_left _ _ (bytes_eq-same n (name_of y) (same ∙ ap name_of (sym is)))
    by (y ∷ ys) (suc k) below is = or_right _ _ (by ys k (omega arith) is)

-- an element in the middle stands there
middle_in : (before after : List Element) (x : Element) → Contains (before ++ (x ∷ after)) x
middle_in [] after x = (0, omega arith, refl)
middle_in (b ∷ before) after x = let rest = middle_in before after x in (suc rest.0, omega (arith, rest.1), rest.2)

-- where names differ, an element with the name of the one in the middle is that one
lone : (before after : List Element) (f x : Element) → differ (names (before ++ (f ∷ after))) ≡ true → name_of x ≡ name_of f → Contains (before ++ (f ∷ after)) x → x ≡ f
lone before after f x apart same at = by before apart at.0 at.1 at.2
  where
    by : (bs : List Element) → differ (names (bs ++ (f ∷ after))) ≡ true → (k : ℕ) → k < length (bs ++ (f ∷ after)) → get_or (bs ++ (f ∷ after)) k x ≡ x → x ≡ f
    by [] differs zero below is = sym is
    by [] differs (suc k) below is =
        let head : list_any (bytes_eq (name_of f)) (names after) ≡ false = not-true _ (and_parts (not (list_any (bytes_eq (name_of f)) (names after))) (differ (names after)) differs).0 in
        absurd (false≢true (sym head ∙ named after x (name_of f) (k, omega arith, is) (sym same)))
    by (b ∷ bs) differs zero below is =
        let head : list_any (bytes_eq (name_of b)) (names (bs ++ (f ∷ after))) ≡ false = not-true _ (and_parts (not (list_any (bytes_eq (name_of b)) (names (bs ++ (f ∷ after))))) (differ (names (bs ++ (f ∷ after)))) differs).0 in
        absurd (false≢true (sym head ∙ named (bs ++ (f ∷ after)) f (name_of b) (middle_in bs after f) (ap name_of is ∙ same)))
    by (b ∷ bs) differs (suc k) below is =
        by bs (and_parts (not (list_any (bytes_eq (name_of b)) (names (bs ++ (f ∷ after))))) (differ (names (bs ++ (f ∷ after)))) differs).1 k (omega arith) is

-- where names differ, an element that is taken out is gone
taken_out : (before after : List Element) (x : Element) → differ (names (before ++ (x ∷ after))) ≡ true → Contains (before ++ after) x → ⊥
taken_out before after x apart at = by before apart at.0 at.1 at.2
  where
    by : (bs : List Element) → differ (names (bs ++ (x ∷ after))) ≡ true → (k : ℕ) → k < length (bs ++ after) → get_or (bs ++ after) k x ≡ x → ⊥
    by [] differs k below is =
        let head : list_any (bytes_eq (name_of x)) (names after) ≡ false = not-true _ (and_parts (not (list_any (bytes_eq (name_of x)) (names after))) (differ (names after)) differs).0 in
        false≢true (sym head ∙ named after x (name_of x) (k, below, is) refl)
    by (b ∷ bs) differs zero below is =
        let head : list_any (bytes_eq (name_of b)) (names (bs ++ (x ∷ after))) ≡ false = not-true _ (and_parts (not (list_any (bytes_eq (name_of b)) (names (bs ++ (x ∷ after))))) (differ (names (bs ++ (x ∷ after)))) differs).0 in
        false≢true (sym head ∙ named (bs ++ (x ∷ after)) x (name_of b) (middle_in bs after x) (ap name_of is))
    by (b ∷ bs) differs (suc k) below is =
        by bs (and_parts (not (list_any (bytes_eq (name_of b)) (names (bs ++ (x ∷ after))))) (differ (names (bs ++ (x ∷ after)))) differs).1 k (omega arith) is

-- ---- edits

one : (old new : DeckValue) (x : Element) → IsChanged old new x → All (IsChanged old new) (x ∷ [])
one old new x h = All-cons (IsChanged old new) x [] h (All-nil (IsChanged old new))

-- an element is set to another one of its name
pub edit_set : (old new : DeckValue) (before after : List Element) (x y : Element) → SameFrame old new → is_valid old ≡ true → is_valid new ≡ true
    → old.elements ≡ before ++ (x ∷ after) → new.elements ≡ before ++ (y ∷ after) → name_of x ≡ name_of y → x ≢ y → IsEdit old new
edit_set old new before after x y frame valid_old valid_new was is same other = record {
  frame = frame;
  before = before;
  gone = x ∷ [];
  come = y ∷ [];
  after = after;
  was = was;
  now = is;
  lost = one old new x (inl (
    subst (λ xs. Contains xs x) (sym was) (middle_in before after x),
    λ h.
        other (lone before after y x (ap (λ xs. differ (names xs)) (sym is) ∙ valid_names new valid_new) same (subst (λ xs. Contains xs x) is h)),
  ));
  made = one old new y (inr (
    subst (λ xs. Contains xs y) (sym is) (middle_in before after y),
    λ h.
        other (sym (lone before after x y (ap (λ xs. differ (names xs)) (sym was) ∙ valid_names old valid_old) (sym same) (subst (λ xs. Contains xs y) was h))),
  ));
}

-- an element is taken out
pub edit_remove : (old new : DeckValue) (before after : List Element) (x : Element) → SameFrame old new → is_valid old ≡ true
    → old.elements ≡ before ++ (x ∷ after) → new.elements ≡ before ++ after → IsEdit old new
edit_remove old new before after x frame valid was is = record {
  frame = frame;
  before = before;
  gone = x ∷ [];
  come = [];
  after = after;
  was = was;
  now = is;
  lost = one old new x (inl (
    subst (λ xs. Contains xs x) (sym was) (middle_in before after x),
    λ h.
        taken_out before after x (ap (λ xs. differ (names xs)) (sym was) ∙ valid_names old valid) (subst (λ xs. Contains xs x) is h),
  ));
  made = All-nil (IsChanged old new);
}

-- an element is put in
pub edit_add : (old new : DeckValue) (before after : List Element) (y : Element) → SameFrame old new → is_valid new ≡ true
    → old.elements ≡ before ++ after → new.elements ≡ before ++ (y ∷ after) → IsEdit old new
edit_add old new before after y frame valid was is = record {
  frame = frame;
  before = before;
  gone = [];
  come = y ∷ [];
  after = after;
  was = was;
  now = is;
  lost = All-nil (IsChanged old new);
  made = one old new y (inr (
    subst (λ xs. Contains xs y) (sym is) (middle_in before after y),
    λ h.
        taken_out before after y (ap (λ xs. differ (names xs)) (sym is) ∙ valid_names new valid) (subst (λ xs. Contains xs y) was h),
  ));
}

-- the elements stay
pub edit_initial : (old new : DeckValue) → SameFrame old new → new.elements ≡ old.elements → IsEdit old new
edit_initial old new frame same = record {
  frame = frame;
  before = [];
  gone = [];
  come = [];
  after = old.elements;
  was = refl;
  now = same;
  lost = All-nil (IsChanged old new);
  made = All-nil (IsChanged old new);
}
