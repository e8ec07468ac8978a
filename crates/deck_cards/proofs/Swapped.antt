-- One element in the place of another: what lists and sums over the elements are then.
use Rattle.std.proofs.Common.{◌≡◌, ◌∙◌, suc, Bool, true, ◌&&◌, List, [], ◌∷◌, ◌++◌, length, map, fold, Option, is_none, refl, sym, ap}
use Rattle.std.specs.List.{list_all, flat_map}
use Rattle.semantics.specs.declared.element.Element.{Element}
use Rattle.semantics.specs.Deck.{first_some}
use Rattle.deck_cards.proofs.Firsts.{first_some-cons, is_none-or}
use Rattle.deck_cards.proofs.Named.{and_both}

pub length_swap : (x y : Element) (before after : List Element) → length (before ++ (x ∷ after)) ≡ length (before ++ (y ∷ after))
length_swap x y [] after = refl
length_swap x y (b ∷ before) after = ap suc (length_swap x y before after)

pub map_swap : {B : Type 0} (h : Element → B) (x y : Element) (before after : List Element) → h x ≡ h y → map h (before ++ (x ∷ after)) ≡ map h (before ++ (y ∷ after))
map_swap h x y [] after same = ap (λ z. z ∷ map h after) same
map_swap h x y (b ∷ before) after same = ap (λ zs. h b ∷ zs) (map_swap h x y before after same)

pub flat_swap : {B : Type 0} (h : Element → List B) (x y : Element) (before after : List Element) → h x ≡ h y → flat_map h (before ++ (x ∷ after)) ≡ flat_map h (before ++ (y ∷ after))
flat_swap h x y [] after same = ap (λ z. z ++ flat_map h after) same
flat_swap h x y (b ∷ before) after same = ap (λ zs. h b ++ zs) (flat_swap h x y before after same)

pub fold_swap : {T : Type 0} (f : T → Element → T) (x y : Element) (before after : List Element) → ((t : T) → f t x ≡ f t y) → (t : T) → fold f t (before ++ (x ∷ after)) ≡ fold f t (before ++ (y ∷ after))
fold_swap f x y [] after same t = ap (λ s. fold f s after) (same t)
fold_swap f x y (b ∷ before) after same t = fold_swap f x y before after same (f t b)

-- what all pass but one, where the other passes
pub all_swap : (p : Element → Bool) (x y : Element) (before after : List Element) → p y ≡ true → list_all p (before ++ (x ∷ after)) ≡ true → list_all p (before ++ (y ∷ after)) ≡ true
all_swap p x y [] after is all = λ i. is i && (and_both (p x) (list_all p after) all).1 i
all_swap p x y (b ∷ before) after is all =
    let h = and_both (p b) (list_all p (before ++ (x ∷ after))) all in
    λ i. h.0 i && all_swap p x y before after is h.1 i

none_cons : {B : Type 0} (f : Element → Option B) (e : Element) (es : List Element) → is_none (first_some f (e ∷ es)) ≡ (is_none (f e) && is_none (first_some f es))
none_cons f e es = ap is_none (first_some-cons f e es) ∙ is_none-or (f e) (first_some f es)

-- whether something is found at an element
pub none_swap : {B : Type 0} (f : Element → Option B) (x y : Element) (before after : List Element) → is_none (f x) ≡ is_none (f y)
    → is_none (first_some f (before ++ (x ∷ after))) ≡ is_none (first_some f (before ++ (y ∷ after)))
none_swap f x y [] after same = none_cons f x after ∙ ((λ i. same i && is_none (first_some f after)) ∙ sym (none_cons f y after))
none_swap f x y (b ∷ before) after same =
    none_cons f b (before ++ (x ∷ after)) ∙ ((λ i. is_none (f b) && none_swap f x y before after same i) ∙ sym (none_cons f b (before ++ (y ∷ after))))

-- what holds of all holds of the one between
pub middle : (p : Element → Bool) (before : List Element) (x : Element) (after : List Element) → list_all p (before ++ (x ∷ after)) ≡ true → p x ≡ true
middle p [] x after all = (and_both (p x) (list_all p after) all).0
middle p (b ∷ before) x after all = middle p before x after (and_both (p b) (list_all p (before ++ (x ∷ after))) all).1
