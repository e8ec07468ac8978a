-- What is changed between two decks is changed on the way through a third.
use Rattle.std.proofs.Common.{◌≡◌, ◌≢◌, ◌⊎◌, ℤ, Bool, true, false, List, [], ◌∷◌, Contains, refl, sym, ◌∙◌, arith, inl, inr, ⊎_elim}
use Rattle.std.specs.Ordering.{int_eq}
use Rattle.std.proofs.lemmas.Bool.{false≢true}
use Rattle.std.proofs.lemmas.Bool.Decides.{Decides-int_eq}
use Rattle.std.proofs.lemmas.List.Elements.{Contains-append_right}
use Rattle.semantics.specs.declared.element.Element.{Element}
use Rattle.semantics.specs.Deck.{Name, DeckValue, initial_of}
use Rattle.semantics.specs.Edit.{IsChanged, IsOnlyIn}
use Rattle.edit_laws.proofs.Same.{same_element}
use Rattle.edit_laws.proofs.Stretch.{in_head}

-- an element stands among others or not
stands : (es : List Element) (x : Element) → Contains es x ⊎ (Contains es x → ⊥)
stands [] x = inr (λ at. let below = at.1 in absurd (omega (arith, below)))
stands (y ∷ es) x = by (same_element y x) (stands es x)
  where
    by : (y ≡ x) ⊎ (y ≢ x) → Contains es x ⊎ (Contains es x → ⊥) → Contains (y ∷ es) x ⊎ (Contains (y ∷ es) x → ⊥)
    by (inl is) rest = inl (0, omega arith, is)
    by (inr other) (inl later) = inl (Contains-append_right (y ∷ []) es x later)
    by (inr other) (inr never) = inr (λ at. ⊎_elim other never (in_head x y es at))

only_through : (old mid new : DeckValue) (x : Element) → IsOnlyIn old new x → IsOnlyIn old mid x ⊎ IsOnlyIn mid new x
only_through old mid new x h = by (stands mid.elements x)
  where
    by : Contains mid.elements x ⊎ (Contains mid.elements x → ⊥) → IsOnlyIn old mid x ⊎ IsOnlyIn mid new x
    by (inl at) = inr (at, h.1)
    by (inr never) = inl (h.0, never)

pub changed_through : (old mid new : DeckValue) (x : Element) → IsChanged old new x → IsChanged old mid x ⊎ IsChanged mid new x
changed_through old mid new x (inl gone) = by (only_through old mid new x gone)
  where
    by : IsOnlyIn old mid x ⊎ IsOnlyIn mid new x → IsChanged old mid x ⊎ IsChanged mid new x
    by (inl first) = inl (inl first)
    by (inr second) = inr (inl second)
changed_through old mid new x (inr come) = by (only_through new mid old x come)
  where
    by : IsOnlyIn new mid x ⊎ IsOnlyIn mid old x → IsChanged old mid x ⊎ IsChanged mid new x
    by (inl second) = inr (inr second)
    by (inr first) = inl (inr first)

int_through : (a b c : ℤ) → a ≢ c → (a ≢ b) ⊎ (b ≢ c)
int_through a b c other = by (int_eq a b) refl
  where
    by : (t : Bool) → int_eq a b ≡ t → (a ≢ b) ⊎ (b ≢ c)
    by true is = inr (λ same. other ((Decides-int_eq a b).0 is ∙ same))
    by false is = inl (λ same. false≢true (sym is ∙ (Decides-int_eq a b).1 same))

pub initial_through : (old mid new : DeckValue) (n : Name) → initial_of old n ≢ initial_of new n → (initial_of old n ≢ initial_of mid n) ⊎ (initial_of mid n ≢ initial_of new n)
initial_through old mid new n other = int_through (initial_of old n) (initial_of mid n) (initial_of new n) other
