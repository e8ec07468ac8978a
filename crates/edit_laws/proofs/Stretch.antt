-- Two lists of elements that have the same but for one stretch, which is an element or nothing in each.
use Rattle.std.proofs.Common.{◌≡◌, ◌≢◌, ◌⊎◌, ◌↔◌, ℕ, zero, suc, ◌<◌, true, not, List, [], ◌∷◌, ◌++◌, length, get_or, All, Contains, Option, Some, None, option_to_list, refl, sym, ap, ◌∙◌, subst, arith, inl, inr}
use Rattle.std.specs.List.{list_any}
use Rattle.std.specs.Str.{bytes_eq}
use Rattle.std.proofs.lemmas.Bool.{false≢true, or_left, or_right}
use Rattle.std.proofs.lemmas.List.Elements.{All-nil, All-cons, Contains-append_left, Contains-append_right, Contains-append_cases}
use Rattle.std.proofs.lemmas.Option.{none-some}
use Rattle.semantics.specs.declared.element.Element.{Element}
use Rattle.semantics.specs.Deck.{DeckValue, name_of}
use Rattle.semantics.specs.Valid.{differ}
use Rattle.semantics.specs.Edit.{IsOnlyIn}
use Rattle.deck_cards.proofs.Named.{and_both, name_itself}
use Rattle.deck_cards.proofs.Standing.{names, head_alone, some_same}

-- the two lists, and what stands before and behind the stretch
pub record Stretch (old new : List Element) (o p : Option Element) : Type 0 where
  pub before : List Element
  pub after : List Element
  pub was : old ≡ before ++ (option_to_list o ++ after)
  pub now : new ≡ before ++ (option_to_list p ++ after)

-- ---- what stands in such a list

pub in_head : (x y : Element) (es : List Element) → Contains (y ∷ es) x → (y ≡ x) ⊎ Contains es x
in_head x y es at = by at.0 at.1 at.2
  where
    by : (k : ℕ) → k < length (y ∷ es) → get_or (y ∷ es) k x ≡ x → (y ≡ x) ⊎ Contains es x
    by zero below is = inl is
    by (suc k) below is = inr (k, omega arith, is)

pub in_stretch : (bs cs : List Element) (o : Option Element) (x : Element) → Contains (bs ++ (option_to_list o ++ cs)) x → (o ≡ Some x) ⊎ Contains (bs ++ cs) x
in_stretch bs cs None x at = inr at
in_stretch bs cs (Some z) x at = by (Contains-append_cases bs (z ∷ cs) x at)
  where
    behind : (z ≡ x) ⊎ Contains cs x → (Some z ≡ Some x) ⊎ Contains (bs ++ cs) x
    behind (inl is) = inl (ap Some is)
    behind (inr in_cs) = inr (Contains-append_right bs cs x in_cs)

    by : Contains bs x ⊎ Contains (z ∷ cs) x → (Some z ≡ Some x) ⊎ Contains (bs ++ cs) x
    by (inl in_bs) = inr (Contains-append_left bs cs x in_bs)
    by (inr in_rest) = behind (in_head x z cs in_rest)

pub beside_stretch : (bs cs : List Element) (o : Option Element) (x : Element) → Contains (bs ++ cs) x → Contains (bs ++ (option_to_list o ++ cs)) x
beside_stretch bs cs o x at = by (Contains-append_cases bs cs x at)
  where
    by : Contains bs x ⊎ Contains cs x → Contains (bs ++ (option_to_list o ++ cs)) x
    by (inl in_bs) = Contains-append_left bs (option_to_list o ++ cs) x in_bs
    by (inr in_cs) = Contains-append_right bs (option_to_list o ++ cs) x (Contains-append_right (option_to_list o) cs x in_cs)

pub is_stretch : (bs cs : List Element) (o : Option Element) (x : Element) → o ≡ Some x → Contains (bs ++ (option_to_list o ++ cs)) x
is_stretch bs cs o x is =
    subst (λ q. Contains (bs ++ (option_to_list q ++ cs)) x) (sym is) (Contains-append_right bs (x ∷ cs) x (0, omega arith, refl))

-- ---- where names differ, it stands there once

has_name : (es : List Element) (x : Element) → Contains es x → list_any (bytes_eq (name_of x)) (names es) ≡ true
has_name [] x at = let below = at.1 in absurd (omega (arith, below))
has_name (y ∷ es) x at = by (in_head x y es at) (has_name es x)
  where
    by : (y ≡ x) ⊎ Contains es x → (Contains es x → list_any (bytes_eq (name_of x)) (names es) ≡ true) → list_any (bytes_eq (name_of x)) (names (y ∷ es)) ≡ true
    by (inl is) rest = or_left _ _ (subst (λ z. bytes_eq (name_of x) (name_of z) ≡ true) (sym is) (name_itself (name_of x)))
    by (inr later) rest = or_right _ _ (rest later)

alone : (bs cs : List Element) (x : Element) → differ (names (bs ++ (x ∷ cs))) ≡ true → Contains (bs ++ cs) x → ⊥
alone [] cs x apart at = false≢true (sym (head_alone x cs apart) ∙ has_name cs x at)
alone (b ∷ bs) cs x apart at =
    by (in_head x b (bs ++ cs) at) (alone bs cs x (and_both (not (list_any (bytes_eq (name_of b)) (names (bs ++ (x ∷ cs))))) (differ (names (bs ++ (x ∷ cs)))) apart).1)
  where
    by : (b ≡ x) ⊎ Contains (bs ++ cs) x → (Contains (bs ++ cs) x → ⊥) → ⊥
    by (inl is) rest = false≢true (sym (head_alone b (bs ++ (x ∷ cs)) apart) ∙ ap (λ z. list_any (bytes_eq (name_of z)) (names (bs ++ (x ∷ cs)))) is
        ∙ has_name (bs ++ (x ∷ cs)) x (is_stretch bs cs (Some x) x refl))
    by (inr later) rest = rest later

pub not_beside : (bs cs : List Element) (o : Option Element) (x : Element) → differ (names (bs ++ (option_to_list o ++ cs))) ≡ true → o ≡ Some x → Contains (bs ++ cs) x → ⊥
not_beside bs cs None x apart is at = none-some x is
not_beside bs cs (Some z) x apart is at = alone bs cs x (subst (λ y. differ (names (bs ++ (y ∷ cs))) ≡ true) (some_same z x is) apart) at

-- ---- what one of the two lists has alone

pub alone_in : (d e : DeckValue) (bs cs : List Element) (o p : Option Element) → differ (names d.elements) ≡ true
    → d.elements ≡ bs ++ (option_to_list o ++ cs) → e.elements ≡ bs ++ (option_to_list p ++ cs)
    → (x : Element) → IsOnlyIn d e x ↔ ((o ≡ Some x) × (p ≢ Some x))
alone_in d e bs cs o p apart was now x = (to, from)
  where
    to : IsOnlyIn d e x → (o ≡ Some x) × (p ≢ Some x)
    to h = by (in_stretch bs cs o x (subst (λ es. Contains es x) was h.0))
      where
        by : (o ≡ Some x) ⊎ Contains (bs ++ cs) x → (o ≡ Some x) × (p ≢ Some x)
        by (inl is) = (is, λ same. h.1 (subst (λ es. Contains es x) (sym now) (is_stretch bs cs p x same)))
        by (inr rest) = absurd (h.1 (subst (λ es. Contains es x) (sym now) (beside_stretch bs cs p x rest)))

    from : (o ≡ Some x) × (p ≢ Some x) → IsOnlyIn d e x
    from h = (
      subst (λ es. Contains es x) (sym was) (is_stretch bs cs o x h.0),
      λ at. by (in_stretch bs cs p x (subst (λ es. Contains es x) now at)),
    )
      where
        by : (p ≡ Some x) ⊎ Contains (bs ++ cs) x → ⊥
        by (inl same) = h.1 same
        by (inr rest) = not_beside bs cs o x (ap (λ es. differ (names es)) (sym was) ∙ apart) h.0 rest

pub all_of : (P : Element → Type 0) (o : Option Element) → ((x : Element) → o ≡ Some x → P x) → All P (option_to_list o)
all_of P None each = All-nil P
all_of P (Some x) each = All-cons P x [] (each x refl) (All-nil P)
