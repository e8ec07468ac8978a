-- Two elements are the same or not.
use Rattle.std.proofs.Common.{◌≡◌, ◌≢◌, ◌⊎◌, ℕ, ℤ, pos, ◌==◌, Bool, true, false, ◌&&◌, cond, List, [], ◌∷◌, get_or, Option, Some, None, unwrap_or, refl, sym, ap, ◌∙◌, inl, inr}
use Rattle.std.specs.Ordering.{int_eq}
use Rattle.std.specs.Str.{bytes_eq}
use Rattle.std.specs.Cmp.Lexicographic.{pointwise, pointwise_decides}
use Rattle.std.specs.Bool.{Decides}
use Rattle.std.proofs.lemmas.Bool.{false≢true}
use Rattle.std.proofs.lemmas.Bool.Decides.{Decides-and, Decides-like, Decides-eqb, Decides-int_eq}
use Rattle.std.proofs.lemmas.Slice.Eq.{bytes_eq-Decides}
use Rattle.std.proofs.lemmas.Option.{none-some}
use Rattle.semantics.specs.declared.element.Element.{Element}
use Rattle.semantics.specs.declared.element.Element.TheVariants.{Resistor, Capacitor, Source, Mos}

-- what an element's card says, in one form for all kinds
record Card : Type 0 where
  kind : ℕ
  names : List (List ℕ)
  numbers : List ℤ
  points : List (ℕ × ℤ)

card : Element → Card
card (Resistor name first second ohms) = record { kind = 0; names = name ∷ first ∷ second ∷ []; numbers = ohms ∷ []; points = [] }
card (Capacitor name plus minus farads) = record { kind = 1; names = name ∷ plus ∷ minus ∷ []; numbers = farads ∷ []; points = [] }
card (Source name plus minus wave) = record { kind = 2; names = name ∷ plus ∷ minus ∷ []; numbers = []; points = wave }
card (Mos name drain gate source bulk part len width) = record { kind = 3; names = name ∷ drain ∷ gate ∷ source ∷ bulk ∷ part ∷ []; numbers = len ∷ width ∷ []; points = [] }

abbrev text : Card → ℕ → List ℕ
text c i = get_or c.names i []

abbrev number : Card → ℕ → ℤ
number c i = get_or c.numbers i (pos 0)

element : Card → Element
element c = cond (c.kind == 0) (Resistor (text c 0) (text c 1) (text c 2) (number c 0))
    (cond (c.kind == 1) (Capacitor (text c 0) (text c 1) (text c 2) (number c 0))
    (cond (c.kind == 2) (Source (text c 0) (text c 1) (text c 2) c.points)
    (Mos (text c 0) (text c 1) (text c 2) (text c 3) (text c 4) (text c 5) (number c 0) (number c 1))))

read_back : (x : Element) → element (card x) ≡ x
unfolding element card
read_back (Resistor name first second ohms) = refl
read_back (Capacitor name plus minus farads) = refl
read_back (Source name plus minus wave) = refl
read_back (Mos name drain gate source bulk part len width) = refl

abbrev same_point : ℕ × ℤ → ℕ × ℤ → Bool
same_point p q = (p.0 == q.0) && int_eq p.1 q.1

decides_point : (p q : ℕ × ℤ) → Decides (same_point p q) (p ≡ q)
decides_point p q = Decides-like (same_point p q) (λ h. λ i. (h.0 i, h.1 i)) (λ h. (ap (λ r. r.0) h, ap (λ r. r.1) h))
    (Decides-and (p.0 == q.0) (int_eq p.1 q.1) (Decides-eqb p.0 q.0) (Decides-int_eq p.1 q.1))

abbrev same_card : Card → Card → Bool
same_card a b = (a.kind == b.kind) && (pointwise bytes_eq a.names b.names && (pointwise int_eq a.numbers b.numbers && pointwise same_point a.points b.points))

decides_card : (a b : Card) → Decides (same_card a b) (a ≡ b)
decides_card a b = Decides-like (same_card a b)
    (λ h. λ i. record { kind = h.0 i; names = h.1.0 i; numbers = h.1.1.0 i; points = h.1.1.1 i })
    (λ h. (ap (λ c. c.kind) h, (ap (λ c. c.names) h, (ap (λ c. c.numbers) h, ap (λ c. c.points) h))))
    (Decides-and (a.kind == b.kind) _ (Decides-eqb a.kind b.kind)
    (Decides-and (pointwise bytes_eq a.names b.names) _ (pointwise_decides bytes_eq-Decides a.names b.names)
    (Decides-and (pointwise int_eq a.numbers b.numbers) (pointwise same_point a.points b.points) (pointwise_decides Decides-int_eq a.numbers b.numbers)
    (pointwise_decides decides_point a.points b.points))))

-- two elements are the same, or they differ
pub same_element : (x y : Element) → (x ≡ y) ⊎ (x ≢ y)
same_element x y = by (same_card (card x) (card y)) refl
  where
    by : (b : Bool) → same_card (card x) (card y) ≡ b → (x ≡ y) ⊎ (x ≢ y)
    by true is = inl (sym (read_back x) ∙ (ap element ((decides_card (card x) (card y)).0 is) ∙ read_back y))
    by false is = inr (λ same. false≢true (sym is ∙ (decides_card (card x) (card y)).1 (ap card same)))

pub same_option : (o p : Option Element) → (o ≡ p) ⊎ (o ≢ p)
same_option None None = inl refl
same_option None (Some y) = inr (none-some y)
same_option (Some x) None = inr (λ is. none-some x (sym is))
same_option (Some x) (Some y) = by (same_element x y)
  where
    by : (x ≡ y) ⊎ (x ≢ y) → (Some x ≡ Some y) ⊎ (Some x ≢ Some y)
    by (inl same) = inl (ap Some same)
    by (inr other) = inr (λ is. other (ap (λ o. unwrap_or o x) is))
