-- Elements of the same form are equal, and a deck has at most one of a name.
use Rattle.std.proofs.Common.{◌≡◌, ◌∙◌, ℕ, zero, suc, ◌<◌, ℤ, Bool, true, false, not, ◌&&◌, ◌||◌, nat_eq, List, [], ◌∷◌, length, map, get_or, slice_get, Some, refl, sym, ap, ⊎_elim, Contains, arith}
use Rattle.std.specs.Bool.{Decides}
use Rattle.std.specs.List.{list_any, flat_map}
use Rattle.std.specs.Option.{option_map}
use Rattle.std.specs.Ordering.{int_eq}
use Rattle.std.specs.Str.{bytes_eq}
use Rattle.std.proofs.lemmas.Bool.{false≢true, and_parts, and_from, or_cases, or_parts, false_from_ne_true}
use Rattle.std.proofs.lemmas.Bool.Decides.{Decides-eqb, Decides-int_eq}
use Rattle.std.proofs.lemmas.Slice.Eq.{slice_eq-Decides}
use Rattle.semantics.specs.declared.element.Element.{Element}
use Rattle.semantics.specs.declared.element.Element.TheVariants.{Resistor, Capacitor, Source, Mos}
use Rattle.semantics.specs.Deck.{DeckValue, name_of}
use Rattle.semantics.specs.Valid.{is_valid, has_limits, has_elements, has_nodes, differ, driven_of}
use Rattle.semantics.proofs.Nodes.{bytes_eq-same, same-bytes_eq, none_at}
use Rattle.deck_cards.proofs.Named.{from_not, not_at}
use Rattle.deck_cards.proofs.Once.{any_map}
use Rattle.edit_damage.specs.Same.{same_point, same_wave, same_element, has_element, is_mos_between, is_mos_of}

-- ---- equal elements

point_decides : (p q : ℕ × ℤ) → Decides (same_point p q) (p ≡ q)
point_decides p q = (
  (λ h. let both = and_parts (nat_eq p.0 q.0) (int_eq p.1 q.1) h in
      let ticks : p.0 ≡ q.0 = (Decides-eqb p.0 q.0).0 both.0 in
      let volts : p.1 ≡ q.1 = (Decides-int_eq p.1 q.1).0 both.1 in λ i. (ticks i, volts i)),
  (λ e. and_from (nat_eq p.0 q.0) (int_eq p.1 q.1) ((Decides-eqb p.0 q.0).1 (ap (λ (r : ℕ × ℤ). r.0) e)) ((Decides-int_eq p.1 q.1).1 (ap (λ (r : ℕ × ℤ). r.1) e))),
)

wave_decides : (ps qs : List (ℕ × ℤ)) → Decides (same_wave ps qs) (ps ≡ qs)
wave_decides ps qs = slice_eq-Decides point_decides ps qs (same_wave ps qs) refl

int_same : (a b : ℤ) → int_eq a b ≡ true → a ≡ b
int_same a b h = (Decides-int_eq a b).0 h

int_itself : (a : ℤ) → int_eq a a ≡ true
int_itself a = (Decides-int_eq a a).1 refl

itself : (n : List ℕ) → bytes_eq n n ≡ true
itself n = bytes_eq-same n n refl

-- three tests, and four
three : (a b c d : Bool) → (a && (b && (c && d))) ≡ true → (a ≡ true) × (b ≡ true) × (c ≡ true) × (d ≡ true)
three true true true true h = (refl, refl, refl, refl)
three true true true false h = absurd (false≢true h)
three true true false d h = absurd (false≢true h)
three true false c d h = absurd (false≢true h)
three false b c d h = absurd (false≢true h)

all : (a b c d : Bool) → a ≡ true → b ≡ true → c ≡ true → d ≡ true → (a && (b && (c && d))) ≡ true
all a b c d p q r s = and_from a (b && (c && d)) p (and_from b (c && d) q (and_from c d r s))

pub same_is : (x y : Element) → same_element x y ≡ true → x ≡ y
same_is (Resistor n a b o) (Resistor n' a' b' o') h =
    let t = three (bytes_eq n n') (bytes_eq a a') (bytes_eq b b') (int_eq o o') h in
    let e0 : n ≡ n' = same-bytes_eq n n' t.0 in let e1 : a ≡ a' = same-bytes_eq a a' t.1 in let e2 : b ≡ b' = same-bytes_eq b b' t.2 in let e3 : o ≡ o' = int_same o o' t.3 in
    λ i. Resistor (e0 i) (e1 i) (e2 i) (e3 i)
same_is (Capacitor n a b o) (Capacitor n' a' b' o') h =
    let t = three (bytes_eq n n') (bytes_eq a a') (bytes_eq b b') (int_eq o o') h in
    let e0 : n ≡ n' = same-bytes_eq n n' t.0 in let e1 : a ≡ a' = same-bytes_eq a a' t.1 in let e2 : b ≡ b' = same-bytes_eq b b' t.2 in let e3 : o ≡ o' = int_same o o' t.3 in
    λ i. Capacitor (e0 i) (e1 i) (e2 i) (e3 i)
same_is (Source n a b w) (Source n' a' b' w') h =
    let t = three (bytes_eq n n') (bytes_eq a a') (bytes_eq b b') (same_wave w w') h in
    let e0 : n ≡ n' = same-bytes_eq n n' t.0 in let e1 : a ≡ a' = same-bytes_eq a a' t.1 in let e2 : b ≡ b' = same-bytes_eq b b' t.2 in let e3 : w ≡ w' = (wave_decides w w').0 t.3 in
    λ i. Source (e0 i) (e1 i) (e2 i) (e3 i)
same_is (Mos n d g s b p l w) (Mos n' d' g' s' b' p' l' w') h =
    let both = and_parts (is_mos_between d g s b (Mos n' d' g' s' b' p' l' w')) (is_mos_of n p l w (Mos n' d' g' s' b' p' l' w')) h in
    let t = three (bytes_eq d d') (bytes_eq g g') (bytes_eq s s') (bytes_eq b b') both.0 in
    let u = three (bytes_eq n n') (bytes_eq p p') (int_eq l l') (int_eq w w') both.1 in
    let e0 : n ≡ n' = same-bytes_eq n n' u.0 in let e1 : d ≡ d' = same-bytes_eq d d' t.0 in let e2 : g ≡ g' = same-bytes_eq g g' t.1 in let e3 : s ≡ s' = same-bytes_eq s s' t.2 in
    let e4 : b ≡ b' = same-bytes_eq b b' t.3 in let e5 : p ≡ p' = same-bytes_eq p p' u.1 in let e6 : l ≡ l' = int_same l l' u.2 in let e7 : w ≡ w' = int_same w w' u.3 in
    λ i. Mos (e0 i) (e1 i) (e2 i) (e3 i) (e4 i) (e5 i) (e6 i) (e7 i)
same_is (Resistor n a b o) (Capacitor n' a' b' o') h = absurd (false≢true h)
same_is (Resistor n a b o) (Source n' a' b' w') h = absurd (false≢true h)
same_is (Resistor n a b o) (Mos n' d' g' s' b' p' l' w') h = absurd (false≢true h)
same_is (Capacitor n a b o) (Resistor n' a' b' o') h = absurd (false≢true h)
same_is (Capacitor n a b o) (Source n' a' b' w') h = absurd (false≢true h)
same_is (Capacitor n a b o) (Mos n' d' g' s' b' p' l' w') h = absurd (false≢true h)
same_is (Source n a b w) (Resistor n' a' b' o') h = absurd (false≢true h)
same_is (Source n a b w) (Capacitor n' a' b' o') h = absurd (false≢true h)
same_is (Source n a b w) (Mos n' d' g' s' b' p' l' w') h = absurd (false≢true h)
same_is (Mos n d g s b p l w) (Resistor n' a' b' o') h = absurd (false≢true h)
same_is (Mos n d g s b p l w) (Capacitor n' a' b' o') h = absurd (false≢true h)
same_is (Mos n d g s b p l w) (Source n' a' b' w') h = absurd (false≢true h)

pub same_itself : (x : Element) → same_element x x ≡ true
same_itself (Resistor n a b o) = all _ _ _ _ (itself n) (itself a) (itself b) (int_itself o)
same_itself (Capacitor n a b o) = all _ _ _ _ (itself n) (itself a) (itself b) (int_itself o)
same_itself (Source n a b w) = all _ _ _ _ (itself n) (itself a) (itself b) ((wave_decides w w).1 refl)
same_itself (Mos n d g s b p l w) = and_from _ _ (all _ _ _ _ (itself d) (itself g) (itself s) (itself b)) (all _ _ _ _ (itself n) (itself p) (int_itself l) (int_itself w))

-- ---- what a deck has

-- what passes a test stands at some place
pub any_index : {X : Type 0} (p : X → Bool) (xs : List X) (d : X) → list_any p xs ≡ true → (i : ℕ) × (i < length xs) × (p (get_or xs i d) ≡ true)
any_index p [] d h = absurd (false≢true h)
any_index p (x ∷ xs) d h = ⊎_elim
    (λ (here : p x ≡ true). (0, omega arith, here))
    (λ (later : list_any p xs ≡ true). let at = any_index p xs d later in (suc at.0, omega (arith, at.1), at.2))
    (or_cases (p x) (list_any p xs) h)

pub has_from : (d : DeckValue) (e : Element) → has_element d e ≡ true → Contains d.elements e
has_from d e h = let at = any_index (same_element e) d.elements e h in (at.0, at.1, sym (same_is e (get_or d.elements at.0 e) at.2))

pub has_none : (d : DeckValue) (e : Element) → has_element d e ≡ false → Contains d.elements e → ⊥
has_none d e none at = false≢true (sym (none_at (same_element e) d.elements at.0 e none at.1) ∙ ap (same_element e) at.2 ∙ same_itself e)

pub none_has : (d : DeckValue) (e : Element) → (Contains d.elements e → ⊥) → has_element d e ≡ false
none_has d e lacks = false_from_ne_true (has_element d e) (λ h. lacks (has_from d e h))

-- ---- elements by name

pub names_differ : (d : DeckValue) → is_valid d ≡ true → differ (map name_of d.elements) ≡ true
unfolding is_valid
names_differ d valid =
    let whole = and_parts (has_limits d) (has_elements d && has_nodes d) valid in
    let elements = and_parts (has_elements d) (has_nodes d) whole.1 in
    let names = and_parts (differ (map name_of d.elements) && differ (flat_map driven_of d.elements)) _ elements.0 in
    (and_parts (differ (map name_of d.elements)) (differ (flat_map driven_of d.elements)) names.0).0

abbrev named : List ℕ → Element → Bool
named n x = bytes_eq n (name_of x)

-- where no element has its name, none has its form
pub none_same : (e : Element) (es : List Element) → list_any (named (name_of e)) es ≡ false → list_any (same_element e) es ≡ false
none_same e [] none = refl
none_same e (x ∷ xs) none =
    let parts = or_parts (named (name_of e) x) (list_any (named (name_of e)) xs) none in
    let here : same_element e x ≡ false = false_from_ne_true (same_element e x) (λ h. false≢true (sym parts.0 ∙ bytes_eq-same (name_of e) (name_of x) (ap name_of (same_is e x h)))) in
    λ i. here i || none_same e xs parts.1 i

none_named : (n : List ℕ) (es : List Element) → list_any (bytes_eq n) (map name_of es) ≡ false → list_any (named n) es ≡ false
none_named n es none = sym (any_map (bytes_eq n) name_of es) ∙ none

or_false : (b : Bool) → b ≡ (b || false)
or_false true = refl
or_false false = refl

some_is : (x y : Element) → Some x ≡ Some y → x ≡ y
some_is x y h = cc

-- where names differ, the element of its name has its form or none has
pub one_named : (e x : Element) (es : List Element) (i : ℕ) → differ (map name_of es) ≡ true → slice_get es i ≡ Some x → name_of x ≡ name_of e → same_element e x ≡ list_any (same_element e) es
one_named e x [] i apart at is = absurd (cc)
one_named e x (y ∷ ys) zero apart at is =
    let same : y ≡ x = some_is y x at in
    let others : list_any (bytes_eq (name_of y)) (map name_of ys) ≡ false = from_not _ (and_parts _ (differ (map name_of ys)) apart).0 in
    let name : name_of y ≡ name_of e = ap name_of same ∙ is in
    let rest : list_any (same_element e) ys ≡ false = none_same e ys (none_named (name_of e) ys (ap (λ n. list_any (bytes_eq n) (map name_of ys)) (sym name) ∙ others)) in
    ap (same_element e) (sym same) ∙ or_false (same_element e y) ∙ ap (λ b. same_element e y || b) (sym rest)
one_named e x (y ∷ ys) (suc i) apart at is =
    let parts = and_parts (not (list_any (bytes_eq (name_of y)) (map name_of ys))) (differ (map name_of ys)) apart in
    let others : list_any (named (name_of y)) ys ≡ false = none_named (name_of y) ys (from_not _ parts.0) in
    let other : named (name_of y) x ≡ false = not_at (named (name_of y)) ys i x others at in
    let here : same_element e y ≡ false = false_from_ne_true (same_element e y) (λ h. false≢true (sym other ∙ bytes_eq-same (name_of y) (name_of x) (ap name_of (sym (same_is e y h)) ∙ sym is))) in
    one_named e x ys i parts.1 at is ∙ ap (λ b. b || list_any (same_element e) ys) (sym here)

-- by what a look-up of its name finds
pub named_at_place : (e x : Element) (es : List Element) (i : ℕ) (n : List ℕ) → differ (map name_of es) ≡ true → slice_get es i ≡ Some x → option_map name_of (slice_get es i) ≡ Some n → n ≡ name_of e
    → same_element e x ≡ list_any (same_element e) es
named_at_place e x es i n apart at found is =
    let same : Some (name_of x) ≡ Some n = sym (ap (option_map name_of) at) ∙ found in
    let name : name_of x ≡ n = cc in
    one_named e x es i apart at (name ∙ is)

pub none_named_same : (e : Element) (es : List Element) (n : List ℕ) → list_any (λ x. bytes_eq n (name_of x)) es ≡ false → n ≡ name_of e → false ≡ list_any (same_element e) es
none_named_same e es n none is = sym (none_same e es (ap (λ m. list_any (λ x. bytes_eq m (name_of x)) es) (sym is) ∙ none))
