-- What is known of a node is what the definitions say of it.
use Rattle.std.proofs.Common.{◌≡◌, ℕ, suc, ◌+◌, ◌*◌, ◌^◌, ◌<◌, ◌≤◌, Bool, true, false, ◌||◌, if◌then◌else◌, List, [], ◌∷◌, length, fold, map, get_or, Option, Some, None, is_some, is_none, IfSome, ℤ, pos, negsuc, ◌+ℤ◌, unsigned_abs, slice_get, refl, sym, ◌∙◌, ap, subst, rules, arith}
use Rattle.std.specs.Option.{option_map}
use Rattle.std.specs.List.{list_all}
use Rattle.std.specs.Str.{bytes_eq}
use Rattle.std.proofs.lemmas.Bool.{false≢true}
use Rattle.std.proofs.lemmas.Int.{ints}
use Rattle.std.proofs.lemmas.Option.{slice_get-get_or, get_or_from_slice_get}
use Rattle.semantics.specs.declared.element.Element.{Element}
use Rattle.semantics.specs.declared.element.Element.TheVariants.{Resistor, Capacitor, Source, Mos}
use Rattle.semantics.specs.Deck.{DeckValue, nodes, driver, drives, total_farads, farads_at, first_some, capacity}
use Rattle.semantics.specs.Valid.{in_limits, some_farads, is_valid}
use Rattle.semantics.proofs.Limits.{limits}
use Rattle.deck_cards.specs.declared.facts.NodeFacts.{NodeFacts}
use Rattle.deck_cards.specs.Facts.{place_of, source_of, farads_of, known, IsTable}
use Rattle.deck_cards.proofs.Named.{and_both, read_named}

-- what is known of the nodes of a deck is known of those of the same deck
pub same_table : {a d : DeckValue} (row : List NodeFacts) → a ≡ d → row ≡ map (known a.elements) (nodes a) → IsTable d (nodes d) row
same_table {d = d} row same is = record { names = refl; facts = subst (λ x. row ≡ map (known x.elements) (nodes x)) same is }

-- ---- drivers

is_driven : {A B : Type 0} (f : A → Option B) (xs : List A) → is_some (place_of (λ x. is_some (f x)) xs) ≡ is_some (first_some f xs)
is_driven f [] = refl
is_driven {B = B} f (x ∷ xs) = by (f x) (place_of (λ y. is_some (f y)) xs) (is_driven f xs)
  where
    by : (o : Option B) (r : Option ℕ) → is_some r ≡ is_some (first_some f xs)
        → is_some (if is_some o then Some 0 else option_map (λ i. i + 1) r) ≡ is_some (elim o [ None ↦ first_some f xs | Some z ↦ Some z ])
    by None None ih = ih
    by None (Some i) ih = ih
    by (Some z) r ih = refl

first_at : {A B : Type 0} (f : A → Option B) (xs : List A) (d : A) (i : ℕ) → place_of (λ x. is_some (f x)) xs ≡ Some i → (i < length xs) × (first_some f xs ≡ f (get_or xs i d))
first_at f [] d i h = absurd (cc)
first_at {B = B} f (x ∷ xs) d i h = by (f x) refl (place_of (λ y. is_some (f y)) xs) refl (first_at f xs d) h
  where
    by : (o : Option B) → f x ≡ o → (r : Option ℕ) → place_of (λ y. is_some (f y)) xs ≡ r
        → ((j : ℕ) → place_of (λ y. is_some (f y)) xs ≡ Some j → (j < length xs) × (first_some f xs ≡ f (get_or xs j d)))
        → (if is_some o then Some 0 else option_map (λ k. k + 1) r) ≡ Some i
        → (i < suc (length xs)) × (elim o [ None ↦ first_some f xs | Some z ↦ Some z ] ≡ f (get_or (x ∷ xs) i d))
    by (Some z) e r there ih is =
        let zero_is : i ≡ 0 = cc in
        (omega arith, sym (ap (λ k. f (get_or (x ∷ xs) k d)) zero_is ∙ e))
    by None e None there ih is = absurd (cc)
    by None e (Some j) there ih is =
        let p = ih j there in
        let next : i ≡ j + 1 = cc in
        let more : i ≡ suc j = omega arith in
        (omega (arith, p.0), p.1 ∙ ap (λ k. f (get_or (x ∷ xs) k d)) (sym more))

pub driver_at : (d : DeckValue) (n : List ℕ) (e : Element) (place : ℕ) → source_of n d.elements ≡ Some place
    → (place < length d.elements) × (driver d n ≡ drives n (get_or d.elements place e))
unfolding source_of driver
driver_at d n e place h = first_at (drives n) d.elements e place h

-- a driven node is known to be
pub driver_known : (d : DeckValue) (n : List ℕ) → is_none (source_of n d.elements) ≡ is_none (driver d n)
unfolding source_of driver
driver_known d n = flip (place_of (λ e. is_some (drives n e)) d.elements) (first_some (drives n) d.elements) (is_driven (drives n) d.elements)
  where
    flip : {A B : Type 0} (a : Option A) (b : Option B) → is_some a ≡ is_some b → is_none a ≡ is_none b
    flip None None h = refl
    flip None (Some y) h = absurd (cc)
    flip (Some x) None h = absurd (cc)
    flip (Some x) (Some y) h = refl

pub no_driver : (d : DeckValue) (n : List ℕ) → source_of n d.elements ≡ None → driver d n ≡ None
unfolding source_of driver
no_driver d n h = by (first_some (drives n) d.elements) (sym (is_driven (drives n) d.elements) ∙ ap is_some h)
  where
    by : (o : Option (List (ℕ × ℤ) × Bool)) → is_some o ≡ false → o ≡ None
    by None e = refl
    by (Some x) e = absurd (cc)

-- ---- capacitances

-- the sum of the capacitors at a node, each in its limit
some_farads-abs : (x : ℤ) → some_farads x ≡ true → unsigned_abs x ≤ 10 ^ 12
some_farads-abs (pos x) h = search (rules, arith)
some_farads-abs (negsuc x) h = absurd (false≢true h)

total_small : (n : List ℕ) (es : List Element) (a : ℤ) → list_all in_limits es ≡ true
    → unsigned_abs (fold (λ total e. total +ℤ farads_at n e) a es) ≤ unsigned_abs a + 10 ^ 12 * length es
total_small n [] a all = omega arith
total_small n (e ∷ es) a all =
    let h = and_both (in_limits e) (list_all in_limits es) all in
    omega (arith, ints, total_small n es (a +ℤ farads_at n e) h.1, one n e h.0)
  where
    one : (n : List ℕ) (e : Element) → in_limits e ≡ true → unsigned_abs (farads_at n e) ≤ 10 ^ 12
    one n (Resistor name first second ohms) h = omega arith
    one n (Source name plus minus wave) h = omega arith
    one n (Mos name drain gate source bulk part len width) h = omega arith
    one n (Capacitor name plus minus farads) h = at (bytes_eq n plus || bytes_eq n minus)
      where
        at : (b : Bool) → unsigned_abs (if b then farads else pos 0) ≤ 10 ^ 12
        at true = some_farads-abs farads h
        at false = omega arith

pub capacity_small : (d : DeckValue) (n : List ℕ) → is_valid d ≡ true → capacity d n < 2 ^ 64
unfolding total_farads
capacity_small d n valid =
    let l = limits d valid in
    omega (arith, total_small n d.elements (pos 0) l.values, l.few_elements)

-- ---- reading one node

-- what stands at the place of a node is what is known of it
pub known_at : (d : DeckValue) (keys : List (List ℕ)) (row : List NodeFacts) (i : ℕ) (f : NodeFacts) → IsTable d keys row → i < length (nodes d) → f ≡ get_or row i f
    → f ≡ known d.elements (get_or (nodes d) i [])
known_at d keys row i f table within at =
    at ∙ ap (λ l. get_or l i f) table.facts ∙ read_named (known d.elements) (nodes d) (get_or (nodes d) i []) i f (slice_get-get_or (nodes d) i [] within)

pub at_node : (d : DeckValue) (keys : List (List ℕ)) (row : List NodeFacts) (i : ℕ) (f : NodeFacts) (P : List ℕ → Type 0) → IsTable d keys row → i < length (nodes d) → f ≡ get_or row i f
    → ((n : List ℕ) → slice_get (nodes d) i ≡ Some n → f ≡ known d.elements n → P n) → IfSome (slice_get (nodes d) i) P
at_node d keys row i f P table within at each =
    let there = slice_get-get_or (nodes d) i [] within in
    subst (λ o. IfSome o P) (sym there) (each (get_or (nodes d) i []) there (known_at d keys row i f table within at))

pub capacity_is : (d : DeckValue) (n : List ℕ) (f : NodeFacts) → f ≡ known d.elements n → unsigned_abs f.farads ≡ capacity d n
unfolding total_farads farads_of
capacity_is d n f is = ap (λ x. unsigned_abs x.farads) is

-- the element that drives a node, as the table finds it
pub driver_found : (d : DeckValue) (n m : List ℕ) (place : ℕ) (e : Element) → source_of n d.elements ≡ Some place → slice_get d.elements place ≡ Some e
    → n ≡ m → driver d n ≡ drives m e
driver_found d n m place e is at same =
    (driver_at d n e place is).1 ∙ (λ i. drives (same i) (get_or_from_slice_get d.elements place e e at i))

pub place_within : (d : DeckValue) (n : List ℕ) (place : ℕ) → source_of n d.elements ≡ Some place → place < length d.elements
place_within d n place is = (driver_at d n (Resistor [] [] [] (pos 0)) place is).0
