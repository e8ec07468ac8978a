-- The first free node of which something holds, as the table of the nodes finds it.
use Rattle.std.proofs.Common.{◌≡◌, ◌∙◌, ℕ, suc, ◌+◌, nat_lt, nat_le, ◌^◌, ℤ, pos, negsuc, int_lt, int_le, Bool, true, false, not, ◌&&◌, if◌then◌else◌, cond, List, [], ◌∷◌, length, map, filter, position, slice_get, Option, Some, None, is_none, option_and_then, refl, sym, ap, arith}
use Rattle.std.specs.List.{position_or_len, zip}
use Rattle.std.specs.Option.{option_map}
use Rattle.std.specs.Ordering.{int_eq}
use Rattle.std.proofs.lemmas.Bool.{ltb-false}
use Rattle.std.proofs.lemmas.Bool.Decides.{nat_tests}
use Rattle.std.proofs.lemmas.List.{length-map, map-id}
use Rattle.std.proofs.lemmas.Option.{slice_get_past}
use Rattle.semantics.specs.Deck.{DeckValue, nodes, free_nodes, driver, look_up, total_farads, terminals}
use Rattle.deck_cards.specs.declared.facts.NodeFacts.{NodeFacts}
use Rattle.deck_cards.specs.Causes.{first_that, uncapped, no_initial, node_farads, many_terminals}
use Rattle.deck_cards.specs.declared.edit_refusal.EditRefusal.TheVariants.{Uncapped, NoInitial, Limit}
use Rattle.deck_cards.specs.declared.which.Which.TheVariants.{NodeFarads, Terminals}
use Rattle.deck_cards.specs.Facts.{IsTable, known, farads_of, terminals_of}
use Rattle.deck_cards.proofs.Meaning.{driver_known}

module _ {N X : Type 0} (p : X → Bool) (f : N → X) where
  at_place : (names : List N) → slice_get names (position_or_len p (map f names)) ≡ first_that (λ n. p (f n)) names
  at_place [] = refl
  at_place (n ∷ ns) = by (p (f n)) (at_place ns)
    where
      more : (k : ℕ) → slice_get (n ∷ ns) (1 + k) ≡ slice_get ns k
      more k = let e : 1 + k ≡ suc k = omega arith in ap (slice_get (n ∷ ns)) e

      by : (b : Bool) → slice_get ns (position_or_len p (map f ns)) ≡ first_that (λ m. p (f m)) ns
          → slice_get (n ∷ ns) (cond (not b) (1 + position_or_len p (map f ns)) 0) ≡ elim (if b then Some n else None) [ None ↦ first_that (λ m. p (f m)) ns | Some y ↦ Some y ]
      by true ih = refl
      by false ih = more (position_or_len p (map f ns)) ∙ ih

  -- what stands at the first place that passes
  pub first_named : (names : List N) → option_and_then (slice_get names) (position p (map f names)) ≡ first_that (λ n. p (f n)) names
  first_named names = by (nat_lt (position_or_len p (map f names)) (length (map f names))) refl ∙ at_place names
    where
      by : (b : Bool) → nat_lt (position_or_len p (map f names)) (length (map f names)) ≡ b
          → option_and_then (slice_get names) (if b then Some (position_or_len p (map f names)) else None) ≡ slice_get names (position_or_len p (map f names))
      by true e = refl
      by false e = sym (slice_get_past names (position_or_len p (map f names)) (omega (arith, ltb-false _ _ e, length-map names f)))

-- among those that pass one test, the first that passes another
first_of_those : {A : Type 0} (p q : A → Bool) (xs : List A) → first_that (λ x. p x && q x) xs ≡ first_that q (filter p xs)
first_of_those p q [] = refl
first_of_those {A = A} p q (x ∷ xs) = by (p x) (first_of_those p q xs)
  where
    by : (a : Bool) → first_that (λ y. p y && q y) xs ≡ first_that q (filter p xs)
        → ◌≡◌ {A = Option A} (elim (if a && q x then Some x else None) [ None ↦ first_that (λ y. p y && q y) xs | Some y ↦ Some y ]) (first_that q (if a then x ∷ filter p xs else filter p xs))
    by true ih = λ i. elim (if q x then Some x else None) [ None ↦ ih i | Some y ↦ Some y ]
    by false ih = ih

-- the first free node of which p holds, by a list that has a value for each node
free_first : {X : Type 0} (d : DeckValue) (names : List (List ℕ)) (row : List X) (K : List ℕ → X) (place : Option ℕ) (free p : X → Bool) → names ≡ nodes d → row ≡ map K (nodes d)
    → ((n : List ℕ) → free (K n) ≡ is_none (driver d n)) → place ≡ position (λ x. free x && p x) row → option_and_then (slice_get names) place ≡ first_that (λ n. p (K n)) (free_nodes d)
unfolding free_nodes
free_first {X} d names row K place free p named each driven is =
    let P = λ (x : X). free x && p x in
    (λ i. option_and_then (slice_get (named i)) ((is ∙ ap (position P) each) i)) ∙ first_named P K (nodes d)
    ∙ (λ i. first_that (λ n. driven n i && p (K n)) (nodes d))
    ∙ first_of_those (λ n. is_none (driver d n)) (λ n. p (K n)) (nodes d)

-- what is known of each node, and another value of each
zip-maps : {A B C : Type 0} (f : A → B) (g : A → C) (xs : List A) → zip (map f xs) (map g xs) ≡ map (λ x. (f x, g x)) xs
zip-maps f g [] = refl
zip-maps f g (x ∷ xs) = ap (λ l. (f x, g x) ∷ l) (zip-maps f g xs)

free_beside : {B : Type 0} (d : DeckValue) (names : List (List ℕ)) (facts : List NodeFacts) (values : List B) (g : List ℕ → B) (place : Option ℕ) (p : B → Bool) → IsTable d names facts
    → values ≡ map g (nodes d) → place ≡ position (λ f. is_none f.0.source && p f.1) (zip facts values) → option_and_then (slice_get names) place ≡ first_that (λ n. p (g n)) (free_nodes d)
free_beside d names facts values g place p table each is =
    free_first d names (zip facts values) (λ n. (known d.elements n, g n)) place (λ f. is_none f.0.source) (λ f. p f.1) table.names
    ((λ i. zip (table.facts i) (each i)) ∙ zip-maps (known d.elements) g (nodes d)) (driver_known d) is

over_farads : (z : ℤ) → int_lt (pos (10 ^ 12)) z ≡ not (int_le z (pos (10 ^ 12)))
over_farads (pos n) = grind (arith, nat_tests)
over_farads (negsuc n) = refl

over_terminals : (n : ℕ) → nat_lt 1000 n ≡ not (nat_le n 1000)
over_terminals n = grind (arith, nat_tests)

-- ---- the four things that a free node may lack

module _ (d : DeckValue) (names : List (List ℕ)) (facts : List NodeFacts) (place : Option ℕ) (table : IsTable d names facts) where
  pub uncapped_is : place ≡ position (λ f. is_none f.source && int_eq f.farads (pos 0)) facts → option_map Uncapped (option_and_then (slice_get names) place) ≡ uncapped d
  unfolding uncapped total_farads farads_of
  uncapped_is is =
      ap (option_map Uncapped) (free_first d names facts (known d.elements) place (λ f. is_none f.source) (λ f. int_eq f.farads (pos 0)) table.names table.facts (driver_known d) is)

  pub no_initial_is : (uic : Bool) (initial : List (List ℕ × ℤ)) → uic ≡ d.uic → initial ≡ d.initial
      → place ≡ position (λ f. is_none f.0.source && (not uic && is_none (look_up f.1 initial))) (zip facts names) → option_map NoInitial (option_and_then (slice_get names) place) ≡ no_initial d
  unfolding no_initial
  no_initial_is uic initial same given is =
      ap (option_map NoInitial) (free_beside d names facts names (λ n. n) place (λ n. not uic && is_none (look_up n initial)) table (table.names ∙ sym (map-id (nodes d))) is
      ∙ (λ i. first_that (λ n. not (same i) && is_none (look_up n (given i))) (free_nodes d)))

  pub node_farads_is : place ≡ position (λ f. is_none f.source && int_lt (pos (10 ^ 12)) f.farads) facts → option_map (Limit NodeFarads) (option_and_then (slice_get names) place) ≡ node_farads d
  unfolding node_farads total_farads farads_of
  node_farads_is is =
      ap (option_map (Limit NodeFarads)) (free_first d names facts (known d.elements) place (λ f. is_none f.source) (λ f. int_lt (pos (10 ^ 12)) f.farads) table.names table.facts (driver_known d) is
      ∙ (λ i. first_that (λ n. over_farads (farads_of n d.elements) i) (free_nodes d)))

  pub many_terminals_is : (counts : List ℕ) → counts ≡ map (λ n. terminals_of n d.elements) names → place ≡ position (λ f. is_none f.0.source && nat_lt 1000 f.1) (zip facts counts)
      → option_map (Limit Terminals) (option_and_then (slice_get names) place) ≡ many_terminals d
  unfolding many_terminals terminals terminals_of
  many_terminals_is counts each is =
      ap (option_map (Limit Terminals)) (free_beside d names facts counts (λ n. terminals_of n d.elements) place (nat_lt 1000) table (each ∙ ap (map (λ n. terminals_of n d.elements)) table.names) is
      ∙ (λ i. first_that (λ n. over_terminals (terminals_of n d.elements) i) (free_nodes d)))
