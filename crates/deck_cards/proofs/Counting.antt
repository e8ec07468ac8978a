-- How many elements there are, the nodes that they name one after another, and the first that is one too many.
use Rattle.std.proofs.Common.{◌≡◌, ◌∙◌, ℕ, ◌+◌, ◌<◌, ◌≤◌, nat_le, Bool, true, false, ◌||◌, if◌then◌else◌, List, [], ◌∷◌, ◌++◌, length, drop, get_or, fold, slice_get, None, refl, sym, ap, subst, inl, inr, arith}
use Rattle.std.specs.List.{flat_map, list_any}
use Rattle.std.specs.Option.{option_or}
use Rattle.std.specs.Str.{bytes_eq}
use Rattle.std.proofs.lemmas.Bool.{le-leb}
use Rattle.std.proofs.lemmas.Bool.Decides.{nat_tests}
use Rattle.std.proofs.lemmas.List.{length_push}
use Rattle.std.proofs.lemmas.List.Sums.{fold-append}
use Rattle.std.proofs.lemmas.Option.{slice_get_cases}
use Rattle.semantics.specs.declared.element.Element.{Element}
use Rattle.semantics.specs.Ground.{is_ground}
use Rattle.semantics.specs.Deck.{DeckValue, name_of, ends_of, with_node}
use Rattle.deck_cards.specs.declared.which.Which.TheVariants.{Nodes}
use Rattle.deck_cards.specs.Causes.{limit, many_elements, many_nodes_from}
use Rattle.deck_cards.proofs.Firsts.{dropped, none-or, none_map}

-- ---- no name is taken away

one_grows : (seen : List (List ℕ)) (n : List ℕ) → length seen ≤ length (with_node seen n)
one_grows seen n = by (is_ground n || list_any (bytes_eq n) seen)
  where
    by : (b : Bool) → length seen ≤ length (if b then seen else seen ++ n ∷ [])
    by true = omega arith
    by false = omega (arith, length_push seen n)

pub grows : (seen names : List (List ℕ)) → length seen ≤ length (fold with_node seen names)
grows seen [] = omega arith
grows seen (n ∷ ns) = omega (arith, one_grows seen n, grows (with_node seen n) ns)

-- ---- from a place on

pub nodes_step : (es : List Element) (i : ℕ) (e : Element) (seen after : List (List ℕ)) → i < length es → e ≡ get_or es i e → after ≡ fold with_node seen (ends_of e)
    → many_nodes_from seen (drop i es) ≡ option_or (limit (nat_le (length after) 100000) Nodes (name_of e)) (many_nodes_from after (drop (i + 1) es))
unfolding many_nodes_from
nodes_step es i e seen after within at is =
    ap (many_nodes_from seen) (dropped es i e e within at)
    ∙ ap (λ l. option_or (limit (nat_le (length l) 100000) Nodes (name_of e)) (many_nodes_from l (drop (i + 1) es))) (sym is)

pub nodes_end : (seen : List (List ℕ)) → many_nodes_from seen [] ≡ None
unfolding many_nodes_from
nodes_end seen = refl

-- ---- exactly where there are few

pub few_items : {A : Type 0} (xs : List A) → slice_get xs 100000 ≡ None → length xs ≤ 100000
few_items xs h = elim (slice_get_cases xs 100000).1 [ inl w ↦ absurd (cc (w.2, h)) | inr p ↦ p.0 ]

pub few_elements : (d : DeckValue) → many_elements d ≡ None → length d.elements ≤ 100000
unfolding many_elements
few_elements d none = few_items d.elements (none_map _ _ none)

pub few_none : (es : List Element) (seen : List (List ℕ)) → length (fold with_node seen (flat_map ends_of es)) ≤ 100000 → many_nodes_from seen es ≡ None
unfolding many_nodes_from
few_none [] seen few = refl
few_none (e ∷ es) seen few =
    let after = fold with_node seen (ends_of e) in
    let whole : length (fold with_node after (flat_map ends_of es)) ≤ 100000 = subst (λ l. length l ≤ 100000) (fold-append with_node seen (ends_of e) (flat_map ends_of es)) few in
    let small : nat_le (length after) 100000 ≡ true = le-leb (length after) 100000 (omega (arith, grows after (flat_map ends_of es), whole)) in
    ap (λ b. option_or (limit b Nodes (name_of e)) (many_nodes_from after es)) small ∙ few_none es after whole

pub none_few : (es : List Element) (seen : List (List ℕ)) → length seen ≤ 100000 → many_nodes_from seen es ≡ None → length (fold with_node seen (flat_map ends_of es)) ≤ 100000
unfolding many_nodes_from
none_few [] seen few none = few
none_few (e ∷ es) seen few none =
    let after = fold with_node seen (ends_of e) in
    let parts = none-or (limit (nat_le (length after) 100000) Nodes (name_of e)) (many_nodes_from after es) none in
    subst (λ l. length l ≤ 100000) (sym (fold-append with_node seen (ends_of e) (flat_map ends_of es))) (none_few es after (within (length after) (name_of e) parts.0) parts.1)
  where
    within : (n : ℕ) (name : List ℕ) → limit (nat_le n 100000) Nodes name ≡ None → n ≤ 100000
    within n name h = by (nat_le n 100000) refl h
      where
        by : (b : Bool) → nat_le n 100000 ≡ b → limit b Nodes name ≡ None → n ≤ 100000
        by true e h = grind (arith, nat_tests)
        by false e h = absurd (cc)
