-- Elements by name, as a deck keeps them.
use Rattle.std.proofs.Common.{◌≡◌, ◌∙◌, ℕ, suc, zero, ◌<◌, ◌≤◌, Bool, true, false, not, ◌||◌, List, [], ◌∷◌, length, map, take, slice_get, position, Option, Some, None, is_none, option_and_then, refl, sym, ap, subst, inl, inr, arith}
use Rattle.std.specs.List.{list_any}
use Rattle.std.specs.Str.{bytes_eq}
use Rattle.std.proofs.lemmas.Option.{slice_get_cases}
use Rattle.semantics.specs.declared.element.Element.{Element}
use Rattle.semantics.specs.Deck.{name_of}
use Rattle.semantics.specs.Valid.{differ}
use Rattle.deck_cards.specs.Edits.{named}
use Rattle.deck_cards.proofs.FreeNodes.{first_named}
use Rattle.deck_cards.proofs.Named.{and_both, from_not, name_turned, not_at}

-- the element of a name is that at the place of the name
pub named_by : (n : List ℕ) (es : List Element) (names : List (List ℕ)) (r : Option ℕ) → r ≡ position (bytes_eq n) names → names ≡ map name_of es
    → named n es ≡ option_and_then (slice_get es) r
named_by n es names r is same = sym (first_named (bytes_eq n) name_of es) ∙ ap (option_and_then (slice_get es)) (sym (is ∙ ap (position (bytes_eq n)) same))

-- an element stands at each place
pub there : {A : Type 0} (xs : List A) (i : ℕ) → i < length xs → is_none (slice_get xs i) ≡ false
there xs i within = elim (slice_get_cases xs i).1 [ inl w ↦ ap is_none w.2 | inr p ↦ absurd (omega (arith, within, p.0)) ]

-- of names that differ, none stands before its place
pub none_before : (ns : List (List ℕ)) (i : ℕ) (n : List ℕ) → differ ns ≡ true → slice_get ns i ≡ Some n → list_any (bytes_eq n) (take i ns) ≡ false
none_before [] i n apart at = absurd (cc)
none_before (m ∷ ms) zero n apart at = refl
none_before (m ∷ ms) (suc i) n apart at =
    let h = and_both (not (list_any (bytes_eq m) ms)) (differ ms) apart in
    let other = name_turned n m ∙ not_at (bytes_eq m) ms i n (from_not _ h.0) at in
    λ k. other k || none_before ms i n h.1 at k
