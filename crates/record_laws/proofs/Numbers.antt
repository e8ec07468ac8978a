-- Records that are kept by numbers.
use Rattle.std.proofs.Common.{◌≡◌, ℕ, ◌+◌, ◌<◌, Bool, true, false, not, cond, List, [], ◌∷◌, ◌++◌, length, get_or, refl, sym, ap, ◌∙◌, ⊎_elim}
use Rattle.std.specs.List.{list_any}
use Rattle.std.specs.Str.{bytes_eq}
use Rattle.std.proofs.lemmas.Bool.{false≢true, or_cases}
use Rattle.semantics.specs.declared.fraction.Fraction.{Fraction}
use Rattle.semantics.specs.Record.{place_among, named}
use Rattle.semantics.proofs.Nodes.{bytes_eq-same, position_or_len-at}

-- the pairs of a name that stands at a place
pub named_at : (names : List (List ℕ)) (pairs : ℕ → ℕ → Fraction) (i t : ℕ) → ((j : ℕ) → j < i → bytes_eq (get_or names i []) (get_or names j []) ≡ false) → i < length names
    → named names pairs (get_or names i []) t ≡ pairs i t
named_at names pairs i t apart below =
    ap (λ k. pairs k t) (position_or_len-at (bytes_eq (get_or names i [])) names i [] below (bytes_eq-same (get_or names i []) (get_or names i []) refl) apart)

-- names that are appended change no number of a name that was there
place_more : (names more : List (List ℕ)) (n : List ℕ) → list_any (bytes_eq n) names ≡ true → place_among (names ++ more) n ≡ place_among names n
place_more [] more n at = absurd (false≢true at)
place_more (m ∷ names) more n at = by (place_more names more n) (bytes_eq n m) refl
  where
    by : (list_any (bytes_eq n) names ≡ true → place_among (names ++ more) n ≡ place_among names n) → (b : Bool) → bytes_eq n m ≡ b → cond (not b) (1 + place_among (names ++ more) n) 0 ≡ cond (not b) (1 + place_among names n) 0
    by rest true is = refl
    by rest false is = ap (λ k. 1 + k) (rest (⊎_elim (λ (here : bytes_eq n m ≡ true). absurd (false≢true (sym is ∙ here))) (λ (later : list_any (bytes_eq n) names ≡ true). later) (or_cases (bytes_eq n m) (list_any (bytes_eq n) names) at)))

pub named_more : (names more : List (List ℕ)) (pairs : ℕ → ℕ → Fraction) (n : List ℕ) (t : ℕ) → list_any (bytes_eq n) names ≡ true → named (names ++ more) pairs n t ≡ named names pairs n t
named_more names more pairs n t at = ap (λ k. pairs k t) (place_more names more n at)
