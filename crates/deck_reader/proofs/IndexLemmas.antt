-- How a map in order of insertion finds and puts a name.
use Rattle.std.proofs.Common.{◌≡◌, ℕ, Bool, true, false, ◌||◌, if◌then◌else◌, List, [], ◌∷◌, ◌++◌, map, Some, None, is_some, refl, ap}
use Rattle.std.specs.List.{list_any}
use Rattle.std.specs.Str.{bytes_eq}
use Rattle.indexmap.specs.IndexMap.{insert_entry}
use Rattle.semantics.specs.Deck.{look_up}

-- it puts a new name last
pub insert_new : {A : Type 0} (ps : List (List ℕ × A)) (n : List ℕ) (x : A) → is_some (look_up n ps) ≡ false → insert_entry bytes_eq ps n x ≡ ps ++ (n, x) ∷ []
insert_new [] n x new = refl
insert_new {A = A} (p ∷ ps) n x new = by (bytes_eq n p.0) new (insert_new ps n x)
  where
    by : (b : Bool) → is_some (elim (if b then Some p.1 else None) [ None ↦ look_up n ps | Some y ↦ Some y ]) ≡ false
        → (is_some (look_up n ps) ≡ false → insert_entry bytes_eq ps n x ≡ ps ++ (n, x) ∷ [])
        → (if b then (p.0, x) ∷ ps else p ∷ insert_entry bytes_eq ps n x) ≡ p ∷ (ps ++ (n, x) ∷ [])
    by true found ih = absurd (cc)
    by false found ih = ap (λ l. p ∷ l) (ih found)

-- whether a name is given something, by the names of all that are
pub look_up-names : {A : Type 0} (n : List ℕ) (ps : List (List ℕ × A)) → list_any (bytes_eq n) (map (λ p. p.0) ps) ≡ is_some (look_up n ps)
look_up-names n [] = refl
look_up-names {A = A} n (p ∷ ps) = by (bytes_eq n p.0) (look_up-names n ps)
  where
    by : (b : Bool) → list_any (bytes_eq n) (map (λ q. q.0) ps) ≡ is_some (look_up n ps)
        → (b || list_any (bytes_eq n) (map (λ q. q.0) ps)) ≡ is_some (elim (if b then Some p.1 else None) [ None ↦ look_up n ps | Some y ↦ Some y ])
    by true ih = refl
    by false ih = ih
