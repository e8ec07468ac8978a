-- Names that differ: one more at the end, a front of them, and the names of a front of a list.
use Rattle.std.proofs.Common.{◌≡◌, ℕ, Bool, true, false, not, ◌&&◌, ◌||◌, List, [], ◌∷◌, ◌++◌, fold, refl, sym, ◌∙◌, ap, append_assoc, if◌then◌else◌}
use Rattle.std.specs.List.{list_any}
use Rattle.std.specs.Str.{bytes_eq}
use Rattle.std.proofs.lemmas.List.{append-nil}
use Rattle.std.proofs.lemmas.List.Folds.{list_any-append}
use Rattle.semantics.specs.Ground.{is_ground}
use Rattle.semantics.specs.Deck.{with_node}
use Rattle.semantics.specs.Valid.{differ}
use Rattle.deck_cards.proofs.Named.{name_turned}

pub differ-push : (ns : List (List ℕ)) (n : List ℕ) → differ (ns ++ n ∷ []) ≡ (differ ns && not (list_any (bytes_eq n) ns))
differ-push [] n = refl
differ-push (m ∷ ms) n =
    (λ i. not (list_any-append (bytes_eq m) ms (n ∷ []) i) && differ-push ms n i)
    ∙ (λ i. not (list_any (bytes_eq m) ms || (name_turned m n i || false)) && (differ ms && not (list_any (bytes_eq n) ms)))
    ∙ by (list_any (bytes_eq m) ms) (bytes_eq n m) (differ ms) (list_any (bytes_eq n) ms)
  where
    by : (a b d e : Bool) → (not (a || (b || false)) && (d && not e)) ≡ ((not a && d) && not (b || e))
    by true b d e = refl
    by false true true e = refl
    by false true false e = refl
    by false false d e = refl

-- names of which two are the same stay so
pub differ_stuck : (ns ms : List (List ℕ)) → differ ns ≡ false → differ (ns ++ ms) ≡ false
differ_stuck ns [] h = ap differ (append-nil ns) ∙ h
differ_stuck ns (m ∷ ms) h =
    let front : differ (ns ++ m ∷ []) ≡ false = differ-push ns m ∙ ap (λ b. b && not (list_any (bytes_eq m) ns)) h in
    ap differ (sym (append_assoc ns (m ∷ []) ms)) ∙ differ_stuck (ns ++ m ∷ []) ms front

-- the nodes differ
pub differ-with_node : (seen : List (List ℕ)) (n : List ℕ) → differ seen ≡ true → differ (with_node seen n) ≡ true
differ-with_node seen n h = by (is_ground n || list_any (bytes_eq n) seen) refl
  where
    by : (b : Bool) → (is_ground n || list_any (bytes_eq n) seen) ≡ b → differ (if b then seen else seen ++ n ∷ []) ≡ true
    by true e = h
    by false e = differ-push seen n ∙ (λ i. h i && not (none (is_ground n) (list_any (bytes_eq n) seen) e i))
      where
        none : (a b : Bool) → (a || b) ≡ false → b ≡ false
        none true b e = absurd (cc)
        none false b e = e

pub differ-nodes : (names seen : List (List ℕ)) → differ seen ≡ true → differ (fold with_node seen names) ≡ true
differ-nodes [] seen h = h
differ-nodes (n ∷ ns) seen h = differ-nodes ns (with_node seen n) (differ-with_node seen n h)
