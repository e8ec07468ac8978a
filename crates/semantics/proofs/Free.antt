-- A name is a free node where it is not ground, an element has it at an end, and no source drives it.
use Rattle.std.proofs.Common.{◌≡◌, ℕ, Bool, true, false, not, ◌&&◌, ◌||◌, cond, List, [], ◌∷◌, ◌++◌, Option, Some, None, refl, sym, ◌∙◌, ap, subst, ⊎_elim, zero, suc, ◌<◌, length, get_or, arith, Contains}
use Rattle.std.specs.Option.{is_none}
use Rattle.std.specs.List.{fold, flat_map, list_any, list_all, filter}
use Rattle.std.specs.Str.{bytes_eq}
use Rattle.std.proofs.lemmas.Bool.{false≢true, cond_both, or_parts, or_cases, or_left, or_right, or_from, and_parts, and_from, false_from_ne_true}
use Rattle.std.proofs.lemmas.List.Folds.{list_any-append}
use Rattle.semantics.specs.Ground.{is_ground}
use Rattle.semantics.specs.declared.element.Element.{Element}
use Rattle.semantics.specs.Deck.{DeckValue, nodes, free_nodes, driver, with_node, ends_of}
use Rattle.semantics.specs.Valid.{is_held}
use Rattle.semantics.proofs.Nodes.{bytes_eq-same, same-bytes_eq, seen_stays, seen_with}
use Rattle.semantics.proofs.Limits.{Limits, Held, held}
use Rattle.semantics.specs.Neighbours.{is_free, is_end}

-- two tests with one meaning
pub same_test : (a b : Bool) → (a ≡ true → b ≡ true) → (b ≡ true → a ≡ true) → a ≡ b
same_test true b f g = sym (f refl)
same_test false true f g = g refl
same_test false false f g = refl

-- ---- nodes

-- what a list contains is found among it
pub is_among : (ns : List (List ℕ)) (n : List ℕ) → Contains ns n → list_any (bytes_eq n) ns ≡ true
is_among ns n at = by ns at.0 at.1 at.2
  where
    by : (ms : List (List ℕ)) (k : ℕ) → k < length ms → get_or ms k n ≡ n → list_any (bytes_eq n) ms ≡ true
    by [] k below is = absurd (omega arith)
    by (m ∷ ms) zero below is = or_left _ _ (bytes_eq-same n m (sym is))
    by (m ∷ ms) (suc k) below is = or_right _ _ (by ms k (omega arith) is)

-- what is seen in the end was seen before, or is among the names
was_seen : (ns names : List (List ℕ)) (m : List ℕ) → list_any (bytes_eq m) (fold with_node ns names) ≡ true → (list_any (bytes_eq m) ns || list_any (bytes_eq m) names) ≡ true
was_seen ns [] m h = or_left _ _ h
was_seen ns (n ∷ names) m h =
    ⊎_elim
    (λ (before : list_any (bytes_eq m) (with_node ns n) ≡ true). earlier before)
    (λ (later : list_any (bytes_eq m) names ≡ true). or_right _ _ (or_right _ _ later))
    (or_cases _ _ (was_seen (with_node ns n) names m h))
  where
    earlier : list_any (bytes_eq m) (with_node ns n) ≡ true → (list_any (bytes_eq m) ns || (bytes_eq m n || list_any (bytes_eq m) names)) ≡ true
    earlier = cond_both (is_ground n || list_any (bytes_eq n) ns) ns (ns ++ n ∷ []) (λ xs. list_any (bytes_eq m) xs ≡ true → (list_any (bytes_eq m) ns || (bytes_eq m n || list_any (bytes_eq m) names)) ≡ true)
        (λ _ old. or_left _ _ old)
        (λ _ new. ⊎_elim (λ (old : list_any (bytes_eq m) ns ≡ true). or_left _ _ old)
        (λ (one : (bytes_eq m n || false) ≡ true). or_right _ _ (or_left _ _ (⊎_elim (λ (x : bytes_eq m n ≡ true). x) (λ (no : false ≡ true). absurd (false≢true no)) (or_cases (bytes_eq m n) false one))))
        (or_cases (list_any (bytes_eq m) ns) (bytes_eq m n || false) (sym (list_any-append (bytes_eq m) ns (n ∷ [])) ∙ new)))

-- a name that is not ground is seen in the end
pub is_seen : (ns names : List (List ℕ)) (m : List ℕ) → is_ground m ≡ false → list_any (bytes_eq m) names ≡ true → list_any (bytes_eq m) (fold with_node ns names) ≡ true
is_seen ns [] m real h = absurd (false≢true h)
is_seen ns (n ∷ names) m real h = ⊎_elim
    (λ (here : bytes_eq m n ≡ true).
    let same : m ≡ n = same-bytes_eq m n here in
    seen_stays (with_node ns n) names m (subst (λ k. list_any (bytes_eq m) (with_node ns k) ≡ true) same (seen_with ns m real)))
    (λ (later : list_any (bytes_eq m) names ≡ true). is_seen (with_node ns n) names m real later)
    (or_cases (bytes_eq m n) (list_any (bytes_eq m) names) h)

-- ground is never seen
not_ground : (ns names : List (List ℕ)) (m : List ℕ) → is_ground m ≡ true → list_any (bytes_eq m) ns ≡ false → list_any (bytes_eq m) (fold with_node ns names) ≡ false
not_ground ns [] m ground' none = none
not_ground ns (n ∷ names) m ground' none = not_ground (with_node ns n) names m ground'
    (cond_both (is_ground n || list_any (bytes_eq n) ns) ns (ns ++ n ∷ []) (λ xs. list_any (bytes_eq m) xs ≡ false) (λ _. none)
    (λ new. list_any-append (bytes_eq m) ns (n ∷ []) ∙ or_from (list_any (bytes_eq m) ns) (bytes_eq m n || false) none
    (or_from (bytes_eq m n) false (false_from_ne_true (bytes_eq m n) (λ same.
    let real : is_ground n ≡ false = (or_parts (is_ground n) (list_any (bytes_eq n) ns) new).0 in
    false≢true (sym real ∙ ap is_ground (sym (same-bytes_eq m n same)) ∙ ground'))) refl)))

-- the ends of elements
any_end : (es : List Element) (m : List ℕ) → list_any (bytes_eq m) (flat_map ends_of es) ≡ list_any (is_end m) es
any_end [] m = refl
any_end (e ∷ es) m = list_any-append (bytes_eq m) (ends_of e) (flat_map ends_of es) ∙ ap (λ b. is_end m e || b) (any_end es m)

pub node_is : (d : DeckValue) (m : List ℕ) → list_any (bytes_eq m) (nodes d) ≡ (not (is_ground m) && list_any (is_end m) d.elements)
unfolding nodes
node_is d m = by (is_ground m) refl
  where
    by : (b : Bool) → is_ground m ≡ b → list_any (bytes_eq m) (fold with_node [] (flat_map ends_of d.elements)) ≡ (not b && list_any (is_end m) d.elements)
    by true is = not_ground [] (flat_map ends_of d.elements) m is refl
    by false is = same_test _ _
        (λ h. sym (any_end d.elements m) ∙ was_seen [] (flat_map ends_of d.elements) m h)
        (λ h. is_seen [] (flat_map ends_of d.elements) m is (any_end d.elements m ∙ h))

-- ---- free nodes

any_kept : (p : List ℕ → Bool) (ns : List (List ℕ)) (m : List ℕ) → list_any (bytes_eq m) (filter p ns) ≡ (list_any (bytes_eq m) ns && p m)
any_kept p [] m = refl
any_kept p (n ∷ ns) m = by (bytes_eq m n) (p n) refl refl (any_kept p ns m)
  where
    by : (b c : Bool) → bytes_eq m n ≡ b → p n ≡ c → list_any (bytes_eq m) (filter p ns) ≡ (list_any (bytes_eq m) ns && p m)
        → list_any (bytes_eq m) (cond c (n ∷ filter p ns) (filter p ns)) ≡ ((b || list_any (bytes_eq m) ns) && p m)
    by true true e keep rest = or_left _ _ e ∙ sym (ap p (same-bytes_eq m n e) ∙ keep)
    by true false e keep rest =
        let no : p m ≡ false = ap p (same-bytes_eq m n e) ∙ keep in
        rest ∙ same_test _ _ (λ h. absurd (false≢true (sym no ∙ (and_parts (list_any (bytes_eq m) ns) (p m) h).1))) (λ h. absurd (false≢true (sym no ∙ h)))
    by false true e keep rest = ap (λ x. x || list_any (bytes_eq m) (filter p ns)) e ∙ rest
    by false false e keep rest = rest

pub free_is : (d : DeckValue) (m : List ℕ) → is_free d m ≡ ((not (is_ground m) && list_any (is_end m) d.elements) && is_none (driver d m))
unfolding is_free free_nodes
free_is d m = any_kept (λ n. is_none (driver d n)) (nodes d) m ∙ ap (λ b. b && is_none (driver d m)) (node_is d m)

none_is : {A : Type 0} (o : Option A) → is_none o ≡ true → o ≡ None
none_is None h = refl
none_is (Some x) h = absurd (false≢true h)

-- what a free node is
pub free_real : (d : DeckValue) (m : List ℕ) → is_free d m ≡ true → is_ground m ≡ false
free_real d m h = by (is_ground m) (sym (free_is d m) ∙ h)
  where
    by : (b : Bool) → ((not b && list_any (is_end m) d.elements) && is_none (driver d m)) ≡ true → b ≡ false
    by true h = absurd (false≢true h)
    by false h = refl

pub free_undriven : (d : DeckValue) (m : List ℕ) → is_free d m ≡ true → driver d m ≡ None
free_undriven d m h = none_is (driver d m) (and_parts _ _ (sym (free_is d m) ∙ h)).1

pub free_ends : (d : DeckValue) (m : List ℕ) → is_free d m ≡ true → list_any (is_end m) d.elements ≡ true
free_ends d m h = (and_parts _ _ (and_parts (not (is_ground m) && list_any (is_end m) d.elements) (is_none (driver d m)) (sym (free_is d m) ∙ h)).0).1

pub free_from : (d : DeckValue) (m : List ℕ) → is_ground m ≡ false → list_any (is_end m) d.elements ≡ true → driver d m ≡ None → is_free d m ≡ true
free_from d m real ends none = free_is d m ∙ and_from _ _ (and_from _ _ (ap not real) ends) (ap is_none none)

-- ---- a free node of a valid deck

pub any_held : (p : List ℕ → Bool) (ns : List (List ℕ)) (n : List ℕ) → list_any (bytes_eq n) ns ≡ true → list_all p ns ≡ true → p n ≡ true
any_held p [] n any all = absurd (false≢true any)
any_held p (m ∷ ns) n any all =
    let parts = and_parts (p m) (list_all p ns) all in
    ⊎_elim (λ (here : bytes_eq n m ≡ true). ap p (same-bytes_eq n m here) ∙ parts.0) (λ (later : list_any (bytes_eq n) ns ≡ true). any_held p ns n later parts.1) (or_cases (bytes_eq n m) (list_any (bytes_eq n) ns) any)

-- it has a capacitance, an initial voltage and few ends
pub free_held : (d : DeckValue) → Limits d → (n : List ℕ) → is_free d n ≡ true → Held d n
unfolding is_free
free_held d l n free = held d n (any_held (is_held d) (free_nodes d) n free l.held)
