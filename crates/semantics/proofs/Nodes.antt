-- The nodes of a deck: each stands once, ground is none of them, and each other end of an element is one.
use Rattle.std.proofs.Common.{◌≡◌, ℕ, suc, zero, ◌<◌, ◌≤◌, Bool, true, false, ◌||◌, List, [], ◌∷◌, ◌++◌, length, get_or, Some, None, refl, sym, ◌∙◌, arith, ⊎_elim, subst, ltb}
use Rattle.std.specs.List.{fold, flat_map, list_any, position, position_or_len}
use Rattle.std.specs.Str.{bytes_eq}
use Rattle.std.proofs.lemmas.Bool.{false≢true, lt-ltb, cond-true, cond_both, or_parts, or_cases, or_left, or_right, cases_lt}
use Rattle.std.proofs.lemmas.List.{get_or_append_left, get_or_push, length_push}
use Rattle.std.proofs.lemmas.List.Folds.{list_any-append}
use Rattle.std.proofs.lemmas.List.Sums.{fold-append}
use Rattle.std.proofs.lemmas.Slice.Eq.{bytes_eq-Decides}
use Rattle.semantics.specs.Ground.{is_ground}
use Rattle.semantics.specs.Deck.{DeckValue, nodes, with_node, ends_of}
use Rattle.semantics.specs.declared.element.Element.{Element}

-- no name stands twice, and none is ground
pub record AreNodes (ns : List (List ℕ)) : Type 0 where
  pub apart : (i j : ℕ) → i < j → j < length ns → bytes_eq (get_or ns j []) (get_or ns i []) ≡ false
  pub real : (i : ℕ) → i < length ns → is_ground (get_or ns i []) ≡ false

-- equal names pass the test, and names that pass it are equal
pub bytes_eq-same : (m n : List ℕ) → m ≡ n → bytes_eq m n ≡ true
bytes_eq-same m n = (bytes_eq-Decides m n).1

pub same-bytes_eq : (m n : List ℕ) → bytes_eq m n ≡ true → m ≡ n
same-bytes_eq m n = (bytes_eq-Decides m n).0

-- a test that no element passes fails at each
pub none_at : {X : Type 0} (p : X → Bool) (xs : List X) (i : ℕ) (d : X) → list_any p xs ≡ false → i < length xs → p (get_or xs i d) ≡ false
none_at p [] i d none below = absurd (omega arith)
none_at p (x ∷ xs) zero d none below = grind arith
none_at p (x ∷ xs) (suc i) d none below = none_at p xs i d (grind arith) (omega arith)

-- one more name
pub AreNodes-push : (ns : List (List ℕ)) (n : List ℕ) → AreNodes ns → is_ground n ≡ false → list_any (bytes_eq n) ns ≡ false → AreNodes (ns ++ n ∷ [])
AreNodes-push ns n are real new = record {
  apart = λ i j i_j below. ⊎_elim
      (λ (old : j < length ns). rw (get_or_append_left ns (n ∷ []) [] j old, get_or_append_left ns (n ∷ []) [] i (omega arith)) (are.apart i j i_j old))
      (λ (last : length ns ≤ j). let at : length ns ≡ j = omega (arith, length_push ns n) in
      rw (get_or_push ns n [] j at, get_or_append_left ns (n ∷ []) [] i (omega arith)) (none_at (bytes_eq n) ns i [] new (omega arith)))
      (cases_lt j (length ns));
  real = λ i below. ⊎_elim
      (λ (old : i < length ns). rw (get_or_append_left ns (n ∷ []) [] i old) (are.real i old))
      (λ (last : length ns ≤ i). let at : length ns ≡ i = omega (arith, length_push ns n) in rw (get_or_push ns n [] i at) real)
      (cases_lt i (length ns));
}

pub AreNodes-with : (ns : List (List ℕ)) (n : List ℕ) → AreNodes ns → AreNodes (with_node ns n)
AreNodes-with ns n are =
    cond_both (is_ground n || list_any (bytes_eq n) ns) ns (ns ++ n ∷ []) AreNodes (λ _. are) (λ no. AreNodes-push ns n are (or_parts _ _ no).0 (or_parts _ _ no).1)

pub AreNodes-fold : (ns names : List (List ℕ)) → AreNodes ns → AreNodes (fold with_node ns names)
AreNodes-fold ns [] are = are
AreNodes-fold ns (n ∷ names) are = AreNodes-fold (with_node ns n) names (AreNodes-with ns n are)

pub AreNodes-nodes : (d : DeckValue) → AreNodes (nodes d)
unfolding nodes
AreNodes-nodes d = AreNodes-fold [] (flat_map ends_of d.elements) (record { apart = λ i j h below. absurd (omega arith); real = λ i below. absurd (omega arith) })

-- ---- each end is ground or a node

-- a name that was seen stays seen
pub seen_stays : (ns names : List (List ℕ)) (m : List ℕ) → list_any (bytes_eq m) ns ≡ true → list_any (bytes_eq m) (fold with_node ns names) ≡ true
seen_stays ns [] m h = h
seen_stays ns (n ∷ names) m h = seen_stays (with_node ns n) names m
    (cond_both (is_ground n || list_any (bytes_eq n) ns) ns (ns ++ n ∷ []) (λ xs. list_any (bytes_eq m) xs ≡ true) (λ _. h) (λ _. rw (list_any-append (bytes_eq m) ns (n ∷ [])) (or_left _ _ h)))

-- a name that is taken in is seen
pub seen_with : (ns : List (List ℕ)) (n : List ℕ) → is_ground n ≡ false → list_any (bytes_eq n) (with_node ns n) ≡ true
seen_with ns n real = cond_both (is_ground n || list_any (bytes_eq n) ns) ns (ns ++ n ∷ []) (λ xs. list_any (bytes_eq n) xs ≡ true)
    (λ yes. ⊎_elim (λ (g : is_ground n ≡ true). absurd (false≢true (sym real ∙ g))) (λ h. h) (or_cases _ _ yes))
    (λ _. rw (list_any-append (bytes_eq n) ns (n ∷ [])) (or_right _ _ (or_left _ _ (bytes_eq-same n n refl))))

pub seen_all : (ns names : List (List ℕ)) (i : ℕ) → i < length names → is_ground (get_or names i []) ≡ false → list_any (bytes_eq (get_or names i [])) (fold with_node ns names) ≡ true
seen_all ns [] i below real = absurd (omega arith)
seen_all ns (n ∷ names) zero below real = seen_stays (with_node ns n) names n (seen_with ns n real)
seen_all ns (n ∷ names) (suc i) below real = seen_all (with_node ns n) names i (omega arith) real

-- an end of an element of the deck that is not ground is a node
pub end_seen : (es : List Element) (seen : List (List ℕ)) (k i : ℕ) (e : Element) → k < length es → get_or es k e ≡ e → i < length (ends_of e) → is_ground (get_or (ends_of e) i []) ≡ false → list_any (bytes_eq (get_or (ends_of e) i [])) (fold with_node seen (flat_map ends_of es)) ≡ true
end_seen [] seen k i e below at inside real = absurd (omega arith)
end_seen (x ∷ es) seen zero i e below at inside real =
    let P : Element → Type 0 = λ y. list_any (bytes_eq (get_or (ends_of e) i [])) (fold with_node seen (ends_of y ++ flat_map ends_of es)) ≡ true in
    subst P (sym at)
    (rw (fold-append with_node seen (ends_of e) (flat_map ends_of es)) (seen_stays (fold with_node seen (ends_of e)) (flat_map ends_of es) (get_or (ends_of e) i []) (seen_all seen (ends_of e) i inside real)))
end_seen (x ∷ es) seen (suc k) i e below at inside real =
    rw (fold-append with_node seen (ends_of x) (flat_map ends_of es)) (end_seen es (fold with_node seen (ends_of x)) k i e (omega arith) at inside real)

-- ---- the place of a node

pub position_or_len-at : {X : Type 0} (p : X → Bool) (xs : List X) (i : ℕ) (d : X) → i < length xs → p (get_or xs i d) ≡ true → ((k : ℕ) → k < i → p (get_or xs k d) ≡ false) → position_or_len p xs ≡ i
position_or_len-at p [] i d below here before = absurd (omega arith)
position_or_len-at p (x ∷ xs) zero d below here before = rw here refl
position_or_len-at p (x ∷ xs) (suc i) d below here before =
    let first : p x ≡ false = before 0 (omega arith) in
    let rest : position_or_len p xs ≡ i = position_or_len-at p xs i d (omega arith) here (λ k h. before (suc k) (omega arith)) in
    rw (first, rest) (omega arith)

-- a node stands at its place alone
pub position-node : (ns : List (List ℕ)) (i : ℕ) (n : List ℕ) → AreNodes ns → i < length ns → get_or ns i [] ≡ n → position (bytes_eq n) ns ≡ Some i
position-node ns i n are below at =
    let is : position_or_len (bytes_eq n) ns ≡ i = position_or_len-at (bytes_eq n) ns i [] below (bytes_eq-same n (get_or ns i []) (sym at)) (λ k h. subst (λ m. bytes_eq m (get_or ns k []) ≡ false) at (are.apart k i h below)) in
    let inside : ltb i (length ns) ≡ true = lt-ltb i (length ns) below in
    rw is (cond-true (ltb i (length ns)) (Some i) None inside)
