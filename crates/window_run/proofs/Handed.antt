-- Pieces that are handed in, and sorted by their nodes.
use Rattle.std.proofs.Common.{◌≡◌, ◌≢◌, ℕ, zero, suc, ◌+◌, ◌<◌, ◌≤◌, Bool, true, false, ◌&&◌, ltb, List, [], ◌∷◌, length, get_or, map, refl, sym, ap, ◌∙◌, arith, ⊎_elim, inl, inr, subst}
use Rattle.std.specs.Prelude.{◌⊎◌, IsPermutation}
use Rattle.std.specs.List.{All, swap}
use Rattle.std.specs.List.Sorted.{IsNonDecreasingBy, IsStrictlyIncreasing}
use Rattle.std.proofs.lemmas.Bool.{and_parts, cases_eq, cases_lt, false≢true, lt-ltb, ltb-true}
use Rattle.std.proofs.lemmas.List.Edits.{length-swap, swapped_from_swap}
use Rattle.std.proofs.lemmas.List.Kept.{AllPairs-from_increasing}
use Rattle.std.proofs.lemmas.List.Sorted.{All-permutation, IsPermutation-keeps, IsPermutation-map, IsPermutation-sym}
use Rattle.histories.specs.Piece.{IsPiece, PieceValue}
use Rattle.window_run.specs.declared.stop.Stop.{Stop}
use Rattle.window_run.specs.Window.{AreDifferent, HasOtherEnds, HasRepeat, HasTwoOfOneNode, IsWindow, rising_nodes}

-- ---- two that are the same

two : (xs : List ℕ) (p q : ℕ) → p ≢ q → p < length xs → q < length xs → get_or xs p 0 ≡ get_or xs q 0 → HasRepeat xs
two xs p q apart p_inside q_inside same = ⊎_elim
    (λ (h : p < q). record { first = p; second = q; order = h; inside = q_inside; same = sym same })
    (λ (h : q ≤ p). record { first = q; second = p; order = omega (arith, h, apart); inside = p_inside; same = same })
    (cases_lt p q)

-- they still are where two numbers change places
repeat_swap : (xs : List ℕ) (i j : ℕ) → i < length xs → j < length xs → HasRepeat xs → HasRepeat (swap xs i j)
repeat_swap xs i j i_inside j_inside r = by (cases_eq r.first i) (cases_eq r.first j) (cases_eq r.second i) (cases_eq r.second j)
  where
    ys : List ℕ
    ys = swap xs i j

    count : length ys ≡ length xs
    count = length-swap xs i j

    at_i : get_or ys i 0 ≡ get_or xs j 0
    at_i = (swapped_from_swap xs (swap xs i j) i j 0 i_inside j_inside refl).0

    at_j : get_or ys j 0 ≡ get_or xs i 0
    at_j = (swapped_from_swap xs (swap xs i j) i j 0 i_inside j_inside refl).1

    else_at : (k : ℕ) → k ≢ i → k ≢ j → get_or ys k 0 ≡ get_or xs k 0
    else_at = (swapped_from_swap xs (swap xs i j) i j 0 i_inside j_inside refl).2

    inside : (k : ℕ) → k < length xs → k < length ys
    inside k h = omega (arith, h, count)

    first_inside : r.first < length xs
    first_inside = let a = r.order in let b = r.inside in omega (arith, a, b)

    xs_at : (a b : ℕ) → a ≡ b → get_or xs a 0 ≡ get_or xs b 0
    xs_at a b e = ap (λ k. get_or xs k 0) e

    by : (r.first ≡ i) ⊎ (r.first ≢ i) → (r.first ≡ j) ⊎ (r.first ≢ j) → (r.second ≡ i) ⊎ (r.second ≢ i) → (r.second ≡ j) ⊎ (r.second ≢ j) → HasRepeat ys
    by (inl a) b c (inl d) = let o = r.order in
        two ys j i (λ e. omega (arith, a, d, o, e)) (inside j j_inside) (inside i i_inside) (at_j ∙ xs_at i r.first (sym a) ∙ sym r.same ∙ xs_at r.second j d ∙ sym at_i)
    by (inl a) b c (inr d) = let o = r.order in
        two ys j r.second (λ e. d (sym e)) (inside j j_inside) (inside r.second r.inside) (at_j ∙ xs_at i r.first (sym a) ∙ sym r.same ∙ sym (else_at r.second (λ e. omega (arith, a, o, e)) d))
    by (inr a) (inl b) (inl c) d = let o = r.order in
        two ys i j (λ e. omega (arith, b, c, o, e)) (inside i i_inside) (inside j j_inside) (at_i ∙ xs_at j r.first (sym b) ∙ sym r.same ∙ xs_at r.second i c ∙ sym at_j)
    by (inr a) (inl b) (inr c) d = let o = r.order in
        two ys i r.second (λ e. c (sym e)) (inside i i_inside) (inside r.second r.inside) (at_i ∙ xs_at j r.first (sym b) ∙ sym r.same ∙ sym (else_at r.second c (λ e. omega (arith, b, o, e))))
    by (inr a) (inr b) (inl c) d =
        two ys r.first j b (inside r.first first_inside) (inside j j_inside) (else_at r.first a b ∙ sym r.same ∙ xs_at r.second i c ∙ sym at_j)
    by (inr a) (inr b) (inr c) (inl d) =
        two ys r.first i a (inside r.first first_inside) (inside i i_inside) (else_at r.first a b ∙ sym r.same ∙ xs_at r.second j d ∙ sym at_i)
    by (inr a) (inr b) (inr c) (inr d) = let o = r.order in
        two ys r.first r.second (λ e. omega (arith, o, e)) (inside r.first first_inside) (inside r.second r.inside) (else_at r.first a b ∙ sym r.same ∙ sym (else_at r.second c d))

-- and in any order of the pieces
two_moved : (ps qs : List PieceValue) → IsPermutation ps qs → HasTwoOfOneNode ps → HasTwoOfOneNode qs
two_moved ps qs moved r = IsPermutation-keeps (map (λ (p : PieceValue). p.node) ps) HasRepeat r repeat_swap (map (λ (p : PieceValue). p.node) qs) (IsPermutation-map (λ (p : PieceValue). p.node) ps qs moved)

-- ---- neighbours

rise_strictly : (ps : List PieceValue) → rising_nodes ps ≡ true → IsStrictlyIncreasing (map (λ p. p.node) ps)
rise_strictly [] h k inside = absurd (omega (arith, inside))
rise_strictly (p ∷ []) h k inside = absurd (omega (arith, inside))
rise_strictly (p ∷ q ∷ qs) h zero inside = ltb-true p.node q.node (and_parts (ltb p.node q.node) (rising_nodes (q ∷ qs)) h).0
rise_strictly (p ∷ q ∷ qs) h (suc k) inside = let e : suc k + 1 ≡ suc (k + 1) = omega arith in rw e (rise_strictly (q ∷ qs) (and_parts (ltb p.node q.node) (rising_nodes (q ∷ qs)) h).1 k (omega (arith, inside)))

later : (p : PieceValue) (ps : List PieceValue) → HasTwoOfOneNode ps → HasTwoOfOneNode (p ∷ ps)
later p ps r = let o = r.order in let h = r.inside in
    record { first = suc r.first; second = suc r.second; order = omega (arith, o); inside = omega (arith, h); same = r.same }

two_ahead : (p q : PieceValue) (qs : List PieceValue) → (rising_nodes (q ∷ qs) ≡ false → HasTwoOfOneNode (q ∷ qs)) → p.node ≤ q.node → (b : Bool) → ltb p.node q.node ≡ b → (b && rising_nodes (q ∷ qs)) ≡ false → HasTwoOfOneNode (p ∷ q ∷ qs)
two_ahead p q qs rest up true e h = later p (q ∷ qs) (rest h)
two_ahead p q qs rest up false e h = record {
  first = 0;
  second = 1;
  order = omega arith;
  inside = omega arith;
  same = ⊎_elim
      (λ (less : p.node < q.node). absurd (false≢true (sym e ∙ lt-ltb p.node q.node less)))
      (λ (down : q.node ≤ p.node). omega (arith, up, down))
      (cases_lt p.node q.node);
}

two_beside : (ps : List PieceValue) → IsNonDecreasingBy (λ p. p.node) ps → rising_nodes ps ≡ false → HasTwoOfOneNode ps
two_beside [] up h = absurd (false≢true (sym h))
two_beside (p ∷ []) up h = absurd (false≢true (sym h))
two_beside (p ∷ q ∷ qs) up h = two_ahead p q qs
    (two_beside (q ∷ qs) (λ i j d order inside. up (suc i) (suc j) d (omega (arith, order)) (omega (arith, inside))))
    (up 0 1 p (omega arith) (omega arith))
    (ltb p.node q.node) refl h

-- where sorted pieces do not rise strictly, two of those that were handed in are of one node
pub two_before : (ps qs : List PieceValue) → IsPermutation ps qs → IsNonDecreasingBy (λ p. p.node) qs → rising_nodes qs ≡ false → HasTwoOfOneNode ps
two_before ps qs moved up h = two_moved qs ps (IsPermutation-sym ps qs moved) (two_beside qs up h)

differ : (xs : List ℕ) → IsStrictlyIncreasing xs → AreDifferent xs
differ xs up j k order inside same = let less = AllPairs-from_increasing xs up j k 0 order inside in absurd (omega (arith, less, same))

-- ---- the window

-- pieces that go from the one tick to the other, and the same ones sorted, of which no two are of one node
pub record AreSorted (from until : ℕ) (ps qs : List PieceValue) : Type 0 where
  pub moved : IsPermutation ps qs
  pub ends : All (λ p. (p.from ≡ from) × (p.until ≡ until)) ps
  pub shape : All (λ p. IsPiece p.from p.until p.lines) ps
  pub rising : IsStrictlyIncreasing (map (λ p. p.node) qs)

-- by what the tests look at
pub sorted : (from until : ℕ) (ps qs looked_at looked_through : List PieceValue) → looked_at ≡ ps → looked_through ≡ qs → IsPermutation ps qs → All (λ p. (p.from ≡ from) × (p.until ≡ until)) looked_at → All (λ p. IsPiece p.from p.until p.lines) looked_at → rising_nodes looked_through ≡ true → AreSorted from until ps qs
sorted from until ps qs looked_at looked_through is_first is_second moved ends shape rising = record {
  moved = moved;
  ends = subst (All (λ (p : PieceValue). (p.from ≡ from) × (p.until ≡ until))) is_first ends;
  shape = subst (All (λ (p : PieceValue). IsPiece p.from p.until p.lines)) is_first shape;
  rising = rise_strictly qs (ap rising_nodes (sym is_second) ∙ rising);
}

-- they are all that a window says by its type
pub is_window : (from until : ℕ) (stop : Stop) (ps qs : List PieceValue) → AreSorted from until ps qs → IsWindow (record { from = from; until = until; stop = stop; pieces = qs })
is_window from until stop ps qs s = record {
  ends = All-permutation (λ (p : PieceValue). (p.from ≡ from) × (p.until ≡ until)) ps qs s.moved s.ends;
  different = differ (map (λ (p : PieceValue). p.node) qs) s.rising;
  shape = All-permutation (λ (p : PieceValue). IsPiece p.from p.until p.lines) ps qs s.moved s.shape;
}

-- and nothing is against them
pub none_against : (from until : ℕ) (ps qs : List PieceValue) → AreSorted from until ps qs → HasTwoOfOneNode ps ⊎ HasOtherEnds from until ps → ⊥
none_against from until ps qs s (inl before) =
    let r = two_moved ps qs s.moved before in
    differ (map (λ (p : PieceValue). p.node) qs) s.rising r.first r.second r.order r.inside r.same
none_against from until ps qs s (inr other) = other.4 (subst (λ (p : PieceValue). (p.from ≡ from) × (p.until ≡ until)) other.3 (s.ends other.0 other.1 other.2))
