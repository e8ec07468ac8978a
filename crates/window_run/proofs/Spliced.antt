-- A record with the pieces of a window in it, by number.
use Rattle.std.proofs.Common.{◌≡◌, ◌≢◌, ℕ, zero, suc, ◌+◌, ◌<◌, ◌≤◌, Bool, true, false, ◌&&◌, nat_lt, nat_le, List, [], ◌∷◌, ◌++◌, length, get_or, set, map, refl, sym, ap, ◌∙◌, arith, ⊎_elim, inl, inr, Vec, Global}
use Rattle.std.specs.Prelude.{◌==◌, sum_by}
use Rattle.std.specs.List.{All, Contains}
use Rattle.std.proofs.lemmas.Bool.{and_from, and_left, and_right, cases_eq, cond-false, cond-true, eq-eqb, le-leb, le-ltb, lt-ltb, ne_eqb}
use Rattle.std.proofs.lemmas.List.{get_or-set_same, get_or-set_other, length-set}
use Rattle.std.proofs.lemmas.List.Elements.{All-map}
use Rattle.std.proofs.lemmas.List.Sums.{sum_by-cons, sum_by-set}
use Rattle.semantics.specs.declared.fraction.Fraction.{Fraction}
use Rattle.semantics.specs.declared.line.Line.{Line}
use Rattle.node_ramps.specs.declared.ramp.Ramp.{Ramp}
use Rattle.histories.specs.Piece.{PieceValue}
use Rattle.histories.specs.Track.{pair}
use Rattle.window_run.specs.Pieces.{line_count, piece_of}
use Rattle.window_run.specs.Window.{AreDifferent, piece_value, ramp_count, tells, with_pieces}
use Rattle.window_run.proofs.Lines.{contains_cons, nothing}
use Rattle.window_run.proofs.Pieces.{set_map}

-- ---- pairs

untold : (from until : ℕ) (ps : List (List Line)) (n i t : ℕ) → t ≤ from → tells (piece_value from until ps n) i t ≡ false
untold from until ps n i t h = and_right (i == n) (nat_lt from t && nat_le t until) (and_left (nat_lt from t) (nat_le t until) (le-ltb from t h))

told : (from until : ℕ) (ps : List (List Line)) (n i t : ℕ) → i ≡ n → from < t → t ≤ until → tells (piece_value from until ps n) i t ≡ true
told from until ps n i t e h k = and_from (i == n) (nat_lt from t && nat_le t until) (eq-eqb i n e) (and_from (nat_lt from t) (nat_le t until) (lt-ltb from t h) (le-leb t until k))

of_other : (from until : ℕ) (ps : List (List Line)) (n i t : ℕ) → i ≢ n → tells (piece_value from until ps n) i t ≡ false
of_other from until ps n i t e = and_left (i == n) (nat_lt from t && nat_le t until) (ne_eqb i n e)

-- up to the first tick all is as it was
pub as_before : (from until : ℕ) (ps : List (List Line)) (x : ℕ → ℕ → Fraction) (ns : List ℕ) (i t : ℕ) → t ≤ from → with_pieces x (map (piece_value from until ps) ns) i t ≡ x i t
as_before from until ps x [] i t h = refl
as_before from until ps x (n ∷ ns) i t h =
    cond-false (tells (piece_value from until ps n) i t) (pair (piece_of ps n) t) (with_pieces x (map (piece_value from until ps) ns) i t) (untold from until ps n i t h)
    ∙ as_before from until ps x ns i t h

-- and from there to the last one a node has the pairs of its lines
pub as_found : (from until : ℕ) (ps : List (List Line)) (x : ℕ → ℕ → Fraction) (ns : List ℕ) (i t : ℕ) → Contains ns i → from < t → t ≤ until → with_pieces x (map (piece_value from until ps) ns) i t ≡ pair (piece_of ps i) t
as_found from until ps x [] i t has h k = absurd (nothing i has)
as_found from until ps x (n ∷ ns) i t has h k = ⊎_elim
    (λ (e : i ≡ n).
    cond-true (tells (piece_value from until ps n) i t) (pair (piece_of ps n) t) (with_pieces x (map (piece_value from until ps) ns) i t) (told from until ps n i t e h k)
    ∙ ap (λ j. pair (piece_of ps j) t) (sym e))
    (λ (e : i ≢ n).
    cond-false (tells (piece_value from until ps n) i t) (pair (piece_of ps n) t) (with_pieces x (map (piece_value from until ps) ns) i t) (of_other from until ps n i t e)
    ∙ as_found from until ps x ns i t (⊎_elim (λ (f : n ≡ i). absurd (e (sym f))) (λ (later : Contains ns i). later) (contains_cons n i ns has)) h k)
    (cases_eq i n)

-- ---- the pieces

pub nodes_are : (from until : ℕ) (ps : List (List Line)) (ns : List ℕ) → map (λ (p : PieceValue). p.node) (map (piece_value from until ps) ns) ≡ ns
nodes_are from until ps [] = refl
nodes_are from until ps (n ∷ ns) = ap (λ ms. n ∷ ms) (nodes_are from until ps ns)

-- ---- how many ramps

no_lines : (ps : List (List Line)) → ((i : ℕ) → piece_of ps i ≡ []) → line_count ps ≡ 0
no_lines [] none = refl
no_lines (p ∷ ps) none = sum_by-cons (λ (zs : List Line). length zs) p ps ∙ (let here : length p ≡ 0 = ap (λ (zs : List Line). length zs) (none 0) in let rest : line_count ps ≡ 0 = no_lines ps (λ i. none (suc i)) in omega (arith, here, rest))

same_sum : (f g : ℕ → ℕ) (ns : List ℕ) → ((i : ℕ) → Contains ns i → f i ≡ g i) → sum_by f ns ≡ sum_by g ns
same_sum f g [] same = refl
same_sum f g (n ∷ ns) same =
    let here : f n ≡ g n = same n (0, omega arith, refl) in
    let rest : sum_by f ns ≡ sum_by g ns = same_sum f g ns (λ i has. same i (suc has.0, omega (arith, has.1), has.2)) in
    sum_by-cons f n ns ∙ (let e = sum_by-cons g n ns in omega (arith, here, rest, e))

apart : (n : ℕ) (ns : List ℕ) (i : ℕ) → AreDifferent (n ∷ ns) → Contains ns i → i ≢ n
apart n ns i different has e = different 0 (suc has.0) (omega arith) (omega (arith, has.1)) (at ns has.0 i has.1 has.2 ∙ e)
  where
    at : (xs : List ℕ) (k x : ℕ) → k < length xs → get_or xs k x ≡ x → get_or xs k 0 ≡ x
    at [] k x h e = absurd (omega (arith, h))
    at (y ∷ ys) zero x h e = e
    at (y ∷ ys) (suc k) x h e = at ys k x (omega (arith, h)) e

-- where only these numbers have lines, these lines are all
pub counted : (ps : List (List Line)) (ns : List ℕ) → AreDifferent ns → All (λ i. i < length ps) ns → ((i : ℕ) → (Contains ns i → ⊥) → piece_of ps i ≡ []) → line_count ps ≡ sum_by (λ i. length (piece_of ps i)) ns
counted ps [] different inside only = no_lines ps (λ i. only i (λ has. nothing i has))
counted ps (n ∷ ns) different inside only =
    let here : n < length ps = inside 0 n (omega arith) in
    let qs : List (List Line) = set ps n [] in
    let rest : line_count qs ≡ sum_by (λ i. length (piece_of qs i)) ns = counted qs ns
    (λ j k h g e. different (suc j) (suc k) (omega (arith, h)) (omega (arith, g)) e)
    (λ k d h. let old = inside (suc k) d (omega (arith, h)) in omega (arith, old, length-set ps n []))
    (λ i none. ⊎_elim
    (λ (e : i ≡ n). rw (e, get_or-set_same ps n [] [] here) refl)
    (λ (e : i ≢ n). get_or-set_other ps n i [] [] e ∙ only i (λ has. ⊎_elim (λ (f : n ≡ i). e (sym f)) (λ (later : Contains ns i). none later) (contains_cons n i ns has)))
    (cases_eq i n)) in
    let same : sum_by (λ i. length (piece_of qs i)) ns ≡ sum_by (λ i. length (piece_of ps i)) ns = same_sum (λ i. length (piece_of qs i)) (λ i. length (piece_of ps i)) ns (λ i has. ap (λ (zs : List Line). length zs) (get_or-set_other ps n i [] [] (apart n ns i different has))) in
    let moved : line_count qs + length (piece_of ps n) ≡ line_count ps + 0 = sum_by-set (λ (zs : List Line). length zs) ps n [] [] here in
    let cons : sum_by (λ i. length (piece_of ps i)) (n ∷ ns) ≡ length (piece_of ps n) + sum_by (λ i. length (piece_of ps i)) ns = sum_by-cons (λ i. length (piece_of ps i)) n ns in
    omega (arith, rest, same, moved, cons)

pub ramps_are : (from until : ℕ) (ps : List (List Line)) (ns : List ℕ) → ramp_count (map (piece_value from until ps) ns) ≡ sum_by (λ i. length (piece_of ps i)) ns
ramps_are from until ps [] = refl
ramps_are from until ps (n ∷ ns) =
    let rest = ramps_are from until ps ns in
    let e : ramp_count (map (piece_value from until ps) (n ∷ ns)) ≡ length (piece_of ps n) + ramp_count (map (piece_value from until ps) ns) = sum_by-cons (λ (p : PieceValue). length p.lines) (piece_value from until ps n) (map (piece_value from until ps) ns) in
    let f = sum_by-cons (λ i. length (piece_of ps i)) n ns in
    omega (arith, rest, e, f)

-- ---- taken

pub others_left : (xs : List (Vec Ramp Global)) (k i : ℕ) (x : Vec Ramp Global) → (i ≡ k → ⊥) → piece_of (map (λ (v : Vec Ramp Global). v.items) (set xs k x)) i ≡ piece_of (map (λ (v : Vec Ramp Global). v.items) xs) i
others_left xs k i x other =
    ap (λ (ps : List (List Line)). piece_of ps i) (set_map (λ (v : Vec Ramp Global). v.items) xs k x)
    ∙ get_or-set_other (map (λ (v : Vec Ramp Global). v.items) xs) k i x.items [] other
