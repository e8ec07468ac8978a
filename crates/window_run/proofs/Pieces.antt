-- The pieces of the free nodes.
use Rattle.std.proofs.Common.{◌≡◌, ◌≢◌, ℕ, zero, suc, ◌+◌, ◌-◌, ◌<◌, ◌≤◌, Bool, true, false, cond, List, [], ◌∷◌, ◌++◌, length, get_or, set, map, refl, sym, ap, ◌∙◌, arith, ⊎_elim, inl, inr, ℤ, pos, ◌+ℤ◌}
use Rattle.std.specs.Prelude.{◌⊎◌, nat_le, sum_by}
use Rattle.std.proofs.lemmas.List.Sums.{sum_by-cons}
use Rattle.std.proofs.lemmas.List.{get_or-set_same, get_or-set_other, length-append}
use Rattle.std.proofs.lemmas.Bool.{cases_eq, false≢true, le-leb, lt-leb}
use Rattle.semantics.specs.declared.fraction.Fraction.{Fraction}
use Rattle.semantics.specs.declared.line.Line.{Line}
use Rattle.node_ramps.specs.Lines.{num_at, turned, voltage}
use Rattle.window_run.specs.Net.{Net}
use Rattle.histories.specs.Track.{in_force, line_of, no_line, pair}
use Rattle.window_run.specs.Pieces.{Counts, IsPiece, OthersKept, PiecesGo, PiecesKept, Turns, last_of, line_count, pairs, piece_of}
use Rattle.window_run.specs.Stage.{SameFree}
use Rattle.window_run.proofs.Flows.{back, front}
use Rattle.window_run.proofs.Lines.{meets}
use Rattle.window_run.proofs.Waiting.{split}

-- ---- the line in force

force_before : (x : Line) (xs : List Line) (y : Line) (s : ℕ) → s < y.start → in_force x (xs ++ y ∷ []) s ≡ in_force x xs s
force_before x [] y s h = rw (lt-leb y.start s h) refl
force_before x (m ∷ ms) y s h = elim (nat_le m.start s) as (λ b. cond b (in_force m (ms ++ y ∷ []) s) x ≡ cond b (in_force m ms s) x) [ true ↦ force_before m ms y s h | false ↦ refl ]

force_last : (x : Line) (xs : List Line) (s : ℕ) → ((k : ℕ) → k < length xs → (line_of xs k).start ≤ s) → in_force x xs s ≡ last_of (x ∷ xs)
force_last x [] s begun = refl
force_last x (m ∷ ms) s begun =
    let here : m.start ≤ s = begun 0 (omega arith) in
    let e : suc (suc (length ms)) - 1 ≡ suc (suc (length ms) - 1) = omega arith in
    rw (le-leb m.start s here, e) (force_last m ms s (λ k h. begun (suc k) (omega (arith, h))))

pair_before : (xs : List Line) (y : Line) (s : ℕ) → 0 < length xs → s < y.start → pair (xs ++ y ∷ []) s ≡ pair xs s
unfolding pair
pair_before [] y s some h = absurd (omega (arith, some))
pair_before (x ∷ xs) y s some h = ap (λ (l : Line). voltage l s) (force_before x xs y s h)

pair_last : (xs : List Line) (s : ℕ) → 0 < length xs → ((k : ℕ) → k < length xs → (line_of xs k).start ≤ s) → pair xs s ≡ voltage (last_of xs) s
unfolding pair
pair_last [] s some begun = absurd (omega (arith, some))
pair_last (x ∷ xs) s some begun = ap (λ (l : Line). voltage l s) (force_last x xs s (λ k h. begun (suc k) (omega (arith, h))))

-- ---- one piece

up_to_last : (xs : List Line) (n k : ℕ) → k + n + 1 ≡ length xs → ((j : ℕ) → j + 1 < length xs → Turns (line_of xs j) (line_of xs (j + 1))) → (line_of xs k).start ≤ (last_of xs).start
up_to_last xs zero k e turns = let same : length xs - 1 ≡ k = omega (arith, e) in rw same (omega arith)
up_to_last xs (suc n) k e turns = let h = (turns k (omega (arith, e))).later in let r = up_to_last xs n (k + 1) (omega (arith, e)) turns in omega (arith, h, r)

-- each line has begun where the last one has
pub begun : (from : ℕ) (xs : List Line) (l : Line) → IsPiece from xs l → (k : ℕ) → k < length xs → (line_of xs k).start ≤ l.start
begun from xs l p k h = rw (← p.last) (up_to_last xs (length xs - 1 - k) k (omega (arith, h)) p.turns)

-- from where the last line begins the piece goes as it does
pub goes : (from : ℕ) (xs : List Line) (l : Line) → IsPiece from xs l → (s : ℕ) → l.start ≤ s → pair xs s ≡ voltage l s
goes from xs l p s h = pair_last xs s p.some (λ k inside. let b = begun from xs l p k inside in omega (arith, b, h)) ∙ ap (λ (m : Line). voltage m s) p.last

-- the last line turns
pub put_piece : (from : ℕ) (xs : List Line) (l : Line) (now : ℕ) (rate : ℤ) → IsPiece from xs l → l.start < now → rate ≢ l.rate → IsPiece from (xs ++ turned l now rate ∷ []) (turned l now rate)
put_piece from xs l now rate p early other =
    let y : Line = turned l now rate in
    let count : length (xs ++ y ∷ []) ≡ length xs + 1 = length-append xs (y ∷ []) in
    let some = p.some in
    record {
      some = omega (arith, count);
      first = ap (λ (m : Line). m.start) (front xs y no_line 0 some) ∙ p.first;
      last = back xs y no_line (length (xs ++ y ∷ []) - 1) (omega (arith, count));
      turns = λ j h. by j (omega (arith, h, count)) (split (j + 1) (length xs));
    }
  where
    by : (j : ℕ) → j + 1 < length xs + 1 → (j + 1 < length xs) ⊎ (length xs ≤ j + 1) → Turns (line_of (xs ++ turned l now rate ∷ []) j) (line_of (xs ++ turned l now rate ∷ []) (j + 1))
    by j h (inl inside) = rw (front xs (turned l now rate) no_line j (omega (arith, inside)), front xs (turned l now rate) no_line (j + 1) inside) (p.turns j inside)
    by j h (inr past) =
        let is : length xs - 1 ≡ j = omega (arith, h, past) in
        let here : line_of xs j ≡ l = ap (line_of xs) (sym is) ∙ p.last in
        rw (front xs (turned l now rate) no_line j (omega (arith, h)), back xs (turned l now rate) no_line (j + 1) (omega (arith, h, past)), here)
        (record { later = early; from_there = refl; other_rate = other })

pub put_kept : (from : ℕ) (xs : List Line) (l : Line) (now : ℕ) (rate : ℤ) (s : ℕ) → IsPiece from xs l → l.start < now → rate ≢ l.rate → s ≤ now → pair (xs ++ turned l now rate ∷ []) s ≡ pair xs s
put_kept from xs l now rate s p early other h = ⊎_elim
    (λ (e : s ≡ now). rw e (goes from (xs ++ turned l now rate ∷ []) (turned l now rate) (put_piece from xs l now rate p early other) now (omega arith) ∙ meets l now rate ∙ sym (goes from xs l p now (omega (arith, early)))))
    (λ (n : s ≢ now). pair_before xs (turned l now rate) s p.some (omega (arith, h, n)))
    (cases_eq s now)

-- ---- one node more has turned

pub go_more : (net : Net) (from : ℕ) (ps : List (List Line)) (ls : List Line) (k : ℕ) (xs : List Line) (l : Line) → k < length ps → k < length ls → IsPiece from xs l → PiecesGo net from ps ls → PiecesGo net from (set ps k xs) (set ls k l)
go_more net from ps ls k xs l beside inside new go = λ i below free. ⊎_elim
    (λ (e : i ≡ k). rw (e, get_or-set_same ps k xs [] beside, get_or-set_same ls k l no_line inside) new)
    (λ (n : i ≢ k). rw (get_or-set_other ps k i xs [] n, get_or-set_other ls k i l no_line n) (go i below free))
    (cases_eq i k)

pub kept_more : (net : Net) (first ps : List (List Line)) (now k : ℕ) (xs : List Line) → k < length ps → ((s : ℕ) → s ≤ now → pair xs s ≡ pairs ps k s) → PiecesKept net first ps now → PiecesKept net first (set ps k xs) now
kept_more net first ps now k xs beside same kept = λ i s below free upto. ⊎_elim
    (λ (e : i ≡ k). rw (e, get_or-set_same ps k xs [] beside) (same s upto ∙ ap (λ j. pairs ps j s) (sym e) ∙ kept i s below free upto ∙ ap (λ j. pairs first j s) e))
    (λ (n : i ≢ k). rw (get_or-set_other ps k i xs [] n) (kept i s below free upto))
    (cases_eq i k)

pub others_more : (net : Net) (first ps : List (List Line)) (k : ℕ) (xs : List Line) → net.free k ≡ true → OthersKept net first ps → OthersKept net first (set ps k xs)
others_more net first ps k xs free kept i not_free = get_or-set_other ps k i xs [] (λ (e : i ≡ k). false≢true (sym not_free ∙ ap net.free e ∙ free)) ∙ kept i not_free

sum_set : (ps : List (List Line)) (k : ℕ) (xs : List Line) → k < length ps → length xs ≡ length (piece_of ps k) + 1 → line_count (set ps k xs) ≡ line_count ps + 1
sum_set [] k xs h e = absurd (omega (arith, h))
sum_set (p ∷ ps) zero xs h e = rw (sum_by-cons (λ (zs : List Line). length zs) xs ps, sum_by-cons (λ (zs : List Line). length zs) p ps) (omega (arith, e))
sum_set (p ∷ ps) (suc k) xs h e = let r = sum_set ps k xs (omega (arith, h)) e in
    rw (sum_by-cons (λ (zs : List Line). length zs) p (set ps k xs), sum_by-cons (λ (zs : List Line). length zs) p ps) (omega (arith, r))

pub count_more : (old_steps steps new_steps : ℕ) (first ps : List (List Line)) (k : ℕ) (xs : List Line) (y : Line) → k < length ps → xs ≡ piece_of ps k ++ y ∷ [] → new_steps ≡ steps + 1 → Counts old_steps steps first ps → Counts old_steps new_steps first (set ps k xs)
count_more old_steps steps new_steps first ps k xs y beside is more counts =
    let size : length xs ≡ length (piece_of ps k) + 1 = ap length is ∙ length-append (piece_of ps k) (y ∷ []) in
    let sum = sum_set ps k xs beside size in
    omega (arith, sum, more, counts)

pub set_map : {A : Type 0} (f : A → List Line) (xs : List A) (k : ℕ) (x : A) → map f (set xs k x) ≡ set (map f xs) k (f x)
set_map f [] k x = refl
set_map f (y ∷ ys) zero x = refl
set_map f (y ∷ ys) (suc k) x = ap (λ zs. f y ∷ zs) (set_map f ys k x)

-- ---- over the bends of a tick

pub go_same : (net : Net) (from : ℕ) (ps : List (List Line)) (old new : List Line) → SameFree net old new → PiecesGo net from ps old → PiecesGo net from ps new
go_same net from ps old new same go = λ i below free. rw (same i free) (go i below free)

-- ---- over two stretches

pub kept_on : (net : Net) (first ps new : List (List Line)) (from now : ℕ) → from ≤ now → PiecesKept net ps new now → PiecesKept net first ps from → PiecesKept net first new from
kept_on net first ps new from now h later kept = λ i s below free upto. later i s below free (omega (arith, h, upto)) ∙ kept i s below free upto

pub counts_on : (first mid last : ℕ) (old ps new : List (List Line)) → Counts first mid old ps → Counts mid last ps new → Counts first last old new
counts_on first mid last old ps new a b = omega (arith, a, b)
