-- The ramps of a run are no more than the lines of its waves.
use Rattle.std.proofs.Common.{◌≡◌, ℕ, zero, suc, ◌+◌, ◌-◌, ◌<◌, ◌≤◌, max, Bool, true, false, cond, List, [], ◌∷◌, ◌++◌, length, map, get_or, refl, sym, ap, ◌∙◌, arith, ⊎_elim, subst}
use Rattle.std.specs.Prelude.{sum_by}
use Rattle.std.specs.List.{All}
use Rattle.std.proofs.lemmas.List.{length-append}
use Rattle.std.proofs.lemmas.List.Elements.{All-head, All-tail}
use Rattle.std.proofs.lemmas.List.Sums.{sum_by-cons}
use Rattle.semantics.specs.declared.line.Line.{Line}
use Rattle.semantics.specs.Deck.{DeckValue}
use Rattle.semantics.specs.Wave.{begins, entries_below, entry, wave}
use Rattle.histories.specs.Piece.{IsPiece, PieceValue}
use Rattle.histories.specs.Track.{line_of}
use Rattle.circuit_model.specs.Numbers.{CircuitValue, name_at}
use Rattle.window_run.specs.Window.{ramp_count}
use Rattle.window_run.proofs.Waiting.{split}

next_lines : (d : DeckValue) (n : List ℕ) (t : ℕ) → entries_below d (suc t) n ≡ entries_below d t n ++ cond (begins d t n) (entry d t n ∷ []) []
unfolding entries_below
next_lines d n t = refl

one_more : (d : DeckValue) (n : List ℕ) (t : ℕ) → length (entries_below d t n) ≤ length (entries_below d (suc t) n)
one_more d n t =
    let e : length (entries_below d (suc t) n) ≡ length (entries_below d t n) + length (cond (begins d t n) (entry d t n ∷ []) []) = ap (λ (ls : List Line). length ls) (next_lines d n t) ∙ length-append (entries_below d t n) (cond (begins d t n) (entry d t n ∷ []) []) in
    omega (arith, e)

begun_more : (d : DeckValue) (n : List ℕ) (t : ℕ) → begins d t n ≡ true → length (entries_below d (suc t) n) ≡ length (entries_below d t n) + 1
begun_more d n t is =
    ap (λ (ls : List Line). length ls) (next_lines d n t)
    ∙ ap (λ b. length (entries_below d t n ++ cond b (entry d t n ∷ []) [])) is
    ∙ length-append (entries_below d t n) (entry d t n ∷ [])

grows : (d : DeckValue) (n : List ℕ) (s k t : ℕ) → t ≡ s + k → length (entries_below d s n) ≤ length (entries_below d t n)
grows d n s zero t e = let same : s ≡ t = omega (arith, e) in subst (λ r. length (entries_below d s n) ≤ length (entries_below d r n)) same (omega arith)
grows d n s (suc k) t e =
    let a : length (entries_below d s n) ≤ length (entries_below d (s + k) n) = grows d n s k (s + k) refl in
    let b = one_more d n (s + k) in
    let same : suc (s + k) ≡ t = omega (arith, e) in
    subst (λ r. length (entries_below d s n) ≤ length (entries_below d r n)) same (omega (arith, a, b))

grows_to : (d : DeckValue) (n : List ℕ) (s t : ℕ) → s ≤ t → length (entries_below d s n) ≤ length (entries_below d t n)
grows_to d n s t h = grows d n s (t - s) t (omega (arith, h))

-- lines that rise, each where one of the wave begins, are no more than these
abbrev pub BeginEach : DeckValue → List ℕ → List Line → Type 0
BeginEach d n xs = (j : ℕ) → j < length xs → begins d (line_of xs j).start n ≡ true

up_to : (d : DeckValue) (n : List ℕ) (xs : List Line) → ((i j : ℕ) → i < j → j < length xs → (line_of xs i).start < (line_of xs j).start) → BeginEach d n xs → (j : ℕ) → j < length xs → j + 1 ≤ length (entries_below d (suc (line_of xs j).start) n)
up_to d n xs rising each zero h = let e = begun_more d n (line_of xs 0).start (each 0 h) in omega (arith, e)
up_to d n xs rising each (suc j) h =
    let before = up_to d n xs rising each j (omega (arith, h)) in
    let more = grows_to d n (suc (line_of xs j).start) (line_of xs (suc j)).start (rising j (suc j) (omega arith) h) in
    let e = begun_more d n (line_of xs (suc j)).start (each (suc j) h) in
    omega (arith, before, more, e)

pub few : (d : DeckValue) (n : List ℕ) (xs : List Line) (stop : ℕ) → ((i j : ℕ) → i < j → j < length xs → (line_of xs i).start < (line_of xs j).start) → BeginEach d n xs → ((j : ℕ) → j < length xs → (line_of xs j).start < stop) → length xs ≤ length (entries_below d stop n)
few d n xs stop rising each early = ⊎_elim
    (λ (some : 0 < length xs).
    let last : ℕ = length xs - 1 in
    let a = up_to d n xs rising each last (omega (arith, some)) in
    let b = grows_to d n (suc (line_of xs last).start) stop (early last (omega (arith, some))) in
    omega (arith, some, a, b))
    (λ (none : length xs ≤ 0). omega (arith, none))
    (split 0 (length xs))

pub in_wave : (d : DeckValue) (n : List ℕ) (xs : List Line) → 0 < d.stop → ((i j : ℕ) → i < j → j < length xs → (line_of xs i).start < (line_of xs j).start) → BeginEach d n xs → ((j : ℕ) → j < length xs → (line_of xs j).start < d.stop) → length xs ≤ length (wave d n)
unfolding wave
in_wave d n xs some rising each early = let whole : max 1 d.stop ≡ d.stop = omega (arith, some) in rw whole (few d n xs d.stop rising each early)

-- over all pieces
pub all_few : (g : ℕ → ℕ) (ps : List PieceValue) → All (λ p. length p.lines ≤ g p.node) ps → ramp_count ps ≤ sum_by g (map (λ (p : PieceValue). p.node) ps)
all_few g [] each = omega arith
all_few g (p ∷ ps) each =
    let here = All-head (λ (q : PieceValue). length q.lines ≤ g q.node) p ps each in
    let rest = all_few g ps (All-tail (λ (q : PieceValue). length q.lines ≤ g q.node) p ps each) in
    let a : ramp_count (p ∷ ps) ≡ length p.lines + ramp_count ps = sum_by-cons (λ (q : PieceValue). length q.lines) p ps in
    let b = sum_by-cons g p.node (map (λ (q : PieceValue). q.node) ps) in
    omega (arith, here, rest, a, b)
