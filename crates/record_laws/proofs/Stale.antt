-- What a window makes anew was stale, and is stale no more.
use Rattle.std.proofs.Common.{◌≡◌, ◌⊎◌, ℕ, zero, suc, ◌+◌, ◌<◌, ◌≤◌, Bool, true, false, not, ◌&&◌, ◌||◌, ◌==◌, cond, List, [], ◌∷◌, refl, sym, ap, ◌∙◌, arith, ⊎_elim, inl, inr, nat_lt, nat_le, max, sum_by, count_by, length, ◌++◌, length-append}
use Rattle.std.specs.List.{range_with_len, list_any}
use Rattle.std.specs.Str.{bytes_eq}
use Rattle.std.specs.Ordering.{int_eq}
use Rattle.std.proofs.lemmas.Bool.{false≢true, and_parts, and_from, or_cases, or_left, or_right, or_from, ltb-true, lt-ltb, eq-eqb, not_from_true, cases_lt, and_right}
use Rattle.std.proofs.lemmas.Bool.Decides.{Decides-int_eq}
use Rattle.std.proofs.lemmas.List.Sums.{sum_by-cons, sum_by_push}
use Rattle.semantics.specs.declared.fraction.Fraction.{Fraction}
use Rattle.semantics.specs.Deck.{DeckValue, free_nodes}
use Rattle.semantics.specs.Run.{run}
use Rattle.semantics.specs.Wave.{rate, entry, begins, entries_below, wave}
use Rattle.semantics.proofs.Nodes.{bytes_eq-same}
use Rattle.semantics.proofs.Steps.{rate_free}
use Rattle.semantics.specs.Neighbours.{is_free, share}
use Rattle.semantics.specs.Record.{Record, record_current, HasRun}
use Rattle.semantics.specs.Stale.{same_pair, is_off, is_stale, line_ticks, stale, is_turn, is_fresh, fresh}
use Rattle.semantics.proofs.Free.{free_undriven}
use Rattle.record_laws.specs.Laws.{HasRunBeside, SameBeside}
use Rattle.record_laws.proofs.Unique.{run_charged, run_current}

-- ---- sums

-- of three tests the first two hold never both, and each of them only where the third does
pub at_most : (a b c : Bool) → (a ≡ true → (c ≡ true) × (b ≡ false)) → (b ≡ true → c ≡ true) → cond a 1 0 + cond b 1 0 ≤ cond c 1 0
at_most false false c f g = omega arith
at_most false true true f g = omega arith
at_most false true false f g = absurd (false≢true (g refl))
at_most true true c f g = absurd (false≢true (sym (f refl).1))
at_most true false true f g = omega arith
at_most true false false f g = absurd (false≢true (f refl).0)

pub counts_below : (p q r : ℕ → Bool) (a k : ℕ) → ((t : ℕ) → a ≤ t → t < a + k → cond (p t) 1 0 + cond (q t) 1 0 ≤ cond (r t) 1 0)
    → count_by p (range_with_len a k) + count_by q (range_with_len a k) ≤ count_by r (range_with_len a k)
counts_below p q r a zero each = omega arith
counts_below p q r a (suc k) each =
    let rest : count_by p (range_with_len (a + 1) k) + count_by q (range_with_len (a + 1) k) ≤ count_by r (range_with_len (a + 1) k) =
    counts_below p q r (a + 1) k (λ t low high. each t (omega arith) (omega arith)) in
    let here : cond (p a) 1 0 + cond (q a) 1 0 ≤ cond (r a) 1 0 = each a (omega arith) (omega arith) in
    omega (
      arith,
      rest,
      here,
      sum_by-cons (λ t. cond (p t) 1 0) a (range_with_len (a + 1) k),
      sum_by-cons (λ t. cond (q t) 1 0) a (range_with_len (a + 1) k),
      sum_by-cons (λ t. cond (r t) 1 0) a (range_with_len (a + 1) k),
    )

pub sums_below : (f g h : List ℕ → ℕ) (ns : List (List ℕ)) → ((n : List ℕ) → list_any (bytes_eq n) ns ≡ true → f n + g n ≤ h n) → sum_by f ns + sum_by g ns ≤ sum_by h ns
sums_below f g h [] each = omega arith
sums_below f g h (n ∷ ns) each =
    let rest : sum_by f ns + sum_by g ns ≤ sum_by h ns = sums_below f g h ns (λ m at. each m (or_right (bytes_eq m n) (list_any (bytes_eq m) ns) at)) in
    let here : f n + g n ≤ h n = each n (or_left (bytes_eq n n) (list_any (bytes_eq n) ns) (bytes_eq-same n n refl)) in
    omega (arith, rest, here, sum_by-cons f n ns, sum_by-cons g n ns, sum_by-cons h n ns)

-- ---- a record that is the run

pub same_itself : (v w : Fraction) → v ≡ w → same_pair v w ≡ true
same_itself v w e = and_from _ _ ((Decides-int_eq v.num w.num).1 (ap (λ (p : Fraction). p.num) e)) (eq-eqb v.den w.den (ap (λ (p : Fraction). p.den) e))

not_off : (d : DeckValue) (x : Record) (n : List ℕ) (t : ℕ) → HasRun d x n t → HasRun d x n (suc t) → is_off d x n t ≡ false
not_off d x n t now next = or_from _ _ (not_from_true _ (same_itself (x n t) (run d t n) now))
    (and_right (nat_lt t d.stop) _ (not_from_true _ (same_itself (x n (suc t)) (run d (suc t) n) next)))

-- a node and its free neighbours have the run's pairs up to a tick
pub record RightNear (d : DeckValue) (x : Record) (n : List ℕ) (t : ℕ) : Type 0 where
  pub own : (s : ℕ) → s ≤ t → HasRun d x n s
  pub near : (m : List ℕ) (s : ℕ) → is_free d m ≡ true → share d m n ≡ true → s ≤ t → HasRun d x m s

-- there the record turns where a line begins
pub turn_begins : (d : DeckValue) (x : Record) (n : List ℕ) (t : ℕ) → is_free d n ≡ true → RightNear d x n t → is_turn d x n t ≡ begins d t n
unfolding begins entry
turn_begins d x n zero free right = refl
turn_begins d x n (suc t) free right =
    λ i. not (int_eq (slope (suc t) (omega arith) i) (slope t (omega arith) i) && ((right.own (suc t) (omega arith) i).den == (right.own t (omega arith) i).den))
  where
    slope : (s : ℕ) → s ≤ suc t → record_current d x s n ≡ rate d s n
    slope s below = run_current d x s n (λ m free' near. right.near m s free' near below ∙ run_charged d s m free') ∙ sym (rate_free d s n (free_undriven d n free))

-- ---- what is fresh

-- what is fresh of a window that has the run's pairs was stale
was_stale : (d : DeckValue) (w x : Record) (n : List ℕ) (t : ℕ) → is_free d n ≡ true → t < d.stop → RightNear d x n t → HasRun d x n (suc t)
    → is_fresh d w x n t ≡ true → is_stale d w n t ≡ true
was_stale d w x n t free below right next h =
    let parts = and_parts (is_turn d x n t) (not (same_pair (w n t) (x n t)) || not (same_pair (w n (suc t)) (x n (suc t)))) h in
    let other : (not (same_pair (w n t) (run d t n)) || not (same_pair (w n (suc t)) (run d (suc t) n))) ≡ true =
    sym (λ i. not (same_pair (w n t) (right.own t (omega arith) i)) || not (same_pair (w n (suc t)) (next i))) ∙ parts.1 in
    and_from _ _ (sym (turn_begins d x n t free right) ∙ parts.0)
    (⊎_elim
    (λ (now : not (same_pair (w n t) (run d t n)) ≡ true). or_left _ _ now)
    (λ (later : not (same_pair (w n (suc t)) (run d (suc t) n)) ≡ true). or_right _ _ (and_from _ _ (lt-ltb t d.stop below) later))
    (or_cases _ _ other))

-- a window: the records are the same beside it, and in it the second has the run's pairs
pub record IsRight (d : DeckValue) (w x : Record) (among : List ℕ → Bool) (from until : ℕ) : Type 0 where
  pub beside : SameBeside d among from until w x
  pub up_to : until ≤ d.stop
  pub below : (n : List ℕ) (t : ℕ) → is_free d n ≡ true → among n ≡ true → t < until → HasRun d x n t
  pub near : (n m : List ℕ) (t : ℕ) → is_free d n ≡ true → among n ≡ true → is_free d m ≡ true → share d m n ≡ true → t < until → HasRun d x m t
  pub last : (n : List ℕ) → is_free d n ≡ true → among n ≡ true → HasRun d x n until

-- what is stale after the window was stale before it
still_stale : (d : DeckValue) (w x : Record) (among : List ℕ → Bool) (from until : ℕ) → IsRight d w x among from until
    → (n : List ℕ) (t : ℕ) → is_free d n ≡ true → t ≤ d.stop → is_off d x n t ≡ true → is_off d w n t ≡ true
still_stale d w x among from until r n t free bound off = ⊎_elim
    (λ (now : not (same_pair (x n t) (run d t n)) ≡ true). or_left _ _ (kept t bound now))
    (λ (later : (nat_lt t d.stop && not (same_pair (x n (suc t)) (run d (suc t) n))) ≡ true).
    let parts = and_parts (nat_lt t d.stop) (not (same_pair (x n (suc t)) (run d (suc t) n))) later in
    let under : t < d.stop = ltb-true t d.stop parts.0 in
    or_right _ _ (and_from _ _ parts.0 (kept (suc t) (omega arith) parts.1)))
    (or_cases _ _ off)
  where
    -- a pair that is not the run's stands beside the window
    kept : (s : ℕ) → s ≤ d.stop → not (same_pair (x n s) (run d s n)) ≡ true → not (same_pair (w n s) (run d s n)) ≡ true
    kept s up_to wrong = (λ i. not (same_pair (r.beside n s free up_to aside i) (run d s n))) ∙ wrong
      where
        clash : HasRun d x n s → ⊥
        clash is = false≢true (sym (not_from_true _ (same_itself (x n s) (run d s n) is)) ∙ wrong)

        by : (b : Bool) → among n ≡ b → (among n ≡ false) ⊎ ((s ≤ from) ⊎ (until < s))
        by false out = inl out
        by true in' = ⊎_elim (λ (early : s < until). absurd (clash (r.below n s free in' early)))
            (λ (late : until ≤ s). ⊎_elim (λ (after : until < s). inr (inr after))
            (λ (at : s ≤ until). let same : until ≡ s = omega arith in absurd (clash ((λ i. x n (sym same i)) ∙ r.last n free in' ∙ (λ i. run d (same i) n)))) (cases_lt until s))
            (cases_lt s until)

        aside : (among n ≡ false) ⊎ ((s ≤ from) ⊎ (until < s))
        aside = by (among n) refl

pub fresh_stale : (d : DeckValue) (w x : Record) (among : List ℕ → Bool) (from until : ℕ) → IsRight d w x among from until → fresh d w x among from until + stale d x ≤ stale d w
unfolding fresh stale is_free
fresh_stale d w x among from until r = sums_below _ _ _ (free_nodes d) (λ n free. counts_below _ _ _ 0 (max 1 d.stop) (λ t low high. point n free t (omega arith)))
  where
    point : (n : List ℕ) → is_free d n ≡ true → (t : ℕ) → t ≤ d.stop
        → cond (among n && ((nat_le from t && nat_lt t until) && is_fresh d w x n t)) 1 0 + cond (is_stale d x n t) 1 0 ≤ cond (is_stale d w n t) 1 0
    point n free t bound = at_most _ _ _
        (λ h.
        let outer = and_parts (among n) ((nat_le from t && nat_lt t until) && is_fresh d w x n t) h in
        let inner = and_parts (nat_le from t && nat_lt t until) (is_fresh d w x n t) outer.1 in
        let inside : t < until = ltb-true t until (and_parts (nat_le from t) (nat_lt t until) inner.0).1 in
        let up_to : until ≤ d.stop = r.up_to in
        let right : RightNear d x n t = record { own = λ s below. r.below n s free outer.0 (omega arith); near = λ m s free' near below. r.near n m s free outer.0 free' near (omega arith) } in
        let next : HasRun d x n (suc t) = ⊎_elim (λ (early : suc t < until). r.below n (suc t) free outer.0 early)
        (λ (late : until ≤ suc t). let same : until ≡ suc t = omega arith in (λ i. x n (sym same i)) ∙ r.last n free outer.0 ∙ (λ i. run d (same i) n)) (cases_lt (suc t) until) in
        (was_stale d w x n t free (omega arith) right next inner.1, and_right (begins d t n) _ (not_off d x n t (right.own t (omega arith)) next)))
        (λ h.
        let parts = and_parts (begins d t n) (is_off d x n t) h in
        and_from _ _ parts.0 (still_stale d w x among from until r n t free bound parts.1))

-- ---- lines of waves

range_push : (a k last : ℕ) → a + k ≡ last → range_with_len a (suc k) ≡ range_with_len a k ++ (last ∷ [])
range_push a zero last is = let same : a ≡ last = omega arith in ap (λ x. x ∷ []) same
range_push a (suc k) last is = ap (λ xs. a ∷ xs) (range_push (a + 1) k last (omega arith))

lines_counted : (d : DeckValue) (n : List ℕ) (t : ℕ) → length (entries_below d t n) ≡ count_by (λ s. begins d s n) (range_with_len 0 t)
unfolding entries_below
lines_counted d n zero = refl
lines_counted d n (suc t) =
    let rest : length (entries_below d t n) ≡ count_by (λ s. begins d s n) (range_with_len 0 t) = lines_counted d n t in
    let more : range_with_len 0 (suc t) ≡ range_with_len 0 t ++ (t ∷ []) = range_push 0 t t (omega arith) in
    let all : count_by (λ s. begins d s n) (range_with_len 0 (suc t)) ≡ count_by (λ s. begins d s n) (range_with_len 0 t) + cond (begins d t n) 1 0 =
    ap (λ xs. count_by (λ s. begins d s n) xs) more ∙ sum_by_push (λ s. cond (begins d s n) 1 0) (range_with_len 0 t) t in
    length-append (entries_below d t n) (cond (begins d t n) (entry d t n ∷ []) []) ∙ (λ i. rest i + one (begins d t n) i) ∙ sym all
  where
    one : (b : Bool) → length (cond b (entry d t n ∷ []) []) ≡ cond b 1 0
    one true = refl
    one false = refl

-- where a node has the run's pairs, it has no stale line, and else no more of them than lines
pub stale_touched : (d : DeckValue) (w : Record) (touched : List ℕ → Bool) → HasRunBeside d w touched
    → stale d w ≤ sum_by (λ n. cond (touched n) (length (wave d n)) 0) (free_nodes d)
unfolding stale is_free wave
stale_touched d w touched right =
    let zero_first : sum_by (λ n. 0) (free_nodes d) + stale d w ≤ sum_by (λ n. cond (touched n) (length (wave d n)) 0) (free_nodes d) =
    sums_below (λ n. 0) (λ n. count_by (is_stale d w n) (line_ticks d)) _ (free_nodes d) (λ n free. by n free (touched n) refl) in
    omega (arith, zero_first)
  where
    none : (ts : List ℕ) → count_by (λ t. false) ts ≡ 0
    none [] = refl
    none (t ∷ ts) = let rest : count_by (λ s. false) ts ≡ 0 = none ts in omega (arith, rest, sum_by-cons (λ s. 0) t ts)

    off : (n : List ℕ) (t : ℕ) → is_free d n ≡ true → touched n ≡ false → t ≤ d.stop → is_off d w n t ≡ false
    off n t free far up_to = or_from _ _ (not_from_true _ (same_itself (w n t) (run d t n) (right n t free far up_to))) (later (nat_lt t d.stop) refl)
      where
        later : (b : Bool) → nat_lt t d.stop ≡ b → (b && not (same_pair (w n (suc t)) (run d (suc t) n))) ≡ false
        later false is = refl
        later true is = let under : t < d.stop = ltb-true t d.stop is in not_from_true _ (same_itself (w n (suc t)) (run d (suc t) n) (right n (suc t) free far (omega arith)))

    by : (n : List ℕ) → is_free d n ≡ true → (b : Bool) → touched n ≡ b → 0 + count_by (is_stale d w n) (line_ticks d) ≤ cond b (length (wave d n)) 0
    by n free true is =
        let all : count_by (λ t. false) (line_ticks d) + count_by (is_stale d w n) (line_ticks d) ≤ count_by (λ s. begins d s n) (line_ticks d) =
        counts_below (λ t. false) (is_stale d w n) (λ s. begins d s n) 0 (max 1 d.stop) (λ t low high. at_most false (is_stale d w n t) (begins d t n) (λ h. absurd (false≢true h)) (λ h. (and_parts (begins d t n) (is_off d w n t) h).0)) in
        omega (arith, all, lines_counted d n (max 1 d.stop))
    by n free false is =
        let all : count_by (λ t. false) (line_ticks d) + count_by (is_stale d w n) (line_ticks d) ≤ count_by (λ s. false) (line_ticks d) =
        counts_below (λ t. false) (is_stale d w n) (λ s. false) 0 (max 1 d.stop) (λ t low high. at_most false (is_stale d w n t) false (λ h. absurd (false≢true h))
        (λ h. absurd (false≢true (sym (and_right (begins d t n) _ (off n t free is (omega arith))) ∙ h)))) in
        omega (arith, all, none (line_ticks d))
