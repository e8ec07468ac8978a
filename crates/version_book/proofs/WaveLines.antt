-- The lines of a node's wave: they begin one after another, each in its limits, and the one in force at a tick has the voltage of the run there.
use Rattle.std.proofs.Common.{◌≡◌, ℕ, zero, suc, ◌-◌, ◌<◌, ◌≤◌, ◌+◌, ◌*◌, true, List, [], ◌∷◌, ◌++◌, length, get_or, Some, None, refl, sym, ap, ◌∙◌, subst, ⊎_elim, arith, mul-suc, ℤ, pos, ◌*ℤ◌, ◌-ℤ◌, ◌≤ℤ◌}
use Rattle.std.specs.Prelude.{max, ◌==◌, MatchOption}
use Rattle.std.specs.Option.{option_or}
use Rattle.std.specs.Ordering.{int_eq}
use Rattle.std.proofs.lemmas.Bool.{and_parts, cond_both, eqb-true, le-leb, lt-leb}
use Rattle.std.proofs.lemmas.Int.{ints}
use Rattle.std.proofs.lemmas.List.{get_or_append_left, get_or_push, length_push}
use borrow.Author.Differences.{down, product_is, up}
use Rattle.semantics.specs.declared.fraction.Fraction.{Fraction}
use Rattle.semantics.specs.declared.line.Line.{Line}
use Rattle.semantics.specs.Deck.{DeckValue, nodes}
use Rattle.semantics.specs.Grid.{difference}
use Rattle.semantics.specs.Run.{run}
use Rattle.semantics.specs.Wave.{entry, entries_below, goes_on, rate, wave}
use Rattle.semantics.proofs.Limits.{Limits, node_rate, node_voltage}
use Rattle.semantics.proofs.Nodes.{AreNodes-nodes}
use Rattle.node_ramps.specs.Lines.{voltage}
use Rattle.histories.specs.Track.{IsBounded, IsTrack, in_force, line_of, no_line, pair}
use Rattle.histories.proofs.Follows.{le_or_lt}
use Rattle.histories.proofs.Joins.{Before, before_one, join_after, join_before, track_join, track_one}
use Rattle.histories.proofs.Parts.{AllBy}
use Rattle.histories.proofs.Places.{Rising, rest}
use Rattle.circuit_model.specs.Carried.{HasVoltage, voltage_at}
use Rattle.circuit_model.proofs.Carried.{carried}
use Rattle.circuit_model.proofs.Entries.{entries_first, entries_step}

-- ---- lines that rise

-- lines from tick 0 on, each in its limits, that begin up to a tick
record AreTo (ls : List Line) (t : ℕ) : Type 0 where
  track : IsTrack 0 ls
  before : Before ls (suc t)

before_more : (ls : List Line) (l : Line) (t : ℕ) → Before ls (suc t) → l.start ≡ suc t → Before (ls ++ l ∷ []) (suc (suc t))
before_more ls l t before start = λ k h. ⊎_elim
    (λ (last : length ls ≤ k).
    let here : length ls ≡ k = omega (arith, last, h, length_push ls l) in
    rw (get_or_push ls l no_line k here) (omega (arith, start)))
    (λ (early : k < length ls). rw (get_or_append_left ls (l ∷ []) no_line k early) (let b = before k early in omega (arith, b)))
    (le_or_lt (length ls) k)

one_more : (ls : List Line) (l : Line) (t : ℕ) → AreTo ls t → l.start ≡ suc t → IsBounded l → AreTo (ls ++ l ∷ []) (suc t)
one_more ls l t are start bounded = record {
  track = track_join 0 (suc t) ls (l ∷ []) are.track are.before (track_one (suc t) l start bounded);
  before = before_more ls l t are.before start;
}

later : (ls : List Line) (t : ℕ) → AreTo ls t → AreTo ls (suc t)
later ls t are = record { track = are.track; before = λ k h. let b = are.before k h in omega (arith, b) }

entry_start : (d : DeckValue) (t : ℕ) (n : List ℕ) → (entry d t n).start ≡ t
unfolding entry
entry_start d t n = refl

-- the lines that begin up to a tick, where each of them is in its limits
lines_to : (d : DeckValue) (n : List ℕ) (t : ℕ) → ((u : ℕ) → IsBounded (entry d u n)) → AreTo (entries_below d (suc t) n) t
lines_to d n zero bounded =
    rw (entries_first d n) (record { track = track_one 0 (entry d 0 n) (entry_start d 0 n) (bounded 0); before = before_one (entry d 0 n) (entry_start d 0 n) })
lines_to d n (suc t) bounded =
    rw (entries_step d t n)
    (cond_both (goes_on (entry d t n) (entry d (suc t) n)) (entries_below d (suc t) n) (entries_below d (suc t) n ++ entry d (suc t) n ∷ []) (λ ls. AreTo ls (suc t))
    (λ on. later (entries_below d (suc t) n) t (lines_to d n t bounded))
    (λ turns. one_more (entries_below d (suc t) n) (entry d (suc t) n) t (lines_to d n t bounded) (entry_start d (suc t) n) (bounded (suc t))))

entry_bounded : (d : DeckValue) (t i : ℕ) → Limits d → i < length (nodes d) → IsBounded (entry d t (get_or (nodes d) i []))
unfolding entry
entry_bounded d t i l inside =
    let v = node_voltage d t i l inside in
    record { den_from = v.den_low; den_to = v.den_high; num = v.num; rate = node_rate d t i l inside }

-- ---- the denominator of the line in force

in_force_stays : (l : Line) (ls : List Line) (t : ℕ) → AllBy ls t → in_force l ls (suc t) ≡ in_force l ls t
in_force_stays l [] t by = refl
in_force_stays l (m ∷ ms) t by =
    let here : m.start ≤ t = by 0 (omega arith) in
    rw (le-leb m.start (suc t) (omega (arith, here)), le-leb m.start t here) (in_force_stays m ms t (λ k h. by (suc k) (omega (arith, h))))

same_den : (ls : List Line) (t : ℕ) → Before ls (suc t) → (pair ls (suc t)).den ≡ (pair ls t).den
unfolding pair
same_den [] t before = refl
same_den (l ∷ ls) t before = ap (λ (m : Line). m.den) (in_force_stays l ls t (λ k h. let b = before (suc k) (omega (arith, h)) in omega (arith, b)))

den_one : (d : DeckValue) (t : ℕ) (n : List ℕ) → (pair (entry d t n ∷ []) t).den ≡ (run d t n).den
unfolding pair entry
den_one d t n = refl

den_goes_on : (d : DeckValue) (t : ℕ) (n : List ℕ) → goes_on (entry d t n) (entry d (suc t) n) ≡ true → (run d (suc t) n).den ≡ (run d t n).den
unfolding entry
den_goes_on d t n on = eqb-true (run d (suc t) n).den (run d t n).den (and_parts (int_eq (rate d (suc t) n) (rate d t n)) ((run d (suc t) n).den == (run d t n).den) on).1

den_to : (d : DeckValue) (n : List ℕ) (m t : ℕ) → ((u : ℕ) → IsBounded (entry d u n)) → t ≤ m → (pair (entries_below d (suc m) n) t).den ≡ (run d t n).den
den_to d n zero t bounded up_to = let none : t ≡ 0 = omega (arith, up_to) in rw (none, entries_first d n) (den_one d 0 n)
den_to d n (suc m) t bounded up_to =
    let ls : List Line = entries_below d (suc m) n in
    let e : Line = entry d (suc m) n in
    let are = lines_to d n m bounded in
    let one = (track_one (suc m) e (entry_start d (suc m) n) (bounded (suc m))).lines in
    rw (entries_step d m n)
    (cond_both (goes_on (entry d m n) e) ls (ls ++ e ∷ []) (λ xs. (pair xs t).den ≡ (run d t n).den)
    (λ on. ⊎_elim
    (λ (early : t ≤ m). den_to d n m t bounded early)
    (λ (last : m < t).
    let here : t ≡ suc m = omega (arith, last, up_to) in
    rw here (same_den ls m are.before ∙ den_to d n m m bounded (omega arith) ∙ sym (den_goes_on d m n on)))
    (le_or_lt t m))
    (λ turns. ⊎_elim
    (λ (early : t ≤ m). ap (λ (v : Fraction). v.den) (join_before ls (e ∷ []) (suc m) t are.track.lines.some one (omega (arith, early))) ∙ den_to d n m t bounded early)
    (λ (last : m < t).
    let here : t ≡ suc m = omega (arith, last, up_to) in
    rw here (ap (λ (v : Fraction). v.den) (join_after ls (e ∷ []) (suc m) (suc m) are.track.lines.some are.before one (omega arith)) ∙ den_one d (suc m) n))
    (le_or_lt t m)))

-- ---- the voltage of lines

nothing : (t : ℕ) → voltage_at [] t ≡ None
unfolding voltage_at
nothing t = refl

one_line : (l : Line) (ls : List Line) (t : ℕ) → l.start ≤ t → voltage_at (l ∷ ls) t ≡ option_or (voltage_at ls t) (Some (voltage l t))
unfolding voltage_at
one_line l ls t started = rw (le-leb l.start t started) refl

late_line : (l : Line) (ls : List Line) (t : ℕ) → t < l.start → voltage_at (l ∷ ls) t ≡ option_or (voltage_at ls t) None
unfolding voltage_at
late_line l ls t ahead = rw (lt-leb l.start t ahead) refl

none_yet : (ls : List Line) (t : ℕ) → ((k : ℕ) → k < length ls → t < (line_of ls k).start) → voltage_at ls t ≡ None
none_yet [] t ahead = nothing t
none_yet (l ∷ ls) t ahead = late_line l ls t (ahead 0 (omega arith)) ∙ ap (λ o. option_or o None) (none_yet ls t (λ k h. ahead (suc k) (omega (arith, h))))

voltage_in_force : (l : Line) (ls : List Line) (t : ℕ) → l.start ≤ t → Rising (l ∷ ls) → voltage_at (l ∷ ls) t ≡ Some (voltage (in_force l ls t) t)
voltage_in_force l [] t started up = one_line l [] t started ∙ ap (λ o. option_or o (Some (voltage l t))) (nothing t)
voltage_in_force l (m ∷ ms) t started up = one_line l (m ∷ ms) t started ∙ ⊎_elim
    (λ (begun : m.start ≤ t). rw (le-leb m.start t begun) (ap (λ o. option_or o (Some (voltage l t))) (voltage_in_force m ms t begun (rest l (m ∷ ms) up))))
    (λ (ahead : t < m.start). rw (lt-leb m.start t ahead) (ap (λ o. option_or o (Some (voltage l t))) (none_yet (m ∷ ms) t (all_ahead ahead))))
    (le_or_lt m.start t)
  where
    all_ahead : t < m.start → (k : ℕ) → k < length (m ∷ ms) → t < (line_of (m ∷ ms) k).start
    all_ahead ahead zero h = ahead
    all_ahead ahead (suc k) h = let r = up 1 (suc (suc k)) (omega arith) (omega (arith, h)) in omega (arith, r, ahead)

-- the pair of a track at a tick is its voltage there
pub voltage_is : (ls : List Line) (t : ℕ) → IsTrack 0 ls → voltage_at ls t ≡ Some (pair ls t)
unfolding pair
voltage_is [] t track = absurd (let some = track.lines.some in omega (arith, some))
voltage_is (l ∷ ls) t track = voltage_in_force l ls t (let first = track.lines.first in omega (arith, first)) track.lines.rising

-- ---- the wave of a node

pub wave_track : (d : DeckValue) (i : ℕ) → Limits d → i < length (nodes d) → IsTrack 0 (wave d (get_or (nodes d) i []))
unfolding wave
wave_track d i l inside =
    let k : ℕ = max 1 d.stop - 1 in
    let whole : max 1 d.stop ≡ suc k = omega arith in
    rw whole (lines_to d (get_or (nodes d) i []) k (λ u. entry_bounded d u i l inside)).track

wave_den : (d : DeckValue) (i t : ℕ) → Limits d → i < length (nodes d) → t < max 1 d.stop → (pair (wave d (get_or (nodes d) i [])) t).den ≡ (run d t (get_or (nodes d) i [])).den
unfolding wave
wave_den d i t l inside low =
    let k : ℕ = max 1 d.stop - 1 in
    let whole : max 1 d.stop ≡ suc k = omega (arith, low) in
    rw whole (den_to d (get_or (nodes d) i []) k t (λ u. entry_bounded d u i l inside) (omega (arith, low)))

-- ---- one denominator, and no difference

wider : (a b c e m : ℕ) → a + b + 1 ≤ c + e → a * m + b * m + m ≤ c * m + e * m
wider a b c e zero h = omega arith
wider a b c e (suc m) h = omega (arith, wider a b c e m h, mul-suc a m, mul-suc b m, mul-suc c m, mul-suc e m)

cancel_le : (x y : ℤ) (d : ℕ) → 0 < d → (x *ℤ pos d) ≤ℤ (y *ℤ pos d) → x ≤ℤ y
cancel_le x y d some h = ⊎_elim
    (λ (less : up x + down y ≤ up y + down x). omega (arith, ints, less))
    (λ (more : up y + down x < up x + down y). absurd (omega (arith, ints, h, product_is x (pos d), product_is y (pos d), wider (up y) (down x) (up x) (down y) d (omega (arith, more)))))
    (le_or_lt (up x + down y) (up y + down x))

same_num : (v w : Fraction) → v.den ≡ w.den → 0 < w.den → (difference v w).num ≡ pos 0 → v.num ≡ w.num
same_num v w den some none =
    let apart : (v.num *ℤ pos w.den) -ℤ (w.num *ℤ pos w.den) ≡ pos 0 = subst (λ k. (v.num *ℤ pos w.den) -ℤ (w.num *ℤ pos k) ≡ pos 0) den none in
    let below = cancel_le v.num w.num w.den some (omega (arith, ints, apart)) in
    let above = cancel_le w.num v.num w.den some (omega (arith, ints, apart)) in
    omega (arith, ints, below, above)

same_fraction : (v w : Fraction) → v.den ≡ w.den → 0 < w.den → (difference v w).num ≡ pos 0 → v ≡ w
same_fraction v w den some none = λ i. record { num = same_num v w den some none i; den = den i }

no_difference : (lines : List Line) (t : ℕ) (v w : Fraction) → voltage_at lines t ≡ Some w → HasVoltage lines t v → (difference w v).num ≡ pos 0
no_difference lines t v w at has = subst (λ o. MatchOption o ⊥ (λ u. (difference u v).num ≡ pos 0)) at has

-- up to the stop a wave has the voltage of the run
pub wave_voltage : (d : DeckValue) (i t : ℕ) → Limits d → i < length (nodes d) → t ≤ d.stop → HasVoltage (wave d (get_or (nodes d) i [])) t (run d t (get_or (nodes d) i []))
wave_voltage d i t l inside up_to = carried d (get_or (nodes d) i []) t l ((AreNodes-nodes d).real i inside) up_to

-- below the stop it has it over the same denominator
pub wave_below : (d : DeckValue) (i t : ℕ) → Limits d → i < length (nodes d) → t < max 1 d.stop → voltage_at (wave d (get_or (nodes d) i [])) t ≡ Some (run d t (get_or (nodes d) i []))
wave_below d i t l inside low =
    let n : List ℕ = get_or (nodes d) i [] in
    let at = voltage_is (wave d n) t (wave_track d i l inside) in
    let none = no_difference (wave d n) t (run d t n) (pair (wave d n) t) at (wave_voltage d i t l inside (omega (arith, low))) in
    at ∙ ap Some (same_fraction (pair (wave d n) t) (run d t n) (wave_den d i t l inside low) ((node_voltage d t i l inside).den_low) none)
