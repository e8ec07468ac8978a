-- Lines put after lines that begin before them, and parts of a track.
use Rattle.std.proofs.Common.{◌≡◌, ◌≢◌, ℕ, zero, suc, ◌+◌, ◌-◌, ◌<◌, ◌≤◌, ltb, leb, true, ◌&&◌, cond, List, [], ◌∷◌, ◌++◌, length, take, drop, refl, ap, ◌∙◌, arith, ⊎_elim, ℤ, length-append, set}
use Rattle.std.specs.List.{All, remove}
use Rattle.std.specs.Prelude.{◌==◌}
use Rattle.std.specs.Ordering.{int_eq}
use Rattle.std.proofs.lemmas.Bool.{and_parts, eqb-true, le-leb, lt-leb, lt-ltb, le-ltb}
use Rattle.std.proofs.lemmas.Bool.Decides.{Decides-int_eq}
use Rattle.std.proofs.lemmas.List.{get_or_append_left, get_or-append_right, get_or-take, get_or-drop, length-take-le, length-drop}
use Rattle.std.proofs.lemmas.List.Elements.{All-append, All-take, All-drop, All-cons, All-get_or, All-nil}
use Rattle.semantics.specs.declared.fraction.Fraction.{Fraction}
use Rattle.semantics.specs.declared.line.Line.{Line}
use Rattle.node_ramps.specs.Lines.{num_at, turned, voltage}
use Rattle.histories.specs.Track.{IsBounded, IsFrom, IsTrack, line_of, no_line, pair}
use Rattle.histories.specs.Place.{IsPlace, IsTail}
use Rattle.histories.proofs.Follows.{fractions, le_or_lt, none_gained}
use Rattle.histories.proofs.Places.{Rising, num_small}
use Rattle.histories.proofs.Parts.{from_place, pair_after, pair_before, pair_from, pair_take}

line_of_left : (xs ys : List Line) (i : ℕ) → i < length xs → line_of (xs ++ ys) i ≡ line_of xs i
line_of_left xs ys i h = get_or_append_left xs ys no_line i h

line_of_right : (xs ys : List Line) (i : ℕ) → length xs ≤ i → line_of (xs ++ ys) i ≡ line_of ys (i - length xs)
line_of_right xs ys i h = get_or-append_right xs ys (length xs) i no_line refl h

late : (to : ℕ) (ys : List Line) → IsFrom to ys → (j : ℕ) → j < length ys → to ≤ (line_of ys j).start
late to ys f zero h = omega (arith, f.first)
late to ys f (suc j) h = omega (arith, f.first, f.rising 0 (suc j) (omega arith) h)

-- each of these begins before a tick
abbrev pub Before : List Line → ℕ → Type 0
Before xs to = (k : ℕ) → k < length xs → (line_of xs k).start < to

rising_join : (to : ℕ) (xs ys : List Line) → Rising xs → Before xs to → IsFrom to ys → Rising (xs ++ ys)
rising_join to xs ys up before f = λ i j h k.
    let sum = rw (length-append xs ys) at k in
    ⊎_elim
    (λ (right : length xs ≤ j). ⊎_elim
    (λ (both : length xs ≤ i). rw (line_of_right xs ys i both, line_of_right xs ys j right) (f.rising (i - length xs) (j - length xs) (omega (arith, h, both)) (omega (arith, sum, right))))
    (λ (left : i < length xs). rw (line_of_left xs ys i left, line_of_right xs ys j right) (let a = before i left in let b = late to ys f (j - length xs) (omega (arith, sum, right)) in omega (arith, a, b)))
    (le_or_lt (length xs) i))
    (λ (left : j < length xs). rw (line_of_left xs ys i (omega (arith, h, left)), line_of_left xs ys j left) (up i j h left))
    (le_or_lt (length xs) j)

pub track_join : (from to : ℕ) (xs ys : List Line) → IsTrack from xs → Before xs to → IsTrack to ys → IsTrack from (xs ++ ys)
track_join from to xs ys x before y = record {
  lines = record {
    some = rw (length-append xs ys) (let s = x.lines.some in omega (arith, s));
    first = rw (line_of_left xs ys 0 x.lines.some) x.lines.first;
    rising = rising_join to xs ys x.lines.rising before y.lines;
  };
  bounded = All-append IsBounded xs ys x.bounded y.bounded;
}

-- before the first of the second, and from it on
pub join_before : (xs ys : List Line) (to u : ℕ) → 0 < length xs → IsFrom to ys → u < to → pair (xs ++ ys) u ≡ pair xs u
join_before [] ys to u some f h = absurd (omega (arith, some))
join_before (l ∷ xs) [] to u some f h = absurd (let none = f.some in omega (arith, none))
join_before (l ∷ xs) (y ∷ ys) to u some f h = pair_before l xs y ys u (let first = f.first in omega (arith, first, h))

pub join_after : (xs ys : List Line) (to u : ℕ) → 0 < length xs → Before xs to → IsFrom to ys → to ≤ u → pair (xs ++ ys) u ≡ pair ys u
join_after [] ys to u some before f h = absurd (omega (arith, some))
join_after (l ∷ xs) [] to u some before f h = absurd (let none = f.some in omega (arith, none))
join_after (l ∷ xs) (y ∷ ys) to u some before f h = pair_after l xs y ys u (λ k i. let b = before k i in omega (arith, b, h)) (let first = f.first in omega (arith, first, h))

-- ---- the first lines of a track

pub track_take : (from k : ℕ) (ls : List Line) → IsTrack from ls → 0 < k → k ≤ length ls → IsTrack from (take k ls)
track_take from k ls track some by =
    let count : length (take k ls) ≡ k = length-take-le k ls by in
    record {
      lines = record {
        some = rw count some;
        first = rw (get_or-take k ls 0 no_line some) track.lines.first;
        rising = λ i j h b.
            let inside = rw count at b in
            rw (get_or-take k ls i no_line (omega (arith, h, inside)), get_or-take k ls j no_line inside) (track.lines.rising i j h (omega (arith, inside, by)));
      };
      bounded = All-take IsBounded k ls track.bounded;
    }

pub before_take : (to k : ℕ) (ls : List Line) → k ≤ length ls → ((i : ℕ) → i < k → (line_of ls i).start < to) → Before (take k ls) to
before_take to k ls by before = λ i b.
    let inside = rw (length-take-le k ls by) at b in
    rw (get_or-take k ls i no_line inside) (before i inside)

-- where the first k lines begin before a tick, and the others do not, the lines up to it have the pairs before it
pub pair_kept : (ls : List Line) (tick k u : ℕ) → 0 < k → k ≤ length ls → ((i : ℕ) → i < k → (line_of ls i).start < tick) → ((i : ℕ) → k ≤ i → i < length ls → tick ≤ (line_of ls i).start) → u < tick → pair (take k ls) u ≡ pair ls u
pair_kept ls tick zero u some by before after h = absurd (omega (arith, some))
pair_kept ls tick (suc k) u some by before after h = pair_take ls (tick - 1) k u
    (record {
      inside = omega (arith, by);
      started = (let b = before k (omega arith) in omega (arith, b));
      last = λ j above inside. (let a = after j (omega (arith, above)) inside in omega (arith, a, h));
    })
    (omega (arith, h))

-- ---- the lines from a tick on

bounded_turn : (l : Line) (t : ℕ) → IsBounded l → l.start ≤ t → IsBounded (turned l t l.rate)
bounded_turn l t b h = record { den_from = b.den_from; den_to = b.den_to; num = num_small l t b h; rate = b.rate }

track_from : (from t k : ℕ) (ls : List Line) → IsTrack from ls → IsPlace ls t k → IsTrack t (from_place ls t k)
track_from from t k ls track p = record {
  lines = record { some = omega arith; first = refl; rising = up };
  bounded = All-cons IsBounded (turned (line_of ls k) t (line_of ls k).rate) (drop (k + 1) ls) (bounded_turn (line_of ls k) t (All-get_or IsBounded ls k no_line p.inside track.bounded) p.started) (All-drop IsBounded (k + 1) ls track.bounded);
}
  where
    inside : (j : ℕ) → suc j < length (from_place ls t k) → (k + 1) + j < length ls
    inside j h = let count = length-drop (k + 1) ls in omega (arith, h, count)

    up : Rising (from_place ls t k)
    up i zero h b = absurd (omega (arith, h))
    up zero (suc j) h b = rw (get_or-drop (k + 1) ls j no_line) (p.last ((k + 1) + j) (omega arith) (inside j b))
    up (suc i) (suc j) h b = rw (get_or-drop (k + 1) ls i no_line, get_or-drop (k + 1) ls j no_line) (track.lines.rising ((k + 1) + i) ((k + 1) + j) (omega (arith, h)) (inside j b))

pub tail_from : (from t k : ℕ) (ls : List Line) → IsTrack from ls → IsPlace ls t k → IsTail ls t (from_place ls t k)
tail_from from t k ls track p = record { track = track_from from t k ls track p; pairs = λ s h. pair_from ls t k s track.lines.rising p h }

pub by_from : (from k s : ℕ) (ls : List Line) → from < s → All (λ l. l.start ≤ s) ls → All (λ l. l.start ≤ s) (from_place ls (from + 1) k)
by_from from k s ls h by = All-cons (λ l. l.start ≤ s) (turned (line_of ls k) (from + 1) (line_of ls k).rate) (drop (k + 1) ls) (omega (arith, h)) (All-drop (λ l. l.start ≤ s) (k + 1) ls by)

-- ---- without the first tick

turned_there : (l : Line) (t : ℕ) → l.start ≡ t → l ≡ turned l t l.rate
turned_there l t e = rw (← e) (same l (num_at l l.start) (none_gained l.num l.rate (l.start - l.start) (omega arith)))
  where
    same : (l : Line) (z : ℤ) → l.num ≡ z → l ≡ record { start = l.start; num = z; rate = l.rate; den = l.den }
    same l z e = rw (← e) refl

-- where the second line begins at the next tick, it and those after it are left
pub skip_first : (from : ℕ) (ls : List Line) → IsFrom from ls → 1 < length ls → (line_of ls 1).start ≡ from + 1 → IsPlace ls (from + 1) 1 × (remove ls 0 ≡ from_place ls (from + 1) 1)
skip_first from [] f more e = absurd (omega (arith, more))
skip_first from (l ∷ []) f more e = absurd (omega (arith, more))
skip_first from (l ∷ m ∷ ms) f more e = (
  record { inside = more; started = omega (arith, e); last = λ j h i. (let up = f.rising 1 j h i in omega (arith, up, e)) },
  ap (λ x. x ∷ ms) (turned_there m (from + 1) e),
)

-- where it does not, the first begins at the next tick
pub skip_none : (from : ℕ) (ls : List Line) → IsFrom from ls → (1 < length ls → (line_of ls 1).start ≢ from + 1) → IsPlace ls (from + 1) 0 × (set ls 0 (turned (line_of ls 0) (from + 1) (line_of ls 0).rate) ≡ from_place ls (from + 1) 0)
skip_none from [] f other = absurd (let none = f.some in omega (arith, none))
skip_none from (l ∷ ls) f other = (
  record { inside = omega arith; started = (let first = f.first in omega (arith, first)); last = after },
  refl,
)
  where
    second : 1 < length (l ∷ ls) → from + 1 < (line_of (l ∷ ls) 1).start
    second more = let up = f.rising 0 1 (omega arith) more in let first = f.first in let ne = other more in omega (arith, up, first, ne)

    after : (j : ℕ) → 0 < j → j < length (l ∷ ls) → from + 1 < (line_of (l ∷ ls) j).start
    after zero h b = absurd (omega (arith, h))
    after (suc zero) h b = second b
    after (suc (suc j)) h b = let one = second (omega (arith, b)) in let up = f.rising 1 (suc (suc j)) (omega arith) b in omega (arith, one, up)

-- the lines before a tick, and others from it on
pub replaced : (ls xs : List Line) (tick k : ℕ) → IsFrom tick xs → 0 < k → k ≤ length ls → ((i : ℕ) → i < k → (line_of ls i).start < tick) → ((i : ℕ) → k ≤ i → i < length ls → tick ≤ (line_of ls i).start) → (t : ℕ) → pair (take k ls ++ xs) t ≡ cond (ltb t tick) (pair ls t) (pair xs t)
replaced ls xs tick k f some by before after t =
    let kept : 0 < length (take k ls) = rw (length-take-le k ls by) some in
    ⊎_elim
    (λ (late : tick ≤ t). rw (le-ltb t tick late) (join_after (take k ls) xs tick t kept (before_take tick k ls by before) f late))
    (λ (early : t < tick). rw (lt-ltb t tick early) (join_before (take k ls) xs tick t kept f early ∙ pair_kept ls tick k t some by before after early))
    (le_or_lt tick t)

-- ---- one line

pub track_one : (from : ℕ) (l : Line) → l.start ≡ from → IsBounded l → IsTrack from (l ∷ [])
track_one from l e b = record {
  lines = record { some = omega arith; first = e; rising = λ i j h k. absurd (omega (arith, h, k)) };
  bounded = All-cons IsBounded l [] b (All-nil IsBounded);
}

pub before_one : (l : Line) → l.start ≡ 0 → Before (l ∷ []) 1
before_one l e zero h = omega (arith, e)
before_one l e (suc k) h = absurd (omega (arith, h))

pub pair_one : (l : Line) (t : ℕ) → pair (l ∷ []) t ≡ voltage l t
unfolding pair
pair_one l t = refl

-- ---- a piece between two ends

pub first_place : (from : ℕ) (ls : List Line) → IsFrom from ls → IsPlace ls from 0
first_place from ls f = record { inside = f.some; started = (let e = f.first in omega (arith, e)); last = λ j h i. (let up = f.rising 0 j h i in let e = f.first in omega (arith, e, up)) }

pub equal_pairs : (a b : Fraction) → int_eq a.num b.num && (a.den == b.den) ≡ true → a ≡ b
equal_pairs a b h =
    let parts = and_parts (int_eq a.num b.num) (a.den == b.den) h in
    fractions a.num b.num a.den b.den ((Decides-int_eq a.num b.num).0 parts.0) (eqb-true a.den b.den parts.1)

-- lines from a begin on, in place of all after it, with the old ones again after the piece
pub between_ends : (from until begin stop t : ℕ) (old new one two piece : ℕ → Fraction) → from ≤ begin → begin ≤ from + 1 → from < until → t ≤ stop →
    new t ≡ cond (ltb t begin) (old t) (two t) → (t ≤ until → two t ≡ one t) → (until < t → two t ≡ old t) → (begin ≤ t → one t ≡ piece t) → (begin ≡ from → one from ≡ old from) →
    new t ≡ cond (ltb from t && leb t until) (piece t) (old t)
between_ends from until begin stop t old new one two piece low high order inside whole here after ours first = ⊎_elim
    (λ (late : begin ≤ t). (rw (le-ltb t begin late) at whole) ∙ ⊎_elim
    (λ (near : t ≤ until). here near ∙ ⊎_elim
    (λ (at : t ≤ from).
    let e : t ≡ from = omega (arith, at, late, low) in
    let s : begin ≡ from = omega (arith, at, late, low) in
    rw (le-ltb from t at) (rw e (first s)))
    (λ (past : from < t). rw (lt-ltb from t past, le-leb t until near) (ours late))
    (le_or_lt t from))
    (λ (far : until < t). rw (lt-ltb from t (omega (arith, far, order)), lt-leb t until far) (after far))
    (le_or_lt t until))
    (λ (early : t < begin). (rw (lt-ltb t begin early) at whole) ∙ rw (le-ltb from t (omega (arith, early, high))) refl)
    (le_or_lt begin t)

-- where no line begins before a tick, that is tick 0
pub at_start : (ls : List Line) (tick k : ℕ) → IsTrack 0 ls → k ≡ 0 → ((i : ℕ) → k ≤ i → i < length ls → tick ≤ (line_of ls i).start) → tick ≡ 0
at_start ls tick k track e after = (let late = after 0 (omega (arith, e)) track.lines.some in let first = track.lines.first in omega (arith, late, first))
