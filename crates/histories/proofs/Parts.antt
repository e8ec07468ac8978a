-- Lines put after lines: the pairs before the first of the second are those of the first, and from it on those of the second.
use Rattle.std.proofs.Common.{◌≡◌, ◌≢◌, ℕ, zero, suc, ◌+◌, ◌<◌, ◌≤◌, leb, ltb, Bool, true, false, cond, List, [], ◌∷◌, ◌++◌, length, refl, sym, ap, ◌∙◌, arith, ⊎_elim}
use Rattle.std.proofs.lemmas.Bool.{cases_eq, le-leb, lt-leb, ltb-true, ltb-false, cases_Bool}
use Rattle.semantics.specs.declared.line.Line.{Line}
use Rattle.node_ramps.specs.Lines.{turned, voltage}
use Rattle.node_ramps.proofs.Sums.{same_line}
use Rattle.histories.specs.Track.{in_force, line_of, pair}
use Rattle.histories.specs.Place.{IsPlace}
use Rattle.histories.proofs.Places.{Rising}
use Rattle.std.specs.Prelude.{take, drop}
use Rattle.histories.proofs.Follows.{fractions}

-- each of these begins at a tick or before
abbrev pub AllBy : List Line → ℕ → Type 0
AllBy ls t = (k : ℕ) → k < length ls → (line_of ls k).start ≤ t

rest_by : (l : Line) (ls : List Line) (t : ℕ) → AllBy (l ∷ ls) t → AllBy ls t
rest_by l ls t by = λ k h. by (suc k) (omega (arith, h))

-- before the first of the second list
in_force_before : (l : Line) (xs : List Line) (y : Line) (ys : List Line) (u : ℕ) → u < y.start → in_force l (xs ++ y ∷ ys) u ≡ in_force l xs u
in_force_before l [] y ys u h = rw (lt-leb y.start u h) refl
in_force_before l (x ∷ xs) y ys u h = by (leb x.start u) refl (in_force_before x xs y ys u h)
  where
    by : (b : Bool) → leb x.start u ≡ b → in_force x (xs ++ y ∷ ys) u ≡ in_force x xs u → cond (leb x.start u) (in_force x (xs ++ y ∷ ys) u) l ≡ cond (leb x.start u) (in_force x xs u) l
    by true is same = rw is same
    by false is same = rw is refl

-- from it on, where those of the first list begin before
in_force_after : (l : Line) (xs : List Line) (y : Line) (ys : List Line) (u : ℕ) → AllBy xs u → y.start ≤ u → in_force l (xs ++ y ∷ ys) u ≡ in_force y ys u
in_force_after l [] y ys u by h = rw (le-leb y.start u h) refl
in_force_after l (x ∷ xs) y ys u by h = rw (le-leb x.start u (by 0 (omega arith))) (in_force_after x xs y ys u (rest_by x xs u by) h)

pub pair_before : (l : Line) (xs : List Line) (y : Line) (ys : List Line) (u : ℕ) → u < y.start → pair ((l ∷ xs) ++ y ∷ ys) u ≡ pair (l ∷ xs) u
unfolding pair
pair_before l xs y ys u h = ap (λ m. voltage m u) (in_force_before l xs y ys u h)

pub pair_after : (l : Line) (xs : List Line) (y : Line) (ys : List Line) (u : ℕ) → AllBy (l ∷ xs) u → y.start ≤ u → pair ((l ∷ xs) ++ y ∷ ys) u ≡ pair (y ∷ ys) u
unfolding pair
pair_after l xs y ys u by h = ap (λ m. voltage m u) (in_force_after l xs y ys u (rest_by l xs u by) h)

-- the law of the push: a line put last is in force from its start on
pub push_pairs : (l : Line) (xs : List Line) (y : Line) (u : ℕ) → AllBy (l ∷ xs) y.start → pair ((l ∷ xs) ++ y ∷ []) u ≡ cond (ltb u y.start) (pair (l ∷ xs) u) (voltage y u)
unfolding pair
push_pairs l xs y u by = ⊎_elim
    (λ (h : ltb u y.start ≡ true). rw h (ap (λ m. voltage m u) (in_force_before l xs y [] u (ltb-true u y.start h))))
    (λ (h : ltb u y.start ≡ false). rw h (let late : y.start ≤ u = ltb-false u y.start h in ap (λ m. voltage m u) (in_force_after l xs y [] u (λ k i. let early = by (suc k) (omega (arith, i)) in omega (arith, early, late)) late)))
    (cases_Bool (ltb u y.start))

-- the lines up to the place of a tick have the pairs up to it
in_force_take : (l : Line) (ls : List Line) (k u : ℕ) → ((j : ℕ) → k < suc j → j < length ls → u < (line_of ls j).start) → in_force l (take k ls) u ≡ in_force l ls u
in_force_take l [] zero u late = refl
in_force_take l [] (suc k) u late = refl
in_force_take l (m ∷ ms) zero u late = sym (rw (lt-leb m.start u (late 0 (omega arith) (omega arith))) refl)
in_force_take l (m ∷ ms) (suc k) u late = by (leb m.start u) refl (in_force_take m ms k u (λ j h i. late (suc j) (omega (arith, h)) (omega (arith, i))))
  where
    by : (b : Bool) → leb m.start u ≡ b → in_force m (take k ms) u ≡ in_force m ms u → cond (leb m.start u) (in_force m (take k ms) u) l ≡ cond (leb m.start u) (in_force m ms u) l
    by true is same = rw is same
    by false is same = rw is refl

pub pair_take : (ls : List Line) (t k u : ℕ) → IsPlace ls t k → u ≤ t → pair (take (suc k) ls) u ≡ pair ls u
unfolding pair
pair_take [] t k u p h = absurd (omega (arith, p.inside))
pair_take (l ∷ ls) t k u p h = ap (λ m. voltage m u) (in_force_take l ls k u (λ j i inside. let late = p.last (suc j) i (omega (arith, inside)) in omega (arith, late, h)))

-- the line at the place of a tick, from there, and those after it have the pairs from the tick on
in_force_from : (l a : Line) (ls : List Line) (k t u : ℕ) → IsPlace (l ∷ ls) t k → t ≤ u → ((j : ℕ) → j < k → (line_of ls j).start ≤ t) → in_force l ls u ≡ in_force (line_of (l ∷ ls) k) (drop k ls) u
in_force_from l a ls zero t u p h by = refl
in_force_from l a [] (suc k) t u p h by = absurd (omega (arith, p.inside))
in_force_from l a (m ∷ ms) (suc k) t u p h by =
    let first : m.start ≤ u = (let e = by 0 (omega arith) in omega (arith, e, h)) in
    rw (le-leb m.start u first) (in_force_from m a ms k t u (record { inside = omega (arith, p.inside); started = p.started; last = λ j i b. p.last (suc j) (omega (arith, i)) (omega (arith, b)) }) h (λ j i. by (suc j) (omega (arith, i))))

-- two lines with one voltage at a tick are alike in force
alike : (a b : Line) (xs : List Line) (u : ℕ) → voltage a u ≡ voltage b u → voltage (in_force a xs u) u ≡ voltage (in_force b xs u) u
alike a b [] u e = e
alike a b (x ∷ xs) u e = by (leb x.start u) refl
  where
    by : (t : Bool) → leb x.start u ≡ t → voltage (cond (leb x.start u) (in_force x xs u) a) u ≡ voltage (cond (leb x.start u) (in_force x xs u) b) u
    by true is = rw is refl
    by false is = rw is e

-- the line at this place, from a tick on, and those after it
abbrev pub from_place : List Line → ℕ → ℕ → List Line
from_place ls t k = turned (line_of ls k) t (line_of ls k).rate ∷ drop (k + 1) ls

pub pair_from : (ls : List Line) (t k u : ℕ) → Rising ls → IsPlace ls t k → t ≤ u → pair (from_place ls t k) u ≡ pair ls u
unfolding pair
pair_from [] t k u track p h = absurd (omega (arith, p.inside))
pair_from (l ∷ ls) t k u track p h =
    let a : Line = line_of (l ∷ ls) k in
    let same : voltage (turned a t a.rate) u ≡ voltage a u = fractions _ _ a.den a.den (same_line a t u a.rate refl p.started h) refl in
    let which : in_force l ls u ≡ in_force a (drop k ls) u = in_force_from l a ls k t u p h begun in
    rw (rest k) (alike (turned a t a.rate) a (drop k ls) u same) ∙ sym (ap (λ m. voltage m u) which)
  where
    rest : (k : ℕ) → drop (k + 1) (l ∷ ls) ≡ drop k ls
    rest k = let e : k + 1 ≡ suc k = omega arith in rw e refl

    begun : (j : ℕ) → j < k → (line_of ls j).start ≤ t
    begun j i = ⊎_elim
        (λ (e : suc j ≡ k). rw (← e) at p.started)
        (λ (n : suc j ≢ k). let up = track (suc j) k (omega (arith, i, n)) p.inside in omega (arith, up, p.started))
        (cases_eq (suc j) k)
