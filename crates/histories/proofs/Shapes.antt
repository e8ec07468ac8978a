-- Lines that rise from neighbour to neighbour rise.
use Rattle.std.proofs.Common.{◌≡◌, ℕ, zero, suc, ◌<◌, ◌≤◌, ltb, true, List, [], ◌∷◌, length, Option, Some, refl, sym, ap, ◌∙◌, arith, slice_get, unwrap_or}
use Rattle.std.specs.List.{All}
use Rattle.std.proofs.lemmas.Bool.{and_from, and_parts, lt-ltb, ltb-true}
use Rattle.semantics.specs.declared.line.Line.{Line}
use Rattle.histories.specs.Track.{line_of}
use Rattle.histories.specs.Piece.{IsShape, rising_starts}
use Rattle.histories.proofs.Places.{Rising, rest}

rise_more : (x y : Line) (ys : List Line) → x.start < y.start → Rising (y ∷ ys) → Rising (x ∷ y ∷ ys)
rise_more x y ys less up zero zero a b = absurd (omega (arith, a))
rise_more x y ys less up zero (suc zero) a b = less
rise_more x y ys less up zero (suc (suc j)) a b = let more = up zero (suc j) (omega arith) (omega (arith, b)) in omega (arith, less, more)
rise_more x y ys less up (suc i) zero a b = absurd (omega (arith, a))
rise_more x y ys less up (suc i) (suc j) a b = up i j (omega (arith, a)) (omega (arith, b))

pub rise_from : (x : Line) (xs : List Line) → rising_starts (x ∷ xs) ≡ true → Rising (x ∷ xs)
rise_from x [] h = λ i j a b. absurd (omega (arith, a, b))
rise_from x (y ∷ ys) h =
    let parts = and_parts (ltb x.start y.start) (rising_starts (y ∷ ys)) h in
    rise_more x y ys (ltb-true x.start y.start parts.0) (rise_from y ys parts.1)

pub rise_to : (xs : List Line) → Rising xs → rising_starts xs ≡ true
rise_to [] up = refl
rise_to (x ∷ []) up = refl
rise_to (x ∷ y ∷ ys) up = and_from (ltb x.start y.start) (rising_starts (y ∷ ys)) (lt-ltb x.start y.start (up 0 1 (omega arith) (omega arith))) (rise_to (y ∷ ys) (rest x (y ∷ ys) up))

first_of : (ls : List Line) (x : Line) → Some x ≡ slice_get ls 0 → (0 < length ls) × (line_of ls 0 ≡ x)
first_of [] x e = absurd (cc)
first_of (l ∷ ls) x e = (omega arith, ap (λ (o : Option Line). unwrap_or o x) (sym e))

-- what the tests of a shape find
pub shaped : (from until : ℕ) (ls : List Line) (x : Line) → Some x ≡ slice_get ls 0 → from < until → x.start ≡ from → rising_starts ls ≡ true → All (λ l. l.start ≤ until) ls → IsShape from until ls
shaped from until [] x e order start rising by = absurd (cc)
shaped from until (l ∷ ls) x e order start rising by = record {
  ordered = order;
  lines = record {
    some = omega arith;
    first = ap (λ (m : Line). m.start) (first_of (l ∷ ls) x e).1 ∙ start;
    rising = rise_from l ls rising;
  };
  by_until = by;
}
