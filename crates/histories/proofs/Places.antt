-- The line in force at a tick, by its place, and how large its numbers are.
use Rattle.std.proofs.Common.{◌≡◌, ℕ, zero, suc, ◌+◌, ◌-◌, ◌*◌, ◌^◌, ◌<◌, ◌≤◌, ◌≢◌, leb, true, false, ⊎_elim, List, [], ◌∷◌, length, get_or, refl, ap, arith, ℤ, pos, ◌+ℤ◌, ◌*ℤ◌, unsigned_abs}
use Rattle.std.specs.List.Sorted.{IsNonDecreasingBy}
use Rattle.std.proofs.lemmas.Int.{ints, unsigned_abs-mul}
use Rattle.std.proofs.lemmas.Nat.{mul-le}
use Rattle.std.proofs.lemmas.Bool.{le-leb, lt-leb, leb-true, leb-false, cases_eq}
use Rattle.semantics.specs.declared.line.Line.{Line}
use Rattle.node_ramps.specs.Lines.{InBounds, num_at, voltage}
use Rattle.histories.specs.Track.{IsBounded, IsFrom, in_force, line_of, pair}
use Rattle.histories.specs.Place.{IsPlace}

abbrev pub Rising : List Line → Type 0
Rising ls = (i j : ℕ) → i < j → j < length ls → (line_of ls i).start < (line_of ls j).start

pub rest : (l : Line) (ls : List Line) → Rising (l ∷ ls) → Rising ls
rest l ls up = λ i j h k. up (suc i) (suc j) (omega (arith, h)) (omega (arith, k))

in_force_at : (l : Line) (ls : List Line) (t k : ℕ) → Rising (l ∷ ls) → IsPlace (l ∷ ls) t k → in_force l ls t ≡ line_of (l ∷ ls) k
in_force_at l [] t zero up p = refl
in_force_at l [] t (suc k) up p = absurd (omega (arith, p.inside))
in_force_at l (m ∷ ms) t zero up p = rw (lt-leb m.start t (p.last 1 (omega arith) (omega arith))) refl
in_force_at l (m ∷ ms) t (suc k) up p =
    let began : m.start ≤ t = begun k p.started p.inside in
    rw (le-leb m.start t began) (in_force_at m ms t k (rest l (m ∷ ms) up) (record { inside = omega (arith, p.inside); started = p.started; last = λ j h i. p.last (suc j) (omega (arith, h)) (omega (arith, i)) }))
  where
    begun : (k : ℕ) → (line_of (l ∷ m ∷ ms) (suc k)).start ≤ t → suc k < length (l ∷ m ∷ ms) → m.start ≤ t
    begun zero h i = h
    begun (suc k) h i = omega (arith, h, up 1 (suc (suc k)) (omega arith) i)

-- the pair at a tick is that of the line at its place
pub pair_at_place : (ls : List Line) (t k : ℕ) → Rising ls → IsPlace ls t k → pair ls t ≡ voltage (line_of ls k) t
unfolding pair
pair_at_place [] t k track p = absurd (omega (arith, p.inside))
pair_at_place (l ∷ ls) t k track p = ap (λ m. voltage m t) (in_force_at l ls t k track p)

pub in_order : (ls : List Line) → Rising ls → IsNonDecreasingBy (λ l. l.start) ls
in_order ls track = λ i j d h k. by i j d h k
  where
    at : (xs : List Line) (i : ℕ) (d : Line) → i < length xs → get_or xs i d ≡ line_of xs i
    at [] i d h = absurd (omega (arith, h))
    at (x ∷ xs) zero d h = refl
    at (x ∷ xs) (suc i) d h = at xs i d (omega (arith, h))

    le_from : (i j : ℕ) → i ≤ j → j < length ls → (line_of ls i).start ≤ (line_of ls j).start
    le_from i j h k = near (j - i) i j (omega (arith, h)) k
      where
        near : (n i j : ℕ) → j ≡ i + n → j < length ls → (line_of ls i).start ≤ (line_of ls j).start
        near zero i j e k = let same : j ≡ i = omega (arith, e) in rw same (omega arith)
        near (suc n) i j e k = let less = track i j (omega (arith, e)) k in omega (arith, less)

    by : (i j : ℕ) (d : Line) → i ≤ j → j < length ls → (get_or ls i d).start ≤ (get_or ls j d).start
    by i j d h k = rw (at ls i d (omega (arith, h, k)), at ls j d k) (le_from i j h k)

-- ---- sizes

pub product_small : (r : ℤ) (n : ℕ) → unsigned_abs r ≤ 10 ^ 15 → unsigned_abs (r *ℤ pos n) ≤ 10 ^ 15 * n
product_small r n h = rw (unsigned_abs-mul r (pos n)) (mul-le (unsigned_abs r) n (10 ^ 15) n h (omega arith))

sum_small : (x y : ℤ) (s t n : ℕ) → s + n ≡ t → unsigned_abs x ≤ 10 ^ 21 + 10 ^ 15 * s → unsigned_abs y ≤ 10 ^ 15 * n → unsigned_abs (x +ℤ y) ≤ 10 ^ 21 + 10 ^ 15 * t
sum_small x y s t n e hx hy = omega (arith, ints, e, hx, hy)

pub num_small : (l : Line) (t : ℕ) → IsBounded l → l.start ≤ t → unsigned_abs (num_at l t) ≤ 10 ^ 21 + 10 ^ 15 * t
num_small l t b h = sum_small l.num (l.rate *ℤ pos (t - l.start)) l.start t (t - l.start) (omega (arith, h)) b.num (product_small l.rate (t - l.start) b.rate)

pub in_bounds : (l : Line) (t : ℕ) → IsBounded l → l.start ≤ t → t ≤ 10 ^ 10 → InBounds l t
in_bounds l t b h k = record {
  started = h;
  den_from = b.den_from;
  den_to = b.den_to;
  num_first = omega (arith, b.num, h, k);
  num_last = omega (arith, num_small l t b h, k);
  rate = omega (arith, b.rate);
}

-- ---- places

pub place_from : (ls : List Line) (t r : ℕ) → IsFrom 0 ls → r ≤ length ls → ((i : ℕ) → i < r → leb (line_of ls i).start t ≡ true) → ((i : ℕ) → r ≤ i → i < length ls → leb (line_of ls i).start t ≡ false) → (1 ≤ r) × IsPlace ls t (r - 1)
place_from ls t zero track bound before after = absurd (let late = leb-false (line_of ls 0).start t (after 0 (omega arith) track.some) in omega (arith, late, track.first))
place_from ls t (suc r) track bound before after = (
  omega arith,
  rw (less r) (record {
    inside = omega (arith, bound);
    started = leb-true (line_of ls r).start t (before r (omega arith));
    last = λ j h inside. leb-false (line_of ls j).start t (after j (omega (arith, h)) inside);
  }),
)
  where
    less : (r : ℕ) → suc r - 1 ≡ r
    less r = omega arith

pub stays_then : (ls : List Line) (tick place s : ℕ) → Rising ls → IsPlace ls tick place → place + 1 < length ls → tick ≤ s → s < (line_of ls (place + 1)).start → IsPlace ls s place
stays_then ls tick place s track p more h below = record {
  inside = p.inside;
  started = omega (arith, p.started, h);
  last = λ j after inside. ⊎_elim
      (λ (e : j ≡ place + 1). rw e below)
      (λ (n : j ≢ place + 1). let later = track (place + 1) j (omega (arith, after, n)) inside in omega (arith, later, below))
      (cases_eq j (place + 1));
}

pub stays_else : (ls : List Line) (tick place s : ℕ) → IsPlace ls tick place → length ls ≤ place + 1 → tick ≤ s → IsPlace ls s place
stays_else ls tick place s p past h = record { inside = p.inside; started = omega (arith, p.started, h); last = λ j after inside. absurd (omega (arith, after, inside, past)) }

pub next_then : (ls : List Line) (place s : ℕ) → Rising ls → place + 1 < length ls → s ≡ (line_of ls (place + 1)).start → IsPlace ls s (place + 1)
next_then ls place s track more e = record { inside = more; started = omega (arith, e); last = λ j after inside. let later = track (place + 1) j after inside in omega (arith, later, e) }
