-- The difference of two straight lines is one, and small where they are in bounds.
use Rattle.std.proofs.Common.{◌≡◌, ℕ, suc, ◌+◌, ◌-◌, ◌*◌, ◌^◌, ◌≤◌, ℤ, pos, negsuc, ◌+ℤ◌, ◌-ℤ◌, ◌*ℤ◌, unsigned_abs, le_refl, refl, sym, ap, ◌∙◌, arith}
use Rattle.std.proofs.lemmas.Int.{ints, unsigned_abs-mul}
use Rattle.std.proofs.lemmas.Nat.{mul-le}
use Rattle.std.proofs.Math.Nat.{mul-pos}
use Rattle.std.specs.Prelude.{neg_ℤ}
use borrow.Author.Differences.{product_is, sum_is_lem, abs_is}
use Rattle.semantics.specs.declared.line.Line.{Line}
use Rattle.semantics.specs.Grid.{difference}
use Rattle.node_ramps.specs.Lines.{num_at, voltage, InBounds}
use Rattle.node_ramps.proofs.Sums.{same_line}
use Rattle.semantics.proofs.Products.{times_difference, other_order}
use Rattle.crossing.specs.Gaps.{slope, after, IsSmall}

-- ---- sums times a number

pub times_sum : (x y : ℤ) (n : ℕ) → (x +ℤ y) *ℤ pos n ≡ (x *ℤ pos n) +ℤ (y *ℤ pos n)
times_sum x y n = omega (arith, ints, product_is (x +ℤ y) (pos n), product_is x (pos n), product_is y (pos n), ap (λ m. m * n) (sum_is_lem x y))

sums_moved : (x y p q : ℤ) (a b k : ℕ) → ((x +ℤ (p *ℤ pos k)) *ℤ pos b) -ℤ ((y +ℤ (q *ℤ pos k)) *ℤ pos a) ≡ ((x *ℤ pos b) -ℤ (y *ℤ pos a)) +ℤ (((p *ℤ pos b) -ℤ (q *ℤ pos a)) *ℤ pos k)
sums_moved x y p q a b k =
    rw (times_sum x (p *ℤ pos k) b, times_sum y (q *ℤ pos k) a, times_difference (p *ℤ pos b) (q *ℤ pos a) k, other_order p k b, other_order q k a)
    (four (x *ℤ pos b) (y *ℤ pos a) ((p *ℤ pos b) *ℤ pos k) ((q *ℤ pos a) *ℤ pos k))
  where
    four : (s t u v : ℤ) → (s +ℤ u) -ℤ (t +ℤ v) ≡ (s -ℤ t) +ℤ (u -ℤ v)
    four s t u v = omega (arith, ints)

-- ---- a line some ticks later

-- the numerator gains the rate with each tick
moved : (l : Line) (now k : ℕ) → l.start ≤ now → num_at l (now + k) ≡ num_at l now +ℤ (l.rate *ℤ pos k)
moved l now k h =
    let e : (now + k) - now ≡ k = omega arith in
    sym (same_line l now (now + k) l.rate refl h (omega arith)) ∙ ap (λ n. num_at l now +ℤ (l.rate *ℤ pos n)) e

-- the numerator of the difference moves by that of the slopes
pub difference_moves : (a b : Line) (now k : ℕ) → a.start ≤ now → b.start ≤ now →
    (difference (voltage a (now + k)) (voltage b (now + k))).num ≡ (difference (voltage a now) (voltage b now)).num +ℤ ((difference (slope a) (slope b)).num *ℤ pos k)
difference_moves a b now k h j =
    rw (moved a now k h, moved b now k j) (sums_moved (num_at a now) (num_at b now) a.rate b.rate a.den b.den k)

-- ---- sizes

-- a difference is at most twice a product in size
pub difference_size : (x y : ℤ) (a b m n : ℕ) → unsigned_abs x ≤ m → unsigned_abs y ≤ m → a ≤ n → b ≤ n → unsigned_abs ((x *ℤ pos b) -ℤ (y *ℤ pos a)) ≤ 2 * (m * n)
difference_size x y a b m n xm ym an bn =
    let first : unsigned_abs (x *ℤ pos b) ≤ m * n = rw (unsigned_abs-mul x (pos b)) (mul-le (unsigned_abs x) b m n xm bn) in
    let second : unsigned_abs (y *ℤ pos a) ≤ m * n = rw (unsigned_abs-mul y (pos a)) (mul-le (unsigned_abs y) a m n ym an) in
    apart (x *ℤ pos b) (y *ℤ pos a) (m * n) first second
  where
    apart : (s t : ℤ) (w : ℕ) → unsigned_abs s ≤ w → unsigned_abs t ≤ w → unsigned_abs (s -ℤ t) ≤ 2 * w
    apart s t w f g = omega (arith, ints, abs_is s, abs_is t, abs_is (s -ℤ t))

-- a line is small between two ticks at which it is small
between : (z r : ℤ) (i j m : ℕ) → i ≤ j → unsigned_abs z ≤ m → unsigned_abs (z +ℤ (r *ℤ pos j)) ≤ m → unsigned_abs (z +ℤ (r *ℤ pos i)) ≤ m
between z (pos r) i j m h first last =
    omega (arith, ints, abs_is z, abs_is (z +ℤ pos (r * i)), abs_is (z +ℤ pos (r * j)), mul-le r i r j (le_refl r) h)
between z (negsuc r) i j m h first last =
    omega (arith, ints, abs_is z, abs_is (z +ℤ neg_ℤ (pos (suc r * i))), abs_is (z +ℤ neg_ℤ (pos (suc r * j))), mul-le (suc r) i (suc r) j (le_refl (suc r)) h)

-- a line that is in bounds up to a tick is so up to an earlier one
pub in_bounds_before : (l : Line) (now end : ℕ) → l.start ≤ now → now ≤ end → InBounds l end → InBounds l now
in_bounds_before l now end h j b = record {
  started = h;
  den_from = b.den_from;
  den_to = b.den_to;
  num_first = b.num_first;
  num_last = between l.num l.rate (now - l.start) (end - l.start) (101 * 10 ^ 23) (omega arith) b.num_first b.num_last;
  rate = b.rate;
}

-- ---- a gap

-- the fields of the gap of two lines
pub record IsGap (a b : Line) (now : ℕ) (num rate den : ℤ) : Type 0 where
  pub num_is : num ≡ (difference (voltage a now) (voltage b now)).num
  pub rate_is : rate ≡ (difference (slope a) (slope b)).num
  pub den_is : den ≡ pos (a.den * b.den)

-- after some ticks it is the difference of the lines then
pub gap_moves : (a b : Line) (now : ℕ) (num rate den : ℤ) → IsGap a b now num rate den → a.start ≤ now → b.start ≤ now → (k : ℕ) →
    after (record { num = num; rate = rate; den = den }) k ≡ difference (voltage a (now + k)) (voltage b (now + k))
gap_moves a b now num rate den g h j k =
    let num_is = g.num_is in
    let rate_is = g.rate_is in
    let den_is = g.den_is in
    rw (num_is, rate_is, den_is) (ap (λ z. record { num = z; den = a.den * b.den }) (sym (difference_moves a b now k h j)))

-- and it is small where they are in bounds
pub gap_small : (a b : Line) (now : ℕ) (num rate den : ℤ) → IsGap a b now num rate den → InBounds a now → InBounds b now → IsSmall (record { num = num; rate = rate; den = den })
gap_small a b now num rate den g x y = record {
  num = rw g.num_is (difference_size (num_at a now) (num_at b now) a.den b.den (101 * 10 ^ 23) (10 ^ 12) x.num_last y.num_last x.den_to y.den_to);
  rate = rw g.rate_is (difference_size a.rate b.rate a.den b.den (10 ^ 18) (10 ^ 12) x.rate y.rate x.den_to y.den_to);
  den_from = let one : 1 ≤ a.den * b.den = mul-pos x.den_from y.den_from in rw g.den_is (omega (arith, ints, one));
  den_to = rw g.den_is (omega (arith, ints, mul-le a.den b.den (10 ^ 12) (10 ^ 12) x.den_to y.den_to));
}
