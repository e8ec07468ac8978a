-- The difference of two small voltages fits 128 bits.
use Rattle.std.proofs.Common.{◌≡◌, ℕ, ◌*◌, ◌^◌, ◌<◌, ◌≤◌, arith, refl, lit<, ℤ, pos, ◌-ℤ◌, ◌*ℤ◌}
use Rattle.std.proofs.Common.{to_z, of_z, FitsSigned}
use mir.Syntax.{w128}
use Rattle.std.specs.Prelude.{unsigned_abs}
use Rattle.std.proofs.lemmas.Int.{ints, unsigned_abs-mul, fits_signed_from_abs, to_z-of_z}
use Rattle.std.proofs.lemmas.Nat.{mul-le}
use Rattle.semantics.specs.declared.fraction.Fraction.{Fraction}
use Rattle.semantics.specs.Grid.{difference}
use Rattle.circuit_model.specs.Small.{IsSmall}

-- a numerator times a denominator
pub product_small : (z : ℤ) (n : ℕ) → unsigned_abs z ≤ 2 * 10 ^ 25 → n ≤ 10 ^ 12 → unsigned_abs (z *ℤ pos n) ≤ 2 * 10 ^ 37
product_small z n h k = rw (unsigned_abs-mul z (pos n)) (omega (arith, mul-le (unsigned_abs z) n (2 * 10 ^ 25) (10 ^ 12) h k))

pub minus_small : (x y : ℤ) → unsigned_abs x ≤ 2 * 10 ^ 37 → unsigned_abs y ≤ 2 * 10 ^ 37 → unsigned_abs (x -ℤ y) ≤ 4 * 10 ^ 37
minus_small x y h k = omega (arith, ints, h, k)

pub difference_small : (a b : Fraction) → IsSmall a → IsSmall b → unsigned_abs (difference a b).num ≤ 4 * 10 ^ 37
difference_small a b x y = minus_small (a.num *ℤ pos b.den) (b.num *ℤ pos a.den) (product_small a.num b.den x.num y.den_high) (product_small b.num a.den y.num x.den_high)

pub fits_small : (z : ℤ) (n : ℕ) → unsigned_abs z ≤ n → n < 2 ^ 127 → FitsSigned w128 z
fits_small z n h k = fits_signed_from_abs w128 z (omega (arith, h, k))

-- the code's product of a numerator and a denominator
pub product_is : (z x : ℤ) (n : ℕ) → unsigned_abs z ≤ 2 * 10 ^ 25 → n ≤ 10 ^ 12 → x ≡ pos n → to_z w128 (of_z w128 z) *ℤ to_z w128 (of_z w128 x) ≡ z *ℤ pos n
product_is z x n h k e =
    rw (to_z-of_z w128 z (fits_small z (2 * 10 ^ 25) h (lit< tt)), e, to_z-of_z w128 (pos n) (fits_small (pos n) (10 ^ 12) k (lit< tt))) refl

pub product_fits : (z x : ℤ) (n : ℕ) → unsigned_abs z ≤ 2 * 10 ^ 25 → n ≤ 10 ^ 12 → x ≡ pos n → FitsSigned w128 (to_z w128 (of_z w128 z) *ℤ to_z w128 (of_z w128 x))
product_fits z x n h k e = rw (product_is z x n h k e) (fits_small (z *ℤ pos n) (2 * 10 ^ 37) (product_small z n h k) (lit< tt))

-- that product, kept
pub product_kept : (z x : ℤ) (n : ℕ) → unsigned_abs z ≤ 2 * 10 ^ 25 → n ≤ 10 ^ 12 → x ≡ pos n → to_z w128 (of_z w128 (to_z w128 (of_z w128 z) *ℤ to_z w128 (of_z w128 x))) ≡ z *ℤ pos n
product_kept z x n h k e = rw (product_is z x n h k e) (to_z-of_z w128 (z *ℤ pos n) (fits_small (z *ℤ pos n) (2 * 10 ^ 37) (product_small z n h k) (lit< tt)))
