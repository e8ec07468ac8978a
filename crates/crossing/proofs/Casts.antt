-- Products in 128 bits.
use Rattle.std.proofs.Common.{◌≡◌, ℕ, ◌*◌, ◌^◌, ◌≤◌, ℤ, pos, ◌*ℤ◌, unsigned_abs, to_z, of_z, refl, arith}
use Rattle.std.specs.Int.{w128}
use Rattle.std.proofs.lemmas.Int.{to_z-of_z, to_z_pos, fits_signed_from_abs, unsigned_abs-mul}
use Rattle.std.proofs.lemmas.Nat.{mul-le}

-- a numerator times a denominator
pub product_kept : (z x : ℤ) (n : ℕ) → unsigned_abs z ≤ 101 * 10 ^ 23 → n ≤ 10 ^ 12 → x ≡ pos n → to_z w128 (of_z w128 (to_z w128 (of_z w128 z) *ℤ to_z w128 (of_z w128 x))) ≡ z *ℤ pos n
product_kept z x n h k x_is =
    let size : unsigned_abs (z *ℤ pos n) ≤ 101 * 10 ^ 23 * 10 ^ 12 = rw (unsigned_abs-mul z (pos n)) (mul-le (unsigned_abs z) n (101 * 10 ^ 23) (10 ^ 12) h k) in
    rw (x_is, to_z-of_z w128 z (fits_signed_from_abs w128 z (omega (arith, h))), to_z_pos w128 n (omega (arith, k)), to_z-of_z w128 (z *ℤ pos n) (fits_signed_from_abs w128 (z *ℤ pos n) (omega (arith, size)))) refl
