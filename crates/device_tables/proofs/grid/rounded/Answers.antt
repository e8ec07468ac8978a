-- Each step of the division fits 128 bits, and the quotient is no larger in size than what is divided.
use Rattle.std.proofs.Common.{rules, ◌≡◌, ℕ, ◌+◌, ◌*◌, ◌/◌, ◌^◌, ◌≤◌, ℤ, pos, negsuc, ◌+ℤ◌, ◌*ℤ◌, ◌≤ℤ◌, unsigned_abs, FitsSigned, to_z, of_z, refl, ap, ◌∙◌, arith}
use Rattle.std.specs.Int.{w128, int_div_euclid}
use Rattle.std.proofs.lemmas.Int.{ints, to_z-of_z, to_z_pos, fits_signed_from_abs}
use Rattle.std.proofs.lemmas.Nat.{mul-le}
use Rattle.std.proofs.Math.Nat.{mul_assoc, div-le_self}
use borrow.Author.Differences.{abs_is}
use Rattle.device_tables.proofs.Counts.{IsGrain, grain_tested, from_natural}
use Rattle.device_tables.proofs.grid.rounded.Goals as goal

floor_size : (z : ℤ) (n : ℕ) → unsigned_abs (int_div_euclid z (pos n)) ≤ unsigned_abs z
floor_size (pos a) n = div-le_self a n
floor_size (negsuc a) n = omega (arith, div-le_self a n)

record IsRounded (num q : ℤ) (m : ℕ) : Type 0 where
  value : q ≡ int_div_euclid (num +ℤ pos m) (pos (2 * m))
  size : unsigned_abs q ≤ 10 ^ 38 + 10 ^ 30

steps : (num den x y q : ℤ) (d grain : ℕ) → den ≡ pos d → x ≡ pos (grain / 2) → y ≡ pos grain → IsGrain grain → d ≤ 10 ^ 24 → unsigned_abs num ≤ 10 ^ 38 →
    q ≡ int_div_euclid (to_z w128 (of_z w128 (to_z w128 (of_z w128 num) +ℤ to_z w128 (of_z w128 (to_z w128 (of_z w128 x) *ℤ to_z w128 (of_z w128 den)))))) (to_z w128 (of_z w128 (to_z w128 (of_z w128 y) *ℤ to_z w128 (of_z w128 den)))) →
    IsRounded num q (grain / 2 * d)
steps num den x y q d grain den_is x_is y_is g d_small num_small e =
    let m_small : grain / 2 * d ≤ 500000 * 10 ^ 24 = mul-le (grain / 2) d 500000 (10 ^ 24) (omega (arith, g.even, g.high)) d_small in
    let twice : grain * d ≡ 2 * (grain / 2 * d) = ap (λ n. n * d) g.even ∙ mul_assoc 2 (grain / 2) d in
    let num_fits : FitsSigned w128 num = fits_signed_from_abs w128 num (omega arith) in
    let sum_fits : FitsSigned w128 (num +ℤ pos (grain / 2 * d)) = omega (arith, ints, abs_is num, num_small, m_small) in
    let value : q ≡ int_div_euclid (num +ℤ pos (grain / 2 * d)) (pos (2 * (grain / 2 * d))) =
    e ∙ rw (den_is, x_is, y_is, to_z-of_z w128 num num_fits, to_z_pos w128 d (omega arith), to_z_pos w128 grain (omega (arith, g.high)), to_z_pos w128 (grain / 2) (omega (arith, g.even, g.high)), to_z_pos w128 (grain / 2 * d) (omega (arith, m_small)), to_z_pos w128 (grain * d) (omega (arith, m_small, twice)), to_z-of_z w128 (num +ℤ pos (grain / 2 * d)) sum_fits, twice) refl in
    record { value = value; size = rw value (omega (arith, ints, floor_size (num +ℤ pos (grain / 2 * d)) (2 * (grain / 2 * d)), abs_is (num +ℤ pos (grain / 2 * d)), abs_is num, num_small, m_small)) }

pub returns : goal.returns
returns c =
    let natural : pos 0 ≤ℤ c.args.den = omega (arith, ints) in
    let s = steps c.args.num c.args.den c.from.result c.from-2.result c.floor.result (unsigned_abs c.args.den) c.args.grain (from_natural c.args.den natural) c.from.ensures c.from-2.ensures (grain_tested c.args.grain c.requires.grain) (omega (arith, ints, abs_is c.args.den)) c.requires.num c.floor.ensures in
    let fits : FitsSigned w128 c.floor.result = search rules in
    let same = to_z-of_z w128 c.floor.result fits in
    record { value = same ∙ s.value; size = rw same s.size }
