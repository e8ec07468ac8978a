-- Products and quotients of powers of ten, up to the limit of a number.
use Rattle.std.proofs.Common.{◌≡◌, ℕ, zero, suc, ◌+◌, ◌*◌, ◌/◌, ◌^◌, ◌<◌, ◌≤◌, min, false, true, ℤ, pos, negsuc, refl, arith, inl, inr}
use Rattle.std.proofs.Math.Nat.{pow-le-pow_right}
use Rattle.std.proofs.lemmas.Bool.{cases_lt}
use Rattle.std.proofs.lemmas.Bool.Decides.{nat_tests}
use Rattle.std.proofs.lemmas.Nat.{mul-le, div_below}
use Rattle.std.specs.Prelude.{unsigned_abs}
use Rattle.spice_num.specs.Number.{rounded, nearest, number_limit}
use lib.Signed.{le_z}

pub ten_more : (i j : ℕ) → i ≤ j → 10 ^ i ≤ 10 ^ j
ten_more i j h = let some : 0 < 10 = omega arith in pow-le-pow_right some h

pub ten_pos : (k : ℕ) → 0 < 10 ^ k
ten_pos k = ten_more 0 k (omega arith)

-- 18 places up, every number but 0 is out of the limit
out_of_limit : (m k : ℕ) → 18 ≤ k → number_limit ≤ suc m * 10 ^ k
out_of_limit m k h = omega (arith, mul-le 1 (10 ^ 18) (suc m) (10 ^ k) (omega arith) (ten_more 18 k h))

-- so a power past 19 may be cut to 19
pub capped_up : (n k : ℕ) → min number_limit (n * 10 ^ min k 19) ≡ min number_limit (n * 10 ^ k)
capped_up zero k = omega arith
capped_up (suc m) k = elim (cases_lt 19 k) [
  | inl h ↦ omega (arith, out_of_limit m k (omega arith), out_of_limit m (min k 19) (omega arith))
  | inr h ↦ let same : min k 19 ≡ k = omega arith in rw same refl
]

-- 19 places down, every number below the limit rounds to 0
nearest_zero : (n k : ℕ) → n < number_limit → 19 ≤ k → nearest n (10 ^ k) ≡ 0
nearest_zero n k below h =
    let tens : 10 ^ 19 ≤ 10 ^ k = ten_more 19 k h in
    let less : (2 * n + 10 ^ k) / (2 * 10 ^ k) < 1 = div_below (2 * n + 10 ^ k) (2 * 10 ^ k) 1 (omega arith) (omega arith) in
    omega arith

pub capped_down : (n k : ℕ) → n < number_limit → nearest n (10 ^ min k 19) ≡ nearest n (10 ^ k)
capped_down n k below = elim (cases_lt 19 k) [
  | inl h ↦ omega (arith, nearest_zero n k below (omega arith), nearest_zero n (min k 19) below (omega arith))
  | inr h ↦ let same : min k 19 ≡ k = omega arith in rw same refl
]

nearest_whole : (n : ℕ) → nearest n 1 ≡ n
nearest_whole n = omega arith

pub rounded_up : (n : ℕ) (p : ℤ) → le_z (pos 0) p ≡ true → rounded n p ≡ n * 10 ^ unsigned_abs p
unfolding rounded
rounded_up n (pos k) h = nearest_whole (n * 10 ^ k)
rounded_up n (negsuc k) h = cc

pub rounded_down : (n : ℕ) (p : ℤ) → le_z (pos 0) p ≡ false → rounded n p ≡ nearest n (10 ^ unsigned_abs p)
unfolding rounded
rounded_down n (pos k) h = absurd (grind (arith, nat_tests))
rounded_down n (negsuc k) h = grind arith
