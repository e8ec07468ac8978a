-- A common divisor that is taken out of both sides of a fraction leaves its value.
use Rattle.std.proofs.Common.{◌≡◌, ◌≤◌, ◌<◌, ◌*◌, ◌/◌, ◌^◌, ℕ, zero, suc, arith}
use Rattle.std.specs.Int.{◌∣◌}
use Rattle.std.proofs.lemmas.Nat.{mul-le}
use Rattle.std.proofs.Math.Nat.{div-mul_cancel, div-le_self, mul-pos}
use Rattle.device_tables.proofs.ratio.Ratio.of.Goals as goal

factor_positive : (p g n : ℕ) → p * g ≡ n → 0 < n → 0 < g
factor_positive p zero n e n0 = omega (arith, e)
factor_positive p (suc g) n e n0 = omega arith

other_positive : (p g n : ℕ) → p * g ≡ n → 0 < n → 0 < p
other_positive zero g n e n0 = omega (arith, e)
other_positive (suc p) g n e n0 = omega arith

shuffle : (a b c t g s : ℕ) → a * b * (c * s * (t * g)) ≡ a * g * (b * s) * (t * c)
shuffle a b c t g s = omega arith

same_value : (kp width len t g s : ℕ) → g ∣ kp → g ∣ t → s ∣ width → s ∣ len → kp / g * (width / s) * (len * t) ≡ kp * width * (t / g * (len / s))
same_value kp width len t g s in_kp in_t in_width in_len =
    let whole = shuffle (kp / g) (width / s) (len / s) (t / g) g s in
    rw (div-mul_cancel g in_kp, div-mul_cancel g in_t, div-mul_cancel s in_width, div-mul_cancel s in_len) at whole

divides_positive : (g n : ℕ) → g ∣ n → 0 < n → 0 < g
divides_positive g n d n0 = factor_positive (n / g) g n (div-mul_cancel g d) n0

pub nonzero_div-kp : goal.nonzero_div-kp
nonzero_div-kp c = divides_positive _ 2000000000000 c.gcd-gain.ensures.1 (omega arith)

pub nonzero_div-width : goal.nonzero_div-width
nonzero_div-width c = divides_positive _ c.args.len c.gcd-side.ensures.1 (omega arith)

pub nonzero_div-gain : goal.nonzero_div-gain
nonzero_div-gain c = divides_positive _ 2000000000000 c.gcd-gain.ensures.1 (omega arith)

pub nonzero_div-len : goal.nonzero_div-len
nonzero_div-len c = divides_positive _ c.args.len c.gcd-side.ensures.1 (omega arith)

record Parts (kp width len g s : ℕ) : Type 0 where
  over : kp / g * (width / s) ≤ 10 ^ 20
  under : 2000000000000 / g * (len / s) ≤ 2 * 10 ^ 21
  positive : 1 ≤ 2000000000000 / g * (len / s)

parts : (kp width len g s : ℕ) → g ∣ 2000000000000 → s ∣ len → kp ≤ 10 ^ 11 → width ≤ 10 ^ 9 → 1 ≤ len → len ≤ 10 ^ 9 → Parts kp width len g s
parts kp width len g s in_t in_len kp_few width_few len0 len_few = record {
  over = mul-le (kp / g) (width / s) (10 ^ 11) (10 ^ 9) (omega (arith, div-le_self kp g)) (omega (arith, div-le_self width s));
  under = mul-le (2000000000000 / g) (len / s) 2000000000000 (10 ^ 9) (div-le_self 2000000000000 g) (omega (arith, div-le_self len s));
  positive = mul-pos (other_positive (2000000000000 / g) g 2000000000000 (div-mul_cancel g in_t) (omega arith)) (other_positive (len / s) s len (div-mul_cancel s in_len) (omega arith));
}

pub overflow_mul-result : goal.overflow_mul-result
overflow_mul-result c =
    let p = parts c.args.kp c.args.width c.args.len c.gcd-gain.result c.gcd-side.result c.gcd-gain.ensures.1 c.gcd-side.ensures.1 c.requires.kp c.requires.width c.requires.positive c.requires.len in
    rw (c.from.ensures, c.from-2.ensures) (omega (arith, p.over))

pub overflow_mul-result-2 : goal.overflow_mul-result-2
overflow_mul-result-2 c =
    let p = parts c.args.kp c.args.width c.args.len c.gcd-gain.result c.gcd-side.result c.gcd-gain.ensures.1 c.gcd-side.ensures.1 c.requires.kp c.requires.width c.requires.positive c.requires.len in
    rw (c.from-3.ensures, c.from-4.ensures) (omega (arith, p.under))

pub returns : goal.returns
returns c =
    let p = parts c.args.kp c.args.width c.args.len c.gcd-gain.result c.gcd-side.result c.gcd-gain.ensures.1 c.gcd-side.ensures.1 c.requires.kp c.requires.width c.requires.positive c.requires.len in
    rw (c.from.ensures, c.from-2.ensures, c.from-3.ensures, c.from-4.ensures) (record {
      same = same_value c.args.kp c.args.width c.args.len 2000000000000 c.gcd-gain.result c.gcd-side.result c.gcd-gain.ensures.0 c.gcd-gain.ensures.1 c.gcd-side.ensures.0 c.gcd-side.ensures.1;
      small = p.over;
      positive = p.positive;
    })
