-- Voltages whose products fit 128 bits.
use Rattle.std.specs.Prelude.{◌*◌, ◌^◌, ◌≤◌, unsigned_abs}
use Rattle.semantics.specs.declared.fraction.Fraction.{Fraction}

pub record IsSmall (v : Fraction) : Type 0 where
  pub num : unsigned_abs v.num ≤ 2 * 10 ^ 25
  pub den_low : 1 ≤ v.den
  pub den_high : v.den ≤ 10 ^ 12
