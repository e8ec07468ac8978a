-- The voltage of the cell's middle fits 64 bits, and so does each step after it.
use Rattle.std.proofs.Common.{rules, ◌≡◌, ◌≤◌, ℕ, ◌*◌, w64, ℤ, pos, negsuc, ◌-ℤ◌, ◌*ℤ◌, ◌≤ℤ◌, int_div, FitsSigned, to_z, of_z, ap, ◌∙◌, arith}
use Rattle.std.specs.Int.{int_max, int_min}
use Rattle.std.proofs.lemmas.Int.{ints, to_z-of_z, to_z_pos, quot_is, quot_fits, fits_signed_mul}
use borrow.Author.Differences.{abs_is}
use Rattle.semantics.specs.Device.{resistor_current}
use Rattle.device_tables.proofs.Counts.{grain_tested}
use Rattle.device_tables.proofs.ohmic.resistor.Goals as goal

-- what the code divides is the voltage of the cell's middle
quotient : (cell grain ohms : ℤ) (c g : ℕ) → cell ≡ pos c → grain ≡ pos g → c ≤ 8192 → g ≤ 1000000 → pos 1 ≤ℤ ohms → FitsSigned w64 ohms →
    to_z w64 (of_z w64 (int_div (to_z w64 (of_z w64 (to_z w64 (of_z w64 (to_z w64 (of_z w64 cell) -ℤ pos 4096)) *ℤ to_z w64 (of_z w64 (to_z w64 (of_z w64 grain) *ℤ pos 1000000000))))) (to_z w64 (of_z w64 ohms)))) ≡ int_div ((pos c -ℤ pos 4096) *ℤ pos (g * 1000000000)) ohms
quotient cell grain ohms c g cell_is grain_is low small positive fits =
    let k : ℤ = pos c -ℤ pos 4096 in
    let fits_k : FitsSigned w64 k = omega (arith, ints) in
    let product_fits : FitsSigned w64 (k *ℤ pos (g * 1000000000)) = fits_signed_mul w64 k (pos (g * 1000000000)) 4096 1000000000000000 (omega (arith, ints, abs_is k)) (omega arith) (omega arith) in
    rw (cell_is, grain_is, to_z_pos w64 c (omega arith), to_z_pos w64 g (omega arith), to_z-of_z w64 k fits_k, to_z_pos w64 (g * 1000000000) (omega arith))
    (quot_is w64 (k *ℤ pos (g * 1000000000)) ohms product_fits fits (quot_fits w64 (k *ℤ pos (g * 1000000000)) ohms product_fits (omega (arith, ints))))

pub returns : goal.returns
unfolding resistor_current
returns c =
    let q = quotient c.from.result c.from-2.result c.args.ohms c.args.cell c.args.grain c.from.ensures c.from-2.ensures c.requires.cell (grain_tested c.args.grain c.requires.grain).high (search rules) c.ranges.ohms in
    let fits_max : FitsSigned w64 c.max.result = search rules in
    let fits_min : FitsSigned w64 c.min.result = search rules in
    to_z-of_z w64 c.max.result fits_max ∙ c.max.ensures.value ∙ ap (λ z. int_max z (negsuc 999999999999)) (to_z-of_z w64 c.min.result fits_min ∙ c.min.ensures.value ∙ ap (λ z. int_min z (pos 1000000000000)) q)
