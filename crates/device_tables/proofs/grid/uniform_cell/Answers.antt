-- The count of thresholds is the rounded number of grains, moved by half and cut to the grid.
use Rattle.std.proofs.Common.{rules, ◌≡◌, ℕ, ◌+◌, ◌*◌, ◌/◌, ◌^◌, ◌≤◌, ℤ, pos, ◌+ℤ◌, ◌≤ℤ◌, unsigned_abs, FitsSigned, to_z, of_z, refl, sym, ap, ◌∙◌, arith}
use Rattle.std.specs.Int.{w128, int_div_euclid, int_max, int_min}
use Rattle.std.proofs.lemmas.Int.{ints, to_z-of_z, to_z_pos, fits_signed_from_abs}
use Rattle.std.proofs.Math.Nat.{mul-pos}
use borrow.Author.Differences.{abs_is, same_out}
use Rattle.device_tables.proofs.Counts.{grain_tested, from_natural, abs_positive, uniform_cell_is}
use Rattle.device_tables.proofs.grid.uniform_cell.Goals as goal

clamped : (q h k r : ℤ) (half : ℕ) → unsigned_abs q ≤ 10 ^ 38 + 10 ^ 30 → h ≡ pos half → k ≡ pos (2 * half) → half ≤ 4096 →
    r ≡ int_max (pos 0) (int_min (to_z w128 (of_z w128 (to_z w128 (of_z w128 q) +ℤ to_z w128 (of_z w128 h)))) (to_z w128 (of_z w128 k))) →
    pos 0 ≤ℤ r → pos (unsigned_abs r) ≡ int_max (pos 0) (int_min (q +ℤ pos half) (pos (2 * half)))
clamped q h k r half size h_is k_is small e low =
    sym (from_natural r low) ∙ e ∙ rw (h_is, k_is, to_z-of_z w128 q (fits_signed_from_abs w128 q (omega (arith, size))), to_z_pos w128 half (omega arith), to_z_pos w128 (2 * half) (omega arith), to_z-of_z w128 (q +ℤ pos half) (omega (arith, ints, abs_is q))) refl

pub overflow_add-grains : goal.overflow_add-grains
overflow_add-grains c = omega (arith, ints, c.rounded.ensures.size, abs_is c.rounded.result, same_out c.from.result (pos c.args.half) c.from.ensures)

pub returns : goal.returns
returns c =
    let g = grain_tested c.args.grain c.requires.grain in
    let m : ℕ = c.args.grain / 2 * unsigned_abs c.args.den in
    let fits : FitsSigned w128 c.clamp.result = search rules in
    let q_is : c.rounded.result ≡ int_div_euclid (c.args.num +ℤ pos m) (pos (2 * m)) = c.rounded.ensures.value ∙ rw (to_z-of_z w128 c.args.num c.ranges.num, to_z-of_z w128 c.args.den c.ranges.den) refl in
    ap unsigned_abs (to_z-of_z w128 c.clamp.result fits)
    ∙ sym (uniform_cell_is c.args.grain c.args.half (unsigned_abs c.args.den) c.args.num c.rounded.result (unsigned_abs c.clamp.result)
    (mul-pos (omega (arith, g.even, g.low)) (abs_positive c.args.den c.requires.positive)) q_is
    (clamped c.rounded.result c.from.result c.from-2.result c.clamp.result c.args.half c.rounded.ensures.size c.from.ensures c.from-2.ensures c.requires.half c.clamp.ensures.value c.clamp.ensures.lower_bound))
