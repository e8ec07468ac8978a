-- The binary search finds how many thresholds are at most the floor, and these are those at most the voltage.
use Rattle.std.proofs.Common.{rules, ◌≡◌, pos, ◌≤ℤ◌, unsigned_abs, ℤ, FitsSigned, int_le, get_or, sym, ap, ◌∙◌, arith}
use Rattle.std.specs.Int.{w128, int_div_euclid}
use Rattle.device_tables.proofs.Counts.{front_of_rising, from_natural, abs_positive, grid_tested, listed_cell_is}
use Rattle.std.proofs.lemmas.List.Sorted.{IsPartitionPoint-from_clause}
use Rattle.std.proofs.lemmas.Int.{ints, to_z-of_z}
use Rattle.device_tables.proofs.grid.listed_cell.Goals as goal

pub returns : goal.returns
returns c =
    let g = grid_tested c.args.thresholds.now c.requires.grid in
    let d : pos 0 ≤ℤ c.args.den = omega (arith, ints) in
    let den_is = from_natural c.args.den d in
    let w : ℤ = c.floor-whole.result in
    let w_is : w ≡ int_div_euclid c.args.num (pos (unsigned_abs c.args.den)) =
    c.floor-whole.ensures ∙ rw (to_z-of_z w128 c.args.num c.ranges.num, to_z-of_z w128 c.args.den c.ranges.den) (ap (int_div_euclid c.args.num) den_is) in
    let fits : FitsSigned w128 w = search rules in
    let point = IsPartitionPoint-from_clause (λ θ. int_le θ w) _ _ c.partition_point.ensures.partitioned (front_of_rising c.args.thresholds.now w g.rises) (λ a r q k. (grind (arith, ints, to_z-of_z), search rules)) in
    listed_cell_is c.args.thresholds.now c.args.num (unsigned_abs c.args.den) c.partition_point.result (abs_positive c.args.den c.requires.positive) c.partition_point.ensures.bound
    (λ i e h. ap (int_le (get_or c.args.thresholds.now i e)) (sym w_is) ∙ point.0 i e (omega arith) h)
    (λ i e h l. ap (int_le (get_or c.args.thresholds.now i e)) (sym w_is) ∙ point.1 i e h l)

pub overflow_cast-result : goal.overflow_cast-result
overflow_cast-result c = let g = grid_tested c.args.thresholds.now c.requires.grid in omega (arith, g.few, c.partition_point.ensures.bound)
