-- The three fields are the numerators at the tick and of the slopes, and the product of the denominators.
use Rattle.std.proofs.Common.{rules, ◌≡◌, ℤ, FitsSigned, to_z, of_z, ◌∙◌, ◌*ℤ◌, pos, ap, arith}
use Rattle.std.specs.Int.{w128}
use Rattle.std.proofs.lemmas.Int.{to_z-of_z}
use Rattle.semantics.specs.declared.fraction.Fraction.{Fraction}
use Rattle.semantics.specs.Grid.{difference}
use Rattle.crossing.proofs.Casts.{product_kept}
use Rattle.crossing.proofs.Straight.{IsGap, gap_moves, gap_small}
use Rattle.crossing.proofs.gap.Gap.at.Goals as goal

numerator_kept : (z : ℤ) (x y v w : Fraction) → FitsSigned w128 z → z ≡ (difference x y).num → x ≡ v → y ≡ w → to_z w128 (of_z w128 z) ≡ (difference v w).num
numerator_kept z x y v w fits e first second = rw (to_z-of_z w128 z fits, ← first, ← second) e

gap_of : (c : goal.After-from-2) → IsGap c.args.a.now c.args.b.now c.args.now (to_z w128 (of_z w128 c.minus.result)) (to_z w128 (of_z w128 c.minus-2.result)) (to_z w128 (of_z w128 (to_z w128 (of_z w128 c.from.result) *ℤ to_z w128 (of_z w128 c.from-2.result))))
gap_of c = record {
  num_is = numerator_kept c.minus.result _ _ _ _ (search rules) c.minus.ensures c.voltage.ensures c.voltage-2.ensures;
  rate_is = numerator_kept c.minus-2.result _ _ _ _ (search rules) c.minus-2.ensures c.slope.ensures c.slope-2.ensures;
  den_is = product_kept c.from.result c.from-2.result c.args.b.now.den (rw c.from.ensures (omega (arith, c.requires.a.den_to))) c.requires.b.den_to c.from-2.ensures ∙ ap (λ z. z *ℤ pos c.args.b.now.den) c.from.ensures;
}

pub returns-clause-small : goal.returns-clause-small
returns-clause-small c = gap_small c.args.a.now c.args.b.now c.args.now _ _ _ (gap_of c) c.requires.a c.requires.b

pub returns-clause-line : goal.returns-clause-line
returns-clause-line c = gap_moves c.args.a.now c.args.b.now c.args.now _ _ _ (gap_of c) c.requires.a.started c.requires.b.started
