-- The two ends of a cell, and the voltages between them.
use Rattle.std.specs.Prelude.{ℕ, zero, suc, ℤ, pos, ◌*ℤ◌, ◌≤ℤ◌, ◌<ℤ◌, List, Option, None, IfSome}
use Rattle.std.specs.List.{slice_get}
use Rattle.semantics.specs.declared.fraction.Fraction.{Fraction}

-- the threshold at the lower end; the first cell has none
abbrev pub threshold_below : List ℤ → ℕ → Option ℤ
threshold_below thresholds zero = None
threshold_below thresholds (suc c) = slice_get thresholds c

-- the threshold at the upper end; the last cell has none
abbrev pub threshold_above : List ℤ → ℕ → Option ℤ
threshold_above thresholds c = slice_get thresholds c

-- the voltage is at or above the lower end of the cell and under its upper end
pub record LiesIn (thresholds : List ℤ) (c : ℕ) (v : Fraction) : Type 0 where
  pub above : IfSome (threshold_below thresholds c) (λ θ. (θ *ℤ pos v.den) ≤ℤ v.num)
  pub under : IfSome (threshold_above thresholds c) (λ θ. v.num <ℤ (θ *ℤ pos v.den))
