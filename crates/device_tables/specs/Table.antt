-- What a table is: the thresholds of gate and drain, and the currents by gate cell and within it by drain cell.
use Rattle.std.specs.Prelude.{ℤ, nat_le, Bool, ◌&&◌, List, length}
use Rattle.std.specs.List.{list_all}
use Rattle.semantics.specs.Valid.{small_volts}

pub record TableValue : Type 0 where
  pub gate : List ℤ
  pub drain : List ℤ
  pub amps : List ℤ

-- at most 256 thresholds, each of at most 1,000 V in size
abbrev pub is_small_grid : List ℤ → Bool
is_small_grid thresholds = nat_le (length thresholds) 256 && list_all small_volts thresholds
