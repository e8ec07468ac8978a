-- Why a list of thresholds is no grid, and a list of currents no table.
use Rattle.std.specs.Prelude.{◌+◌, ◌*◌, ◌^◌, ◌==◌, nat_lt, nat_le, ℤ, int_le, unsigned_abs, not, if◌then◌else◌, List, length, drop, position, Option, Some, None}
use Rattle.std.specs.List.{zip}
use Rattle.std.specs.Option.{option_or, option_map}
use Rattle.semantics.specs.Valid.{small_volts}
use Rattle.device_tables.specs.declared.refusal.TableRefusal.{TableRefusal}
use Rattle.device_tables.specs.declared.refusal.TableRefusal.TheVariants.{TooManyThresholds, ThresholdTooLarge, NotRising, WrongCount, CurrentTooLarge}

-- ---- thresholds

-- more than 256, with their count
unfoldable pub too_many : List ℤ → Option TableRefusal
too_many thresholds = if nat_lt 256 (length thresholds) then Some (TooManyThresholds (length thresholds)) else None

-- the first threshold that is over 1,000 V in size
unfoldable pub too_large : List ℤ → Option TableRefusal
too_large thresholds = option_map ThresholdTooLarge (position (λ volts. not (small_volts volts)) thresholds)

-- the first threshold that is not above the one before it
unfoldable pub not_rising : List ℤ → Option TableRefusal
not_rising thresholds = option_map (λ before. NotRising (before + 1)) (position (λ pair. int_le pair.1 pair.0) (zip thresholds (drop 1 thresholds)))

-- the first of these causes, in this order
unfoldable pub grid_refusal : List ℤ → Option TableRefusal
grid_refusal thresholds = option_or (option_or (too_many thresholds) (too_large thresholds)) (not_rising thresholds)

-- ---- currents

-- not one current for each pair of a gate cell and a drain cell
unfoldable pub wrong_count : List ℤ → List ℤ → List ℤ → Option TableRefusal
wrong_count gate drain amps =
    let needed = (length gate + 1) * (length drain + 1) in
    if length amps == needed then None else Some (WrongCount needed (length amps))

-- the first current that is over 1 A in size
unfoldable pub large_current : List ℤ → Option TableRefusal
large_current amps = option_map CurrentTooLarge (position (λ z. not (nat_le (unsigned_abs z) (10 ^ 12))) amps)

-- the first of these causes, in this order
unfoldable pub table_refusal : List ℤ → List ℤ → List ℤ → Option TableRefusal
table_refusal gate drain amps = option_or (wrong_count gate drain amps) (large_current amps)
