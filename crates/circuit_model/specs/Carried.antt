-- The voltage that a wave has at a tick.
use Rattle.std.specs.Prelude.{◌≡◌, ℕ, nat_le, if◌then◌else◌, pos, List, [], ◌∷◌, Option, Some, None, MatchOption}
use Rattle.std.specs.Option.{option_or}
use Rattle.semantics.specs.declared.fraction.Fraction.{Fraction}
use Rattle.semantics.specs.declared.line.Line.{Line}
use Rattle.semantics.specs.Grid.{difference}
use Rattle.node_ramps.specs.Lines.{voltage}

-- the voltage of the last of these lines that begins at the tick or before; None where none has begun
unfoldable pub voltage_at : List Line → ℕ → Option Fraction
voltage_at [] t = None
voltage_at (l ∷ lines) t = option_or (voltage_at lines t) (if nat_le l.start t then Some (voltage l t) else None)

-- at the tick the lines have this voltage: it and theirs differ by 0
abbrev pub HasVoltage : List Line → ℕ → Fraction → Type 0
HasVoltage lines t v = MatchOption (voltage_at lines t) ⊥ (λ w. (difference w v).num ≡ pos 0)
