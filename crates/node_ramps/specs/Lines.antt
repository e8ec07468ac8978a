-- A line at a tick from its start on, and how far its numbers may reach.
use Rattle.std.specs.Prelude.{ℕ, ◌-◌, ◌*◌, ◌^◌, ◌≤◌, ℤ, pos, ◌+ℤ◌, ◌*ℤ◌, unsigned_abs}
use Rattle.semantics.specs.declared.fraction.Fraction.{Fraction}
use Rattle.semantics.specs.declared.line.Line.{Line}

-- the numerator of a line at a tick: each tick adds its rate
abbrev pub num_at : Line → ℕ → ℤ
num_at l tick = l.num +ℤ (l.rate *ℤ pos (tick - l.start))

-- its voltage at a tick
abbrev pub voltage : Line → ℕ → Fraction
voltage l tick = record { num = num_at l tick; den = l.den }

-- another line, which begins at this tick where the line is then, and goes on at this rate
abbrev pub turned : Line → ℕ → ℤ → Line
turned l tick rate = record { start = tick; num = num_at l tick; rate = rate; den = l.den }

-- a line begins at or before the tick, and from its start to the tick its numbers are small
pub record InBounds (l : Line) (tick : ℕ) : Type 0 where
  pub started : l.start ≤ tick
  pub den_from : 1 ≤ l.den
  pub den_to : l.den ≤ 10 ^ 12
  pub num_first : unsigned_abs l.num ≤ 101 * 10 ^ 23
  pub num_last : unsigned_abs (num_at l tick) ≤ 101 * 10 ^ 23
  pub rate : unsigned_abs l.rate ≤ 10 ^ 18
