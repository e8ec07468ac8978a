-- What the pairs of one node, one for each tick up to the stop, say of the lines through them.
use Rattle.std.specs.Prelude.{◌≡◌, ◌≢◌, ℕ, zero, suc, ◌+◌, ◌^◌, ◌<◌, ◌≤◌, nat_le, nat_lt, max, ◌&&◌, ◌==◌, not, Bool, true, if◌then◌else◌, ℤ, pos, ◌-ℤ◌, unsigned_abs, List, [], ◌∷◌, ◌++◌}
use Rattle.semantics.specs.declared.fraction.Fraction.{Fraction}
use Rattle.semantics.specs.declared.line.Line.{Line}
use Rattle.semantics.specs.Wave.{goes_on}
use Rattle.node_ramps.specs.Lines.{voltage}
use Rattle.histories.specs.Track.{IsBounded}

-- what leads from a pair to the next along a line in its limits; 0 where none does
abbrev pub step_between : Fraction → Fraction → ℤ
step_between a b = if (a.den == b.den) && nat_le (unsigned_abs (b.num -ℤ a.num)) (10 ^ 15) then b.num -ℤ a.num else pos 0

-- what the numerator gains from a tick to the next; at the stop 0
unfoldable pub rate_at : (ℕ → Fraction) → ℕ → ℕ → ℤ
rate_at p stop t = if nat_lt t stop then step_between (p t) (p (t + 1)) else pos 0

-- the line from a tick on: it has the pair there, and that of the next tick where a line in its limits has both
unfoldable pub line_at : (ℕ → Fraction) → ℕ → ℕ → Line
line_at p stop t = record { start = t; num = (p t).num; rate = rate_at p stop t; den = (p t).den }

-- u is the last tick up to the stop to which the line has the pairs
pub record IsEnd (p : ℕ → Fraction) (stop : ℕ) (l : Line) (u : ℕ) : Type 0 where
  pub from_start : l.start ≤ u
  pub by_stop : u ≤ stop
  pub has : (s : ℕ) → l.start ≤ s → s ≤ u → p s ≡ voltage l s
  pub greatest : u < stop → p (u + 1) ≢ voltage l (u + 1)

-- some line in its limits has the pairs of this tick and of the next
abbrev pub IsJoined : (ℕ → Fraction) → ℕ → Type 0
IsJoined p t = (l : Line) × IsBounded l × (l.start ≤ t) × (p t ≡ voltage l t) × (p (t + 1) ≡ voltage l (t + 1))

-- ---- as a wave

-- one denominator, and steps that a line in its limits can have
pub record IsSmooth (p : ℕ → Fraction) (stop : ℕ) : Type 0 where
  pub den : (t : ℕ) → t < stop → (p (t + 1)).den ≡ (p t).den
  pub step : (t : ℕ) → t < stop → unsigned_abs ((p (t + 1)).num -ℤ (p t).num) ≤ 10 ^ 15

-- a line begins at tick 0, and where that of the tick before does not go on
unfoldable pub begins : (ℕ → Fraction) → ℕ → ℕ → Bool
begins p stop zero = true
begins p stop (suc t) = not (goes_on (line_at p stop t) (line_at p stop (suc t)))

-- the lines that begin at ticks below t
unfoldable pub lines_below : (ℕ → Fraction) → ℕ → ℕ → List Line
lines_below p stop zero = []
lines_below p stop (suc t) = lines_below p stop t ++ (if begins p stop t then line_at p stop t ∷ [] else [])

-- the wave through the pairs: its lines up to the stop; where the stop is 0, the one line of tick 0
unfoldable pub wave_of : (ℕ → Fraction) → ℕ → List Line
wave_of p stop = lines_below p stop (max 1 stop)
