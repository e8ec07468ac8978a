-- Lines one after another, each in force until the next begins, and the pairs that they give.
use Rattle.std.specs.Prelude.{◌≡◌, ℕ, ◌+◌, ◌*◌, ◌^◌, ◌<◌, ◌≤◌, nat_le, if◌then◌else◌, pos, unsigned_abs, List, [], ◌∷◌, length, slice_index_or}
use Rattle.std.specs.List.{All}
use Rattle.semantics.specs.declared.fraction.Fraction.{Fraction}
use Rattle.semantics.specs.declared.line.Line.{Line}
use Rattle.node_ramps.specs.Lines.{voltage}

-- what stands where there is no line
abbrev pub no_line : Line
no_line = record { start = 0; num = pos 0; rate = pos 0; den = 0 }

abbrev pub line_of : List Line → ℕ → Line
line_of ls k = slice_index_or ls k no_line

-- the line in force at a tick: the last of these that begins at the tick or before, and before the second the first
abbrev pub in_force : Line → List Line → ℕ → Line
in_force l [] t = l
in_force l (m ∷ ms) t = if nat_le m.start t then in_force m ms t else l

-- the pair that these lines give at a tick
unfoldable pub pair : List Line → ℕ → Fraction
pair [] t = voltage no_line t
pair (l ∷ ls) t = voltage (in_force l ls t) t

-- the limits of a line: so are its voltages from its start on, which grow by at most its rate
pub record IsBounded (l : Line) : Type 0 where
  pub den_from : 1 ≤ l.den
  pub den_to : l.den ≤ 10 ^ 12
  pub num : unsigned_abs l.num ≤ 10 ^ 21 + 10 ^ 15 * l.start
  pub rate : unsigned_abs l.rate ≤ 10 ^ 15

-- the first begins at this tick, and each begins after the one before it
pub record IsFrom (from : ℕ) (ls : List Line) : Type 0 where
  pub some : 0 < length ls
  pub first : (line_of ls 0).start ≡ from
  pub rising : (i j : ℕ) → i < j → j < length ls → (line_of ls i).start < (line_of ls j).start

-- lines from this tick on, each in its limits
pub record IsTrack (from : ℕ) (ls : List Line) : Type 0 where
  pub lines : IsFrom from ls
  pub bounded : All IsBounded ls
