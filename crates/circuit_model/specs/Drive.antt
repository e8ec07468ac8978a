-- The line of a driven node from a tick on, and where it turns.
use Rattle.std.specs.Prelude.{◌≡◌, ℕ, ◌<◌, ◌≤◌, Bool, false, ℤ, pos, List, Option, Some, None, MatchOption}
use Rattle.semantics.specs.declared.line.Line.{Line}
use Rattle.semantics.specs.Deck.{DeckValue, driver}
use Rattle.semantics.specs.Source.{pair_at, signed, slope_at}
use Rattle.semantics.specs.Wave.{goes_on}
use Rattle.node_ramps.specs.Lines.{turned}

-- the line of a source with these points from a tick on: its voltage there, and its slope
unfoldable pub course : List (ℕ × ℤ) → ℕ → Line
course points t = record { start = t; num = (pair_at points t).num; rate = slope_at points t; den = (pair_at points t).den }

-- the same with the sign turned, where the node is the second of its source
abbrev pub signed_line : Bool → Line → Line
signed_line second l = record { start = l.start; num = signed second l.num; rate = signed second l.rate; den = l.den }

-- the line of a driven node from a tick on
unfoldable pub drive_of : DeckValue → List ℕ → ℕ → Line
drive_of d n t = elim (driver d n) [
  | None ↦ record { start = t; num = pos 0; rate = pos 0; den = 1 }
  | Some s ↦ signed_line s.1 (course s.0 t)
]

-- of the lines from each tick on, that of a tick is in force at a later one still
abbrev pub StaysTo : (ℕ → Line) → ℕ → ℕ → Type 0
StaysTo line t later = line later ≡ turned (line t) later (line t).rate

-- the line of a tick is in force up to before the next, at which the rate or the denominator is another
pub record TurnsAt (line : ℕ → Line) (stop t next : ℕ) : Type 0 where
  pub later : t < next
  pub up_to : next ≤ stop
  pub stays : (s : ℕ) → t ≤ s → s < next → StaysTo line t s
  pub turns : goes_on (line t) (line next) ≡ false

-- the least tick after t, up to the stop, at which the line turns; None where it stays to the stop
abbrev pub IsNextTurn : (ℕ → Line) → ℕ → ℕ → Option ℕ → Type 0
IsNextTurn line stop t next = MatchOption next ((s : ℕ) → t ≤ s → s ≤ stop → StaysTo line t s) (TurnsAt line stop t)
