-- The place of the line in force at a tick.
use Rattle.std.specs.Prelude.{◌≡◌, ℕ, ◌<◌, ◌≤◌, List, length}
use Rattle.semantics.specs.declared.line.Line.{Line}
use Rattle.histories.specs.Track.{IsTrack, line_of, pair}

-- the line at this place is in force at the tick
pub record IsPlace (ls : List Line) (t k : ℕ) : Type 0 where
  pub inside : k < length ls
  pub started : (line_of ls k).start ≤ t
  pub last : (j : ℕ) → k < j → j < length ls → t < (line_of ls j).start

-- lines that begin at a tick and have the pairs of these from it on
pub record IsTail (ls : List Line) (t : ℕ) (tail : List Line) : Type 0 where
  pub track : IsTrack t tail
  pub pairs : (s : ℕ) → t ≤ s → pair tail s ≡ pair ls s
