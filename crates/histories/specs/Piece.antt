-- A piece of a node's run: its lines from a tick to a later one.
use Rattle.std.specs.Prelude.{ℕ, ◌<◌, ◌≤◌, nat_lt, Bool, List, drop}
use Rattle.std.specs.List.{All, list_all, zip}
use Rattle.semantics.specs.declared.line.Line.{Line}
use Rattle.histories.specs.Track.{IsBounded, IsFrom}

pub record PieceValue : Type 0 where
  pub node : ℕ
  pub from : ℕ
  pub until : ℕ
  pub lines : List Line

-- the lines begin at `from`, rise, and begin at or before `until`, which is later
pub record IsShape (from until : ℕ) (ls : List Line) : Type 0 where
  pub ordered : from < until
  pub lines : IsFrom from ls
  pub by_until : All (λ l. l.start ≤ until) ls

-- a piece, in all its limits
pub record IsPiece (from until : ℕ) (ls : List Line) : Type 0 where
  pub shape : IsShape from until ls
  pub bounded : All IsBounded ls

-- each begins after the one before it, as a test of neighbours
abbrev pub rising_starts : List Line → Bool
rising_starts ls = list_all (λ pair. nat_lt pair.0.start pair.1.start) (zip ls (drop 1 ls))
