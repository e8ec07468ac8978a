-- Pieces that are put into a record.
use Rattle.std.specs.Prelude.{◌≡◌, ℕ, ◌≤◌, true, List}
use Rattle.std.specs.List.{All}
use Rattle.histories.specs.Piece.{PieceValue}
use Rattle.histories.specs.Record.{RecordValue, keeps, pair_at}
use Rattle.window_run.specs.Window.{with_pieces}

-- a record keeps the node of a piece, and goes to the end of it
pub record Takes (r : RecordValue) (p : PieceValue) : Type 0 where
  pub kept : keeps r p.node ≡ true
  pub until : p.until ≤ r.stop

-- the new record is the old one with these pieces
pub record HasPut (old new : RecordValue) (ps : List PieceValue) : Type 0 where
  pub stop : new.stop ≡ old.stop
  pub kept : (i : ℕ) → keeps new i ≡ keeps old i
  pub pairs : (i t : ℕ) → t ≤ old.stop → pair_at new i t ≡ with_pieces (pair_at old) ps i t
