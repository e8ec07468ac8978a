-- A record of nodes by their numbers: a pair for each node that it keeps and each tick from 0 to the stop.
use Rattle.std.specs.Prelude.{◌≡◌, ℕ, ◌≤◌, nat_lt, nat_le, ◌==◌, ◌&&◌, ◌||◌, not, Bool, if◌then◌else◌, List, [], Option, None, slice_index_or, unwrap_or}
use Rattle.std.specs.Option.{is_some}
use Rattle.semantics.specs.declared.fraction.Fraction.{Fraction}
use Rattle.semantics.specs.declared.line.Line.{Line}
use Rattle.histories.specs.Track.{pair}
use Rattle.histories.specs.Piece.{PieceValue}

-- the stop tick, and by node number the lines of a node that is kept
pub record RecordValue : Type 0 where
  pub stop : ℕ
  pub tracks : List (Option (List Line))

-- the lines of a node; None where it is not kept
abbrev pub track_of : RecordValue → ℕ → Option (List Line)
track_of r n = slice_index_or r.tracks n None

abbrev pub keeps : RecordValue → ℕ → Bool
keeps r n = is_some (track_of r n)

-- the pair of a node at a tick
unfoldable pub pair_at : RecordValue → ℕ → ℕ → Fraction
pair_at r n t = pair (unwrap_or (track_of r n) []) t

-- ---- what calls do to it

-- the node is kept too, with this pair at tick 0, and where it was not kept at every tick; all else is as it was
pub record IsStarted (old new : RecordValue) (node : ℕ) (v : Fraction) : Type 0 where
  pub stop : new.stop ≡ old.stop
  pub kept : (n : ℕ) → keeps new n ≡ ((n == node) || keeps old n)
  pub pairs : (n t : ℕ) → t ≤ old.stop →
      pair_at new n t ≡ (if (n == node) && ((t == 0) || not (keeps old n))
      then v else pair_at old n t)

-- the piece's pairs stand at its ticks after `from`, up to `until`; all else is as it was
pub record IsSpliced (old new : RecordValue) (piece : PieceValue) : Type 0 where
  pub stop : new.stop ≡ old.stop
  pub kept : (n : ℕ) → keeps new n ≡ keeps old n
  pub pairs : (n t : ℕ) → t ≤ old.stop →
      pair_at new n t ≡ (if (n == piece.node) && (nat_lt piece.from t && nat_le t piece.until)
      then pair piece.lines t else pair_at old n t)
