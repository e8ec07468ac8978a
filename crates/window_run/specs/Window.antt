-- What a window found, and a record with its pieces in it.
use Rattle.std.specs.Prelude.{◌≡◌, ℕ, ◌<◌, nat_lt, nat_le, ◌==◌, ◌&&◌, Bool, if◌then◌else◌, List, [], ◌∷◌, drop, length, map, slice_index_or, sum_by}
use Rattle.std.specs.List.{All, Any, list_all, zip}
use Rattle.std.specs.List.Sorted.{IsPermutation, IsStrictlyIncreasing}
use Rattle.semantics.specs.declared.fraction.Fraction.{Fraction}
use Rattle.semantics.specs.declared.line.Line.{Line}
use Rattle.histories.specs.Piece.{IsPiece, PieceValue}
use Rattle.histories.specs.Track.{pair}
use Rattle.window_run.specs.Pieces.{piece_of}
use Rattle.window_run.specs.declared.stop.Stop.{Stop}
use Rattle.window_run.specs.declared.stop.Stop.TheVariants.{End}

pub record WindowValue : Type 0 where
  pub from : ℕ
  pub until : ℕ
  pub stop : Stop
  pub pieces : List PieceValue

-- ---- what each window is

-- no two are the same
abbrev pub AreDifferent : List ℕ → Type 0
AreDifferent xs = (j k : ℕ) → j < k → k < length xs → slice_index_or xs k 0 ≡ slice_index_or xs j 0 → ⊥

-- each piece goes from the first tick to the last one, no two are of one node, and their lines are in order and in their limits
pub record IsWindow (w : WindowValue) : Type 0 where
  pub ends : All (λ p. (p.from ≡ w.from) × (p.until ≡ w.until)) w.pieces
  pub different : AreDifferent (map (λ p. p.node) w.pieces)
  pub shape : All (λ p. IsPiece p.from p.until p.lines) w.pieces

-- ---- the window of pieces that anyone has made

-- it has these pieces by rising numbers of their nodes, and stops because it came to its end
pub record IsWindowOf (from until : ℕ) (ps : List PieceValue) (w : WindowValue) : Type 0 where
  pub begins : w.from ≡ from
  pub ends : w.until ≡ until
  pub stop : w.stop ≡ End
  pub pieces : IsPermutation ps w.pieces
  pub rising : IsStrictlyIncreasing (map (λ p. p.node) w.pieces)

-- two of the numbers are the same
pub record HasRepeat (xs : List ℕ) : Type 0 where
  pub first : ℕ
  pub second : ℕ
  pub order : first < second
  pub inside : second < length xs
  pub same : slice_index_or xs second 0 ≡ slice_index_or xs first 0

-- two of the pieces are of one node
abbrev pub HasTwoOfOneNode : List PieceValue → Type 0
HasTwoOfOneNode ps = HasRepeat (map (λ p. p.node) ps)

-- a piece does not go from the one tick to the other
abbrev pub HasOtherEnds : ℕ → ℕ → List PieceValue → Type 0
HasOtherEnds from until ps = Any (λ p. (p.from ≡ from) × (p.until ≡ until) → ⊥) ps

-- each is of a node of a higher number than the one before it, as a test of neighbours
abbrev pub rising_nodes : List PieceValue → Bool
rising_nodes ps = list_all (λ pair. nat_lt pair.0.node pair.1.node) (zip ps (drop 1 ps))

-- ---- a record with its pieces in it

-- a piece tells of its node at the ticks after its first one, up to its last
abbrev pub tells : PieceValue → ℕ → ℕ → Bool
tells p i t = (i == p.node) && (nat_lt p.from t && nat_le t p.until)

-- the pair of a node at a tick, where pieces are put into a record: that of the piece that tells of it, and the record's where none does
abbrev pub with_pieces : (ℕ → ℕ → Fraction) → List PieceValue → ℕ → ℕ → Fraction
with_pieces x [] i t = x i t
with_pieces x (p ∷ ps) i t = if tells p i t then pair p.lines t else with_pieces x ps i t

-- the piece of a node between two ticks, from the lines that each number has
abbrev pub piece_value : ℕ → ℕ → List (List Line) → ℕ → PieceValue
piece_value from until ps i = record { node = i; from = from; until = until; lines = piece_of ps i }

-- how many ramps pieces have in all
abbrev pub ramp_count : List PieceValue → ℕ
ramp_count ps = sum_by (λ p. length p.lines) ps
