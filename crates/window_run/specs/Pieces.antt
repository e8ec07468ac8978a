-- The lines of each free node from the beginning of a window on.
use Rattle.std.specs.Prelude.{◌≡◌, ℕ, Bool, ◌+◌, ◌-◌, ◌<◌, ◌≤◌, true, false, if◌then◌else◌, ℤ, List, [], ◌∷◌, length, slice_index_or, sum_by}
use Rattle.semantics.specs.declared.fraction.Fraction.{Fraction}
use Rattle.semantics.specs.declared.line.Line.{Line}
use Rattle.node_ramps.specs.Lines.{turned}
use Rattle.histories.specs.Track.{line_of, pair}
use Rattle.window_run.specs.Net.{Net}

abbrev pub last_of : List Line → Line
last_of ls = line_of ls (length ls - 1)

abbrev pub piece_of : List (List Line) → ℕ → List Line
piece_of ps i = slice_index_or ps i []

-- the pairs of all nodes
abbrev pub pairs : List (List Line) → ℕ → ℕ → Fraction
pairs ps i t = pair (piece_of ps i) t

-- a line goes on from where the one before it is, later and at another rate
pub record Turns (l m : Line) : Type 0 where
  pub later : l.start < m.start
  pub from_there : m ≡ turned l m.start m.rate
  pub other_rate : m.rate ≡ l.rate → ⊥

-- lines from a tick on, of which the last is this one
pub record IsPiece (from : ℕ) (xs : List Line) (l : Line) : Type 0 where
  pub some : 0 < length xs
  pub first : (line_of xs 0).start ≡ from
  pub last : last_of xs ≡ l
  pub turns : (j : ℕ) → j + 1 < length xs → Turns (line_of xs j) (line_of xs (j + 1))

-- each free node has lines that turn from the one tick on, and the last of them begins before the other
abbrev pub AreTurning : Net → ℕ → ℕ → List (List Line) → Type 0
AreTurning net from until ps = (i : ℕ) → i < net.nodes → net.free i ≡ true → (l : Line) × IsPiece from (piece_of ps i) l × (l.start < until)

-- each free node has a piece that ends with its line
abbrev pub PiecesGo : Net → ℕ → List (List Line) → List Line → Type 0
PiecesGo net from ps ls = (i : ℕ) → i < net.nodes → net.free i ≡ true → IsPiece from (piece_of ps i) (line_of ls i)

-- up to a tick the pieces have the pairs that they had
abbrev pub PiecesKept : Net → List (List Line) → List (List Line) → ℕ → Type 0
PiecesKept net old new now = (i s : ℕ) → i < net.nodes → net.free i ≡ true → s ≤ now → pairs new i s ≡ pairs old i s

-- what is not free has the lines that it had
abbrev pub OthersKept : Net → List (List Line) → List (List Line) → Type 0
OthersKept net old new = (i : ℕ) → net.free i ≡ false → piece_of new i ≡ piece_of old i

-- what is not free has no lines
abbrev pub OnlyFree : Net → List (List Line) → Type 0
OnlyFree net ps = (i : ℕ) → net.free i ≡ false → piece_of ps i ≡ []

-- how many lines there are in all
abbrev pub line_count : List (List Line) → ℕ
line_count ps = sum_by (λ xs. length xs) ps

-- as many ramps were counted as lines came to the pieces
abbrev pub Counts : ℕ → ℕ → List (List Line) → List (List Line) → Type 0
Counts old_steps new_steps old new = new_steps + line_count old ≡ old_steps + line_count new

-- the line of a free node goes on at this rate and begins its piece; another node has no piece
pub record SetsOut (free : Bool) (rate : ℤ) (old new : Line) (xs : List Line) (old_steps new_steps : ℕ) : Type 0 where
  pub line : new ≡ if free then record { start = old.start; num = old.num; rate = rate; den = old.den } else old
  pub piece : xs ≡ if free then new ∷ [] else []
  pub steps : new_steps ≡ old_steps + length xs
