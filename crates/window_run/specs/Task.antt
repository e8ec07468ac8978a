-- What is asked of a task, and what a window promises of it.
use Rattle.std.specs.Prelude.{◌≡◌, ℕ, ◌<◌, ◌≤◌, Bool, true, false, List, length, map}
use Rattle.std.specs.List.{All, Contains, list_any}
use Rattle.std.specs.Arc.{arc_value}
use Rattle.std.specs.Str.{bytes_eq}
use Rattle.semantics.specs.declared.fraction.Fraction.{Fraction}
use Rattle.semantics.specs.Deck.{Name, DeckValue, capacity}
use Rattle.semantics.specs.Record.{Record, is_fault}
use Rattle.semantics.specs.Stale.{is_turn}
use Rattle.circuit_model.specs.declared.node_kind.NodeKind.TheVariants.{Free}
use Rattle.circuit_model.specs.Numbers.{CircuitValue, kind_at, name_at}
use Rattle.circuit_model.specs.Records.{record_of}
use Rattle.histories.specs.Piece.{IsPiece, PieceValue}
use Rattle.histories.specs.Record.{pair_at}
use Rattle.histories.specs.Track.{line_of}
use Rattle.window_run.specs.declared.task.Task.{Task}
use Rattle.window_run.specs.Window.{AreDifferent, WindowValue, with_pieces}

abbrev pub circuit_of : Task → CircuitValue
circuit_of task = arc_value task.circuit

abbrev pub deck_of : Task → DeckValue
deck_of task = (circuit_of task).deck

-- the name is that of a node of the task
abbrev pub is_task_node : Task → Name → Bool
is_task_node task n = list_any (λ i. bytes_eq n (name_at (circuit_of task) i)) task.nodes.items

-- ---- what is asked

-- the nodes are free and different, every free node is among them, and each has its capacitance as denominator at the first tick
pub record AreFreeNodes (task : Task) : Type 0 where
  pub free : All (λ i. kind_at (circuit_of task) i ≡ Free) task.nodes.items
  pub different : AreDifferent task.nodes.items
  pub all : (i : ℕ) → kind_at (circuit_of task) i ≡ Free → Contains task.nodes.items i
  pub den : (i : ℕ) → kind_at (circuit_of task) i ≡ Free
      → (pair_at task.past i task.from).den ≡ capacity (deck_of task) (name_at (circuit_of task) i)

-- ---- what is promised

-- the record of a task
abbrev pub before : Task → Record
before task = record_of (circuit_of task) (pair_at task.past)

-- the pairs of its nodes with the pieces of a window in it
abbrev pub pairs_after : Task → WindowValue → ℕ → ℕ → Fraction
pairs_after task w = with_pieces (pair_at task.past) w.pieces

-- and the record with them in it
abbrev pub after : Task → WindowValue → Record
after task w = record_of (circuit_of task) (pairs_after task w)

-- the record with the pieces has no fault of the task's nodes from the first tick to below the last one
abbrev pub IsMended : Task → WindowValue → Type 0
IsMended task w = (n : Name) (t : ℕ) → is_task_node task n ≡ true → task.from ≤ t → t < w.until
    → is_fault (deck_of task) (after task w) n t ≡ false

-- and of other nodes it has below the last tick only faults that were there
abbrev pub IsNoWorse : Task → WindowValue → Type 0
IsNoWorse task w = (n : Name) (t : ℕ) → is_task_node task n ≡ false → t < w.until
    → is_fault (deck_of task) (after task w) n t ≡ true → is_fault (deck_of task) (before task) n t ≡ true

-- each node of the task has a piece, in the order of the nodes, from the first tick to the last one
pub record HasPieces (task : Task) (w : WindowValue) : Type 0 where
  pub nodes : map (λ p. p.node) w.pieces ≡ task.nodes.items
  pub ends : All (λ p. (p.from ≡ w.from) × (p.until ≡ w.until)) w.pieces
  pub shape : All (λ p. IsPiece p.from p.until p.lines) w.pieces

-- a line of a piece begins before the last tick, and there the current into its node is not that of the tick before
pub record IsTurn (task : Task) (w : WindowValue) (p : PieceValue) (start : ℕ) : Type 0 where
  pub early : start < w.until
  pub turn : is_turn (deck_of task) (after task w) (name_at (circuit_of task) p.node) start ≡ true

-- so does each line of a piece but its first
abbrev pub EachTurns : Task → WindowValue → Type 0
EachTurns task w = All (λ p. (j : ℕ) → 0 < j → j < length p.lines → IsTurn task w p (line_of p.lines j).start) w.pieces
