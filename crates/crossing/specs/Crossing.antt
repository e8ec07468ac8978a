-- When the voltage between two lines comes into another cell.
use Rattle.std.specs.Prelude.{◌≢◌, ℕ, ◌<◌, ◌≤◌, ℤ, List, Option, MatchOption}
use Rattle.semantics.specs.declared.line.Line.{Line}
use Rattle.semantics.specs.Grid.{difference, cell}
use Rattle.node_ramps.specs.Lines.{voltage}

-- the cell of a - b at a tick
abbrev pub cell_at : List ℤ → Line → Line → ℕ → ℕ
cell_at grid a b tick = cell grid (difference (voltage a tick) (voltage b tick))

-- a tick after now, up to the end, whose cell is not the one at now
pub record IsCrossing (grid : List ℤ) (a b : Line) (now end tick : ℕ) : Type 0 where
  pub later : now < tick
  pub by_end : tick ≤ end
  pub other_cell : cell_at grid a b tick ≢ cell_at grid a b now

-- the least such tick; None exactly where there is none
abbrev pub IsLeastCrossing : List ℤ → Line → Line → ℕ → ℕ → Option ℕ → Type 0
IsLeastCrossing grid a b now end answer =
    MatchOption answer ((tick : ℕ) → ¬ IsCrossing grid a b now end tick)
    (λ least. IsCrossing grid a b now end least × ((tick : ℕ) → IsCrossing grid a b now end tick → least ≤ tick))
