-- The ticks at which a window has something to do.
use Rattle.std.specs.Prelude.{◌≡◌, ◌⊎◌, ℕ, zero, suc, ◌<◌, true, is_some}
use Rattle.std.specs.List.{Contains}
use Rattle.semantics.specs.declared.element.Element.{Element}
use Rattle.semantics.specs.Deck.{DeckValue, Name, driver}
use Rattle.semantics.specs.Record.{Record}
use Rattle.semantics.specs.RecordWave.{record_cells}
use Rattle.node_ramps.specs.Lines.{turned}
use Rattle.circuit_model.specs.Drive.{drive_of}

-- by the record a device is in other cells than at the tick before
pub record Moves (d : DeckValue) (x : Record) (t : ℕ) : Type 0 where
  pub device : Element
  pub among : Contains d.elements device
  pub before : ℕ
  pub next : t ≡ suc before
  pub other : record_cells d x t device ≡ record_cells d x before device → ⊥

-- a source turns: the line of a driven node is not that of the tick before
pub record Bends (d : DeckValue) (t : ℕ) : Type 0 where
  pub node : Name
  pub is_driven : is_some (driver d node) ≡ true
  pub before : ℕ
  pub next : t ≡ suc before
  pub other : drive_of d node t ≡ turned (drive_of d node before) t (drive_of d node before).rate → ⊥

-- an event tick of a window: its first tick, and each later one at which a device moves or a source turns
abbrev pub IsEvent : DeckValue → Record → ℕ → ℕ → Type 0
IsEvent d x from t = (t ≡ from) ⊎ ((from < t) × (Moves d x t ⊎ Bends d t))

-- there are this many event ticks below a tick
abbrev pub HasEvents : DeckValue → Record → ℕ → ℕ → ℕ → Type 0
HasEvents d x from zero below = Unit {0}
HasEvents d x from (suc n) below = (t : ℕ) × (t < below) × IsEvent d x from t × HasEvents d x from n t
