-- The events of a run: which devices come into other cells, tick by tick.
use Rattle.std.specs.Prelude.{ℕ, zero, suc, ◌==◌, ◌&&◌, Bool, if◌then◌else◌, List, [], ◌∷◌, ◌++◌, Option, Some, None}
use Rattle.std.specs.List.{flat_map, enumerate_from}
use Rattle.semantics.specs.declared.event.Event.{Event}
use Rattle.semantics.specs.Deck.{DeckValue}
use Rattle.semantics.specs.Device.{cells}
use Rattle.semantics.specs.Run.{run}

abbrev pub same_cells : ℕ × ℕ → ℕ × ℕ → Bool
same_cells a b = (a.0 == b.0) && (a.1 == b.1)

-- the event of the device at this place, where its cells were old and are new
abbrev pub event_of : ℕ → ℕ → Option (ℕ × ℕ) → Option (ℕ × ℕ) → List Event
event_of tick place (Some old) (Some new) = if same_cells old new then [] else record { tick = tick; place = place; old = old; new = new } ∷ []
event_of tick place (Some old) None = []
event_of tick place None new = []

-- the devices whose cells at tick t + 1 are not those at t, by place
unfoldable pub events_at : DeckValue → ℕ → List Event
events_at d t = flat_map (λ at. event_of (suc t) at.0 (cells d (run d t) at.1) (cells d (run d (suc t)) at.1)) (enumerate_from 0 d.elements)

-- the events at ticks 1 to t
unfoldable pub events_to : DeckValue → ℕ → List Event
events_to d zero = []
events_to d (suc t) = events_to d t ++ events_at d t

-- the events of the run, by tick and then by place
unfoldable pub events : DeckValue → List Event
events d = events_to d d.stop
