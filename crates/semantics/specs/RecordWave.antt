-- The waves and events of any record, by the rules of those of the run: the run's own are those of `run_record`.
use Rattle.std.specs.Prelude.{ℕ, zero, suc, max, not, Bool, true, if◌then◌else◌, ℤ, List, [], ◌∷◌, ◌++◌, Option, Some, None}
use Rattle.std.specs.List.{flat_map, enumerate_from}
use Rattle.semantics.specs.declared.element.Element.{Element}
use Rattle.semantics.specs.declared.line.Line.{Line}
use Rattle.semantics.specs.declared.event.Event.{Event}
use Rattle.semantics.specs.Deck.{Name, DeckValue, driver}
use Rattle.semantics.specs.Device.{cells}
use Rattle.semantics.specs.Source.{slope_at, signed}
use Rattle.semantics.specs.Wave.{goes_on}
use Rattle.semantics.specs.Event.{event_of}
use Rattle.semantics.specs.Record.{Record, record_voltages, record_current}

-- the current into a free node at the voltages of the record, the slope of a driven one
unfoldable pub record_rate : DeckValue → Record → ℕ → Name → ℤ
record_rate d w t n = elim (driver d n) [ None ↦ record_current d w t n | Some s ↦ signed s.1 (slope_at s.0 t) ]

-- the line of a node from this tick on
unfoldable pub record_entry : DeckValue → Record → ℕ → Name → Line
record_entry d w t n = record { start = t; num = (record_voltages d w t n).num; rate = record_rate d w t n; den = (record_voltages d w t n).den }

-- a line begins at tick 0, and where it is not that of the tick before that goes on
unfoldable pub record_begins : DeckValue → Record → ℕ → Name → Bool
record_begins d w zero n = true
record_begins d w (suc t) n = not (goes_on (record_entry d w t n) (record_entry d w (suc t) n))

-- the lines that begin at ticks below t
unfoldable pub record_lines : DeckValue → Record → ℕ → Name → List Line
record_lines d w zero n = []
record_lines d w (suc t) n = record_lines d w t n ++ (if record_begins d w t n then record_entry d w t n ∷ [] else [])

-- the wave of a node up to the stop tick
unfoldable pub record_wave : DeckValue → Record → Name → List Line
record_wave d w n = record_lines d w (max 1 d.stop) n

abbrev pub record_cells : DeckValue → Record → ℕ → Element → Option (ℕ × ℕ)
record_cells d w t e = cells d (record_voltages d w t) e

-- the devices whose cells at tick t + 1 are not those at t, by place
unfoldable pub record_events_at : DeckValue → Record → ℕ → List Event
record_events_at d w t =
    flat_map (λ at. event_of (suc t) at.0 (record_cells d w t at.1) (record_cells d w (suc t) at.1)) (enumerate_from 0 d.elements)

-- the events at ticks 1 to t
unfoldable pub record_events_to : DeckValue → Record → ℕ → List Event
record_events_to d w zero = []
record_events_to d w (suc t) = record_events_to d w t ++ record_events_at d w t

-- the events of the record, by tick and then by place
unfoldable pub record_events : DeckValue → Record → List Event
record_events d w = record_events_to d w d.stop
