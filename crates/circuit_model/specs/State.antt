-- What the plain run keeps at a tick.
use Rattle.std.specs.Prelude.{◌≡◌, ℕ, ◌+◌, min, max, map}
use Rattle.semantics.specs.Deck.{DeckValue, nodes}
use Rattle.semantics.specs.Event.{events_to}
use Rattle.semantics.specs.Run.{run}
use Rattle.semantics.specs.Wave.{rate, entries_below}
use Rattle.circuit_model.specs.declared.ticks.Ticks.{Ticks}
use Rattle.circuit_model.specs.Network.{cells_at}

-- voltages, cells and rates are those of the tick, and waves and events those up to it; no line begins at the stop tick
pub record IsAt (d : DeckValue) (tick : ℕ) (s : Ticks) : Type 0 where
  pub volts : s.volts.items ≡ map (run d tick) (nodes d)
  pub cells : s.cells.items ≡ cells_at d tick
  pub rates : s.rates.items ≡ map (rate d tick) (nodes d)
  pub waves : s.waves ≡ map (entries_below d (min (tick + 1) (max 1 d.stop))) (nodes d)
  pub events : s.events ≡ events_to d tick
