-- A record that is kept by the numbers of a circuit's nodes, and the faults of a node in it.
use Rattle.std.specs.Prelude.{◌≡◌, ℕ, Bool, true, ◌&&◌, ℤ, List}
use Rattle.semantics.specs.declared.fraction.Fraction.{Fraction}
use Rattle.semantics.specs.Record.{is_fault, record_current, record_voltages}
use Rattle.semantics.specs.Valid.{is_valid}
use Rattle.circuit_model.specs.Ends.{End, end_volts}
use Rattle.circuit_model.specs.Names.{AreNames, HasNodes}
use Rattle.circuit_model.specs.Numbers.{CircuitValue, name_at}
use Rattle.circuit_model.specs.Records.{IsRecordOf, record_of}
use Rattle.histories.specs.Record.{RecordValue, keeps, pair_at}
use Rattle.regions.specs.declared.span.Span.{Span}
use Rattle.regions.specs.Spans.{has, within}

-- the node of this number has a fault at the tick
abbrev pub has_fault : CircuitValue → RecordValue → ℕ → ℕ → Bool
has_fault c h node t = is_fault c.deck (record_of c (pair_at h)) (name_at c node) t

-- these are the ticks from a on, before b, at which the node has a fault
abbrev pub AreFaults : CircuitValue → RecordValue → ℕ → ℕ → ℕ → List Span → Type 0
AreFaults c h node a b spans = (t : ℕ) → has spans t ≡ (within a b t && has_fault c h node t)

-- ---- what the sweep stands on

-- the deck is valid, its nodes have numbers, and the record is one of this circuit
pub record IsBasis (c : CircuitValue) (h : RecordValue) : Type 0 where
  pub valid : is_valid c.deck ≡ true
  pub named : AreNames c.names
  pub has_nodes : HasNodes c.deck c.names
  pub recorded : IsRecordOf c h.stop (keeps h)

-- the voltages of all names at a tick, by the record
abbrev pub volts : CircuitValue → RecordValue → ℕ → List ℕ → Fraction
volts c h t = record_voltages c.deck (record_of c (pair_at h)) t

-- those of the ends of devices, by where they lead
abbrev pub volts_of_ends : CircuitValue → RecordValue → ℕ → End → Fraction
volts_of_ends c h t = end_volts (λ i. volts c h t (name_at c i))

-- what flows into a node at a tick, by the record
abbrev pub current_at : CircuitValue → RecordValue → ℕ → ℕ → ℤ
current_at c h node t = record_current c.deck (record_of c (pair_at h)) t (name_at c node)
