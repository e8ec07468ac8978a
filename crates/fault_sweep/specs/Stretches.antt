-- What stays as it is from a tick on, before a later one.
use Rattle.std.specs.Prelude.{◌≡◌, ℕ, ◌+◌, ◌^◌, ◌<◌, ◌≤◌, ℤ, pos, unsigned_abs, ◌+ℤ◌, List, length, fold, slice_index_or, IfSome}
use Rattle.semantics.specs.declared.fraction.Fraction.{Fraction}
use Rattle.semantics.specs.declared.line.Line.{Line}
use Rattle.node_ramps.specs.Lines.{InBounds, voltage}
use Rattle.circuit_model.specs.declared.node_kind.NodeKind.TheVariants.{Absent}
use Rattle.circuit_model.specs.Ends.{End, ends_in}
use Rattle.circuit_model.specs.Numbers.{CircuitValue, device_flow, device_of, drain_cell, gate_cell, kind_at, name_at, near_of}
use Rattle.histories.specs.Pairs.{line_at}
use Rattle.histories.specs.Record.{RecordValue}
use Rattle.fault_sweep.specs.declared.course.Course.{Course}
use Rattle.fault_sweep.specs.declared.hold.Hold.{Hold}
use Rattle.fault_sweep.specs.declared.stay.Stay.{Stay}
use Rattle.fault_sweep.specs.declared.sweep.Stretch.{Stretch}
use Rattle.fault_sweep.specs.Records.{has_fault, volts_of_ends}

-- an end leads to ground or to a node of the deck
abbrev pub IsReal : CircuitValue → End → Type 0
IsReal c end = IfSome end (λ i. kind_at c i ≡ Absent → ⊥)

-- ---- lines

-- the line of ground from a tick on
abbrev pub ground : ℕ → Line
ground now = record { start = now; num = pos 0; rate = pos 0; den = 1 }

-- the line begins now, and is in bounds
pub record IsRunning (now : ℕ) (course : Course) : Type 0 where
  pub later : now < course.until
  pub starts : course.line.start ≡ now
  pub bounds : (t : ℕ) → now ≤ t → t < course.until → InBounds course.line t

-- and it has the voltages of an end, up to the stop at most
pub record IsCourse (c : CircuitValue) (h : RecordValue) (end : End) (now : ℕ) (course : Course) : Type 0 where
  pub running : IsRunning now course
  pub by_stop : course.until ≤ c.deck.stop + 1
  pub has : (t : ℕ) → now ≤ t → t < course.until → volts_of_ends c h t end ≡ voltage course.line t

-- of the second end of a device
abbrev pub IsSecond : CircuitValue → RecordValue → ℕ → ℕ → Course → Type 0
IsSecond c h device now course = IsCourse c h (ends_in c.names (device_of c.deck device)).second now course

-- ---- cells

-- of the cells at each tick, this is the one
pub record IsStay (cells : ℕ → ℕ) (now : ℕ) (stay : Stay) : Type 0 where
  pub later : now < stay.until
  pub cell_is : (t : ℕ) → now ≤ t → t < stay.until → cells t ≡ stay.cell

-- the cells of a device on the axis of its drain, or of a resistor's voltage
abbrev pub drain_cells : CircuitValue → RecordValue → ℕ → ℕ → ℕ
drain_cells c h device t = drain_cell c.deck (device_of c.deck device) (ends_in c.names (device_of c.deck device)) (volts_of_ends c h t)

-- and on the axis of its gate
abbrev pub gate_cells : CircuitValue → RecordValue → ℕ → ℕ → ℕ
gate_cells c h device t = gate_cell c.deck (device_of c.deck device) (ends_in c.names (device_of c.deck device)) (volts_of_ends c h t)

-- ---- currents

-- this flows into the node through the device
pub record IsHold (c : CircuitValue) (h : RecordValue) (node device now : ℕ) (hold : Hold) : Type 0 where
  pub small : unsigned_abs hold.inflow ≤ 10 ^ 12
  pub flows : (t : ℕ) → now ≤ t → t < hold.until → device_flow c (volts_of_ends c h t) node device ≡ hold.inflow

abbrev pub no_hold : Hold
no_hold = record { inflow = pos 0; until = 0 }

-- the devices near a node
abbrev pub near_at : CircuitValue → ℕ → List ℕ
near_at c node = near_of c.deck (name_at c node)

-- each of the devices near the node has its own
pub record AreHolds (c : CircuitValue) (h : RecordValue) (node now : ℕ) (holds : List Hold) : Type 0 where
  pub count : length holds ≡ length (near_at c node)
  pub each : (k : ℕ) → k < length holds → IsHold c h node (slice_index_or (near_at c node) k 0) now (slice_index_or holds k no_hold)

-- the first so many last to after this tick
abbrev pub AreOn : ℕ → ℕ → List Hold → Type 0
AreOn count now holds = (k : ℕ) → k < count → now < (slice_index_or holds k no_hold).until

-- and all to this one
abbrev pub AreOnTo : ℕ → List Hold → Type 0
AreOnTo until holds = (k : ℕ) → k < length holds → until ≤ (slice_index_or holds k no_hold).until

-- what flows in through all of them
abbrev pub total : List Hold → ℤ
total holds = fold (λ sum hold. sum +ℤ hold.inflow) (pos 0) holds

-- ---- the node's own voltages

-- until a later tick, which is not past the end, they go straight on; or that is the next tick
pub record IsStraightTo (p : ℕ → Fraction) (stop now end until : ℕ) : Type 0 where
  pub later : now < until
  pub by_end : until ≤ end
  pub line : now + 1 < until → (t : ℕ) → now ≤ t → t ≤ until → p t ≡ voltage (line_at p stop now) t

-- ---- faults

-- at each tick from now on, up to before a later one that is not past the end, the node is at fault or at none
pub record IsStretch (c : CircuitValue) (h : RecordValue) (node now end : ℕ) (stretch : Stretch) : Type 0 where
  pub later : now < stretch.until
  pub by_end : stretch.until ≤ end
  pub faults : (t : ℕ) → now ≤ t → t < stretch.until → has_fault c h node t ≡ stretch.is_fault
