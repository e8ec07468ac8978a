-- What the run of a window keeps at a tick, and what is promised of it.
use Rattle.std.specs.Prelude.{◌≡◌, ◌⊎◌, ℕ, ◌+◌, ◌*◌, ◌^◌, ◌<◌, ◌≤◌, ◌==◌, true, false, if◌then◌else◌, ℤ, pos, unsigned_abs, List, [], length, slice_index_or, Option, Some, None, IfSome}
use Rattle.std.specs.List.{Contains}
use Rattle.std.specs.FinMap as map
use Rattle.semantics.specs.declared.line.Line.{Line}
use Rattle.node_ramps.specs.Lines.{num_at, turned, voltage, InBounds}
use Rattle.crossing.specs.Crossing.{cell_at}
use Rattle.event_order.specs.Ticks.{Ticks}
use Rattle.window_run.specs.Net.{Net, Cells, End, HasEventTicks, IsNet, IsRun, inflows}
use Rattle.histories.specs.Track.{line_of}
use Rattle.window_run.specs.Pieces.{PiecesGo, pairs}
use Rattle.window_run.specs.declared.stage.Stage.{Stage}

-- the cells that an index past the end answers
abbrev pub no_cells : Cells
no_cells = (0, 0)

abbrev pub ground_line : Line
ground_line = record { start = 0; num = pos 0; rate = pos 0; den = 1 }

-- the line of an end, where the nodes have these
abbrev pub line_at : List Line → End → Line
line_at ls None = ground_line
line_at ls (Some i) = line_of ls i

-- an end leads to ground or to one of this many nodes
abbrev pub IsWithin : ℕ → End → Type 0
IsWithin count end = IfSome end (λ i. i < count)

-- the cells of a device at a tick, where the nodes have these lines
unfoldable pub cell_of : Net → List Line → ℕ → ℕ → Cells
cell_of net ls s k = (cell_at (net.gate_grid k) (line_at ls (net.gate k)) (line_at ls (net.second k)) s, cell_at (net.drain_grid k) (line_at ls (net.first k)) (line_at ls (net.second k)) s)

-- before the tick at which the device or node is looked at again
abbrev pub Before : ℕ → Option ℕ → Type 0
Before s due = (d : ℕ) → due ≡ Some d → s < d

-- ---- the caches, each but for what is still to do

-- a device's cell is that of its lines at the tick
abbrev pub CellsBut : List ℕ → Net → List Line → List Cells → ℕ → Type 0
CellsBut todo net ls cs t = (k : ℕ) → k < net.devices → (slice_index_or cs k no_cells ≡ cell_of net ls t k) ⊎ Contains todo k

-- its current is that of its cells
abbrev pub AmpsAre : Net → List Cells → List ℤ → Type 0
AmpsAre net cs amps = (k : ℕ) → k < net.devices → slice_index_or amps k (pos 0) ≡ net.amps k (slice_index_or cs k no_cells)

-- what flows into each node is known
abbrev pub RatesAre : Net → List ℤ → List ℤ → Type 0
RatesAre net amps rates = (i : ℕ) → i < net.nodes → slice_index_or rates i (pos 0) ≡ inflows net i (λ k. slice_index_or amps k (pos 0)) net.devices

-- a free node's line goes on as the devices let flow
abbrev pub LinesBut : List ℕ → Net → List Line → List ℤ → Type 0
LinesBut todo net ls rates = (i : ℕ) → i < net.nodes → net.free i ≡ true → ((line_of ls i).rate ≡ slice_index_or rates i (pos 0)) ⊎ Contains todo i

-- a device keeps its cell from the tick on, up to the end, before it is due, and is in another one then
pub record KnowsDue (net : Net) (k : ℕ) (ls : List Line) (now end : ℕ) (c : Cells) (due : Option ℕ) : Type 0 where
  pub stays : (s : ℕ) → now ≤ s → s ≤ end → Before s due → cell_of net ls s k ≡ c
  pub leaves : (d : ℕ) → due ≡ Some d → cell_of net ls d k ≡ c → ⊥

abbrev pub DuesBut : List ℕ → Net → List Line → ℕ → ℕ → List Cells → Ticks → Type 0
DuesBut todo net ls now end cs dues = (k : ℕ) → k < net.devices → KnowsDue net k ls now end (slice_index_or cs k no_cells) (map.get dues k) ⊎ Contains todo k

-- a driven node's line is that of its source from now on, before the next bend, and is another one then
pub record IsTrusted (drive : ℕ → Line) (l : Line) (now end : ℕ) (bend : Option ℕ) : Type 0 where
  pub has : (s : ℕ) → now ≤ s → s ≤ end → Before s bend → drive s ≡ turned l s l.rate
  pub bends : (t : ℕ) → bend ≡ Some t → drive t ≡ turned l t l.rate → ⊥

abbrev pub BendsBut : List ℕ → Net → List Line → ℕ → ℕ → Ticks → Type 0
BendsBut todo net ls now end bends = (i : ℕ) → i < net.nodes → net.driven i ≡ true → IsTrusted (net.drive i) (line_of ls i) now end (map.get bends i) ⊎ Contains todo i

-- ---- shapes

-- the lines have begun, and are in bounds up to the end
pub record AreLines (ls : List Line) (now end : ℕ) : Type 0 where
  pub started : (i : ℕ) → i < length ls → (line_of ls i).start ≤ now
  pub bounds : (i : ℕ) → i < length ls → InBounds (line_of ls i) end
  pub in_time : now ≤ end

-- the charge of each free node is what it can have at the tick, and its current what its devices can let flow
abbrev pub AreBounded : Net → List Line → ℕ → Type 0
AreBounded net ls now = (i : ℕ) → i < net.nodes → net.free i ≡ true → unsigned_abs (num_at (line_of ls i) now) ≤ 10 ^ 21 + 10 ^ 15 * now

abbrev pub AreSlow : Net → List Line → Type 0
AreSlow net ls = (i : ℕ) → i < net.nodes → net.free i ≡ true → unsigned_abs (line_of ls i).rate ≤ 10 ^ 15

-- no more flows into a free node than its devices can let flow
abbrev pub RatesAreSlow : Net → List ℤ → Type 0
RatesAreSlow net rates = (i : ℕ) → i < net.nodes → net.free i ≡ true → unsigned_abs (slice_index_or rates i (pos 0)) ≤ 10 ^ 15

-- the lines of the free nodes begin at the tick
abbrev pub BeginAt : Net → List Line → ℕ → Type 0
BeginAt net ls from = (i : ℕ) → i < net.nodes → net.free i ≡ true → (line_of ls i).start ≡ from

-- ---- what a phase changes

-- a device that was not to do is in the cell that it was in
abbrev pub SameBut : List ℕ → List Cells → List Cells → Type 0
SameBut todo old new = (k : ℕ) → (slice_index_or new k no_cells ≡ slice_index_or old k no_cells) ⊎ Contains todo k

-- what flows into a node is what did, or the node is noted
abbrev pub RateSameOrNoted : List ℤ → List ℤ → List ℕ → Type 0
RateSameOrNoted old new turned = (i : ℕ) → (slice_index_or new i (pos 0) ≡ slice_index_or old i (pos 0)) ⊎ Contains turned i

-- a node has the line that it had, or the devices near it are noted
abbrev pub LineSameOrNear : Net → List Line → List Line → List ℕ → Type 0
LineSameOrNear net old new looks = (i : ℕ) → (line_of new i ≡ line_of old i) ⊎ ((k : ℕ) → Contains (net.near i) k → Contains looks k)

-- what is noted was so before, or is near a node
abbrev pub IsFrom : Net → List ℕ → List ℕ → Type 0
IsFrom net old new = (k : ℕ) → Contains new k → Contains old k ⊎ ((i : ℕ) × Contains (net.near i) k)

-- what was noted is noted
abbrev pub Keeps : List ℕ → List ℕ → Type 0
Keeps old new = (k : ℕ) → Contains old k → Contains new k

-- each node has the voltage that it had at the tick
abbrev pub SameVolts : List Line → List Line → ℕ → Type 0
SameVolts old new now = (i : ℕ) → i < length old → voltage (line_of new i) now ≡ voltage (line_of old i) now

-- the free nodes have the lines that they had
abbrev pub SameFree : Net → List Line → List Line → Type 0
SameFree net old new = (i : ℕ) → net.free i ≡ true → line_of new i ≡ line_of old i

-- and so have the driven ones
abbrev pub SameDriven : Net → List Line → List Line → Type 0
SameDriven net old new = (i : ℕ) → net.driven i ≡ true → line_of new i ≡ line_of old i

-- ---- ticks that wait

-- each waits for a tick after now
abbrev pub AreLater : Ticks → ℕ → Type 0
AreLater ticks now = (k d : ℕ) → map.get ticks k ≡ Some d → now < d

-- only the first so many wait
abbrev pub AreInside : ℕ → Ticks → Type 0
AreInside count ticks = (k d : ℕ) → map.get ticks k ≡ Some d → k < count

-- only driven nodes bend
abbrev pub OnlyDriven : Net → Ticks → Type 0
OnlyDriven net bends = (k d : ℕ) → map.get bends k ≡ Some d → (k < net.nodes) × (net.driven k ≡ true)

-- none waits for a tick before this one
abbrev pub IsFrontier : Ticks → ℕ → Type 0
IsFrontier ticks now = (k d : ℕ) → map.get ticks k ≡ Some d → now ≤ d

-- one waits for this tick
abbrev pub Waits : Ticks → ℕ → Type 0
Waits ticks now = (k : ℕ) × (map.get ticks k ≡ Some now)

-- the ticks that still wait once this one is taken
abbrev pub waiting : ℕ → Option ℕ → Option ℕ
waiting now None = None
waiting now (Some d) = if d == now then None else Some d

-- these are the devices or nodes that waited for the tick, and they wait no more
pub record Takes (now : ℕ) (old new : Ticks) (out : List ℕ) : Type 0 where
  pub rest : (k : ℕ) → map.get new k ≡ waiting now (map.get old k)
  pub only : (k : ℕ) → Contains out k → map.get old k ≡ Some now
  pub all : (k : ℕ) → map.get old k ≡ Some now → Contains out k

-- ---- the stage

-- at a tick, and all that it knows is right from an earlier one on, but that these devices are due now and these nodes bend
pub record Arrives (net : Net) (s : Stage) (due bent : List ℕ) (before now end : ℕ) : Type 0 where
  pub count_lines : length s.lines.items ≡ net.nodes
  pub count_rates : length s.rates.items ≡ net.nodes
  pub count_cells : length s.cells.items ≡ net.devices
  pub count_amps : length s.amps.items ≡ net.devices
  pub lines : AreLines s.lines.items before end
  pub nums : AreBounded net s.lines.items before
  pub slow : AreSlow net s.lines.items
  pub amps : AmpsAre net s.cells.items s.amps.items
  pub flows : RatesAre net s.amps.items s.rates.items
  pub goes : LinesBut [] net s.lines.items s.rates.items
  pub stay : DuesBut due net s.lines.items before end s.cells.items s.dues
  pub trust : BendsBut bent net s.lines.items before end s.bends
  pub due_later : AreLater s.dues now
  pub bend_later : AreLater s.bends now
  pub due_inside : AreInside net.devices s.dues
  pub bend_driven : OnlyDriven net s.bends

-- between ticks all is right
abbrev pub IsSteady : Net → Stage → ℕ → ℕ → Type 0
IsSteady net s now end = Arrives net s [] [] now now end

-- ---- the run

-- nothing is wrong so far, and the next event tick is known, or there is none before the end
pub record IsUnderWay (net : Net) (s : Stage) (ps : List (List Line)) (from next end taken : ℕ) : Type 0 where
  pub now : ℕ
  pub steady : IsSteady net s now end
  pub from_first : from ≤ now
  pub order : now < next
  pub by_end : next ≤ end
  pub due_next : IsFrontier s.dues next
  pub bend_next : IsFrontier s.bends next
  pub waits : next < end → Waits s.dues next ⊎ Waits s.bends next
  pub pieces : PiecesGo net from ps s.lines.items
  pub run : IsRun net (pairs ps) from now
  pub ticks : HasEventTicks net (pairs ps) from taken (now + 1)
