-- A circuit by numbers of nodes and devices, and what flows in it.
use Rattle.std.specs.Prelude.{◌≡◌, ◌⊎◌, ℕ, zero, suc, ◌+◌, ◌*◌, ◌^◌, ◌<◌, ◌≤◌, ◌==◌, Bool, true, false, if◌then◌else◌, ℤ, pos, ◌+ℤ◌, ◌-ℤ◌, unsigned_abs, List, length, slice_index_or, Option, Some, None}
use Rattle.std.specs.List.{Contains}
use Rattle.semantics.specs.declared.fraction.Fraction.{Fraction}
use Rattle.semantics.specs.declared.line.Line.{Line}
use Rattle.semantics.specs.Grid.{cell, difference}
use Rattle.node_ramps.specs.Lines.{turned}

-- the cells of a device: of gate minus second end, and of first minus second; what has no gate has no threshold there
abbrev pub Cells : Type 0
Cells = ℕ × ℕ

-- where an end leads: to a node, or None to ground
abbrev pub End : Type 0
End = Option ℕ

-- the stop tick; how many nodes and devices there are; which nodes are free, and which are driven, with the line of each from a tick on;
-- the devices at a node; where the gate and the ends of a device lead, its two grids, and its current out of the first end
-- into the second, by its cells
pub record Net : Type 0 where
  pub stop : ℕ
  pub nodes : ℕ
  pub devices : ℕ
  pub free : ℕ → Bool
  pub driven : ℕ → Bool
  pub drive : ℕ → ℕ → Line
  pub near : ℕ → List ℕ
  pub gate : ℕ → End
  pub first : ℕ → End
  pub second : ℕ → End
  pub gate_grid : ℕ → List ℤ
  pub drain_grid : ℕ → List ℤ
  pub amps : ℕ → Cells → ℤ

-- ---- voltages, cells and currents

abbrev pub ground : Fraction
ground = record { num = pos 0; den = 1 }

-- the voltages of a driven node
abbrev pub driven_pair : Line → Fraction
driven_pair l = record { num = l.num; den = l.den }

-- the voltage of each end at a tick, where the free nodes have these pairs
abbrev pub volts : Net → (ℕ → ℕ → Fraction) → ℕ → End → Fraction
volts net x t None = ground
volts net x t (Some i) = if net.free i then x i t else driven_pair (net.drive i t)

-- the cells of a device at these voltages of ends
unfoldable pub cells_in : Net → (End → Fraction) → ℕ → Cells
cells_in net v k = (cell (net.gate_grid k) (difference (v (net.gate k)) (v (net.second k))), cell (net.drain_grid k) (difference (v (net.first k)) (v (net.second k))))

-- an end leads to this node
abbrev pub leads_to : ℕ → End → Bool
leads_to i None = false
leads_to i (Some j) = i == j

-- what flows into a node through a device with this current
abbrev pub inflow : Net → ℕ → ℕ → ℤ → ℤ
inflow net i k amps = (if leads_to i (net.second k) then amps else pos 0) -ℤ (if leads_to i (net.first k) then amps else pos 0)

-- what flows into a node through the first n devices, with these currents
abbrev pub inflows : Net → ℕ → (ℕ → ℤ) → ℕ → ℤ
inflows net i amps zero = pos 0
inflows net i amps (suc k) = inflows net i amps k +ℤ inflow net i k (amps k)

-- what flows into a node at a tick, where the free nodes have these pairs
abbrev pub current_at : Net → (ℕ → ℕ → Fraction) → ℕ → ℕ → ℤ
current_at net x t i = inflows net i (λ k. net.amps k (cells_in net (volts net x t) k)) net.devices

-- ---- what is true of a circuit

-- an end leads to ground, or to a node that is free or driven
abbrev pub IsKnown : Net → End → Type 0
IsKnown net None = Unit {0}
IsKnown net (Some i) = (i < net.nodes) × ((net.free i ≡ true) ⊎ (net.driven i ≡ true))

-- an end of the device is at the node
abbrev pub IsAt : Net → ℕ → ℕ → Type 0
IsAt net k i = (net.first k ≡ Some i) ⊎ ((net.second k ≡ Some i) ⊎ (net.gate k ≡ Some i))

pub record IsNet (net : Net) : Type 0 where
  pub in_time : net.stop ≤ 10 ^ 10
  pub few : net.devices ≤ 100000
  pub short : net.nodes ≤ 2 ^ 32
  pub free_inside : (i : ℕ) → net.free i ≡ true → i < net.nodes
  pub gate : (k : ℕ) → k < net.devices → IsKnown net (net.gate k)
  pub first : (k : ℕ) → k < net.devices → IsKnown net (net.first k)
  pub second : (k : ℕ) → k < net.devices → IsKnown net (net.second k)
  pub near_inside : (i k : ℕ) → Contains (net.near i) k → k < net.devices
  pub covers : (i k : ℕ) → k < net.devices → IsAt net k i → Contains (net.near i) k
  pub apart : (i : ℕ) → net.driven i ≡ true → net.free i ≡ false
  pub held : (v : End → Fraction) (i : ℕ) → v None ≡ ground → net.free i ≡ true → unsigned_abs (inflows net i (λ k. net.amps k (cells_in net v k)) net.devices) ≤ 10 ^ 15
  pub small : (k : ℕ) (c : Cells) → k < net.devices → unsigned_abs (net.amps k c) ≤ 10 ^ 12

-- ---- a run from one tick to another

-- a pair after one tick more, in which this much flows in
abbrev pub charged : Fraction → ℤ → Fraction
charged v amps = record { num = v.num +ℤ amps; den = v.den }

-- from the one tick to the other each free node is charged with what flows in
abbrev pub IsRun : Net → (ℕ → ℕ → Fraction) → ℕ → ℕ → Type 0
IsRun net x from until = (i s : ℕ) → i < net.nodes → net.free i ≡ true → from ≤ s → s < until → x i (s + 1) ≡ charged (x i s) (current_at net x s i)

-- a device is in other cells than at the tick before
pub record Changes (net : Net) (x : ℕ → ℕ → Fraction) (t : ℕ) : Type 0 where
  pub device : ℕ
  pub inside : device < net.devices
  pub before : ℕ
  pub next : t ≡ before + 1
  pub other : cells_in net (volts net x t) device ≡ cells_in net (volts net x before) device → ⊥

-- a driven node's line is not that of the tick before
pub record Bends (net : Net) (t : ℕ) : Type 0 where
  pub node : ℕ
  pub is_driven : net.driven node ≡ true
  pub before : ℕ
  pub next : t ≡ before + 1
  pub other : net.drive node t ≡ turned (net.drive node before) t (net.drive node before).rate → ⊥

-- a tick at which a window has something to do
abbrev pub IsEventTick : Net → (ℕ → ℕ → Fraction) → ℕ → ℕ → Type 0
IsEventTick net x from t = (t ≡ from) ⊎ ((from < t) × (Changes net x t ⊎ Bends net t))

-- there are this many event ticks below a tick, none before `from`
abbrev pub HasEventTicks : Net → (ℕ → ℕ → Fraction) → ℕ → ℕ → ℕ → Type 0
HasEventTicks net x from zero below = Unit {0}
HasEventTicks net x from (suc n) below = (t : ℕ) × (t < below) × IsEventTick net x from t × HasEventTicks net x from n t
