-- What a model or a table says of a device: its two grids and its current in each pair of cells.
use Rattle.std.specs.Prelude.{ℕ, ◌+◌, ◌*◌, ◌^◌, ℤ, pos, negsuc, ◌-ℤ◌, ◌*ℤ◌, neg_ℤ, int_lt, int_le, int_div, if◌then◌else◌, List, length, slice_index_or}
use Rattle.std.specs.Int.{int_min, int_max}
use Rattle.semantics.specs.declared.channel.Channel.{Channel}
use Rattle.semantics.specs.declared.channel.Channel.TheVariants.{N, P}
use Rattle.semantics.specs.Grid.{uniform}

-- a level 1 model, by its channel, threshold voltage and gain; or the thresholds of gate and drain and the currents, by gate cell and within it by drain cell
pub data Part : Type 0 where
  Level : Channel → ℤ → ℤ → Part
  Listed : List ℤ → List ℤ → List ℤ → Part

-- a current is cut to one ampere in size
abbrev pub capped : ℤ → ℤ
capped amps = int_max (int_min amps (pos (10 ^ 12))) (negsuc 999999999999)

-- ---- level 1

-- twice the drain factor, where the drain is not below the source: off, linear and saturated
abbrev pub square_law : ℤ → ℤ → ℤ
square_law vov vds =
    if int_le vov (pos 0) then pos 0
    else if int_lt vds vov then ((pos 2 *ℤ vov) *ℤ vds) -ℤ (vds *ℤ vds) else vov *ℤ vov

-- the current out of the drain where the drain is not below the source, towards zero
abbrev pub forward : ℤ → ℤ → ℤ → ℤ → ℤ → ℤ → ℤ
forward vto kp width len vgs vds = capped (int_div ((kp *ℤ width) *ℤ square_law (vgs -ℤ vto) vds) (len *ℤ pos (2 * 10 ^ 12)))

-- drain and source change places where the drain is below the source
abbrev pub n_current : ℤ → ℤ → ℤ → ℤ → ℤ → ℤ → ℤ
n_current vto kp width len vgs vds =
    if int_le (pos 0) vds then forward vto kp width len vgs vds else neg_ℤ (forward vto kp width len (vgs -ℤ vds) (neg_ℤ vds))

-- a p-channel device is an n-channel device with every voltage and the current negated
abbrev pub channel_current : Channel → ℤ → ℤ → ℤ → ℤ → ℤ → ℤ → ℤ
channel_current N vto kp width len vgs vds = n_current vto kp width len vgs vds
channel_current P vto kp width len vgs vds = neg_ℤ (n_current (neg_ℤ vto) kp width len (neg_ℤ vgs) (neg_ℤ vds))

-- the voltage at the middle of a cell of a level 1 grid
abbrev pub middle : ℕ → ℕ → ℤ
middle grain c = (pos c -ℤ pos 128) *ℤ pos grain

-- ---- any part

abbrev pub gate_grid : ℕ → Part → List ℤ
gate_grid grain (Level channel vto kp) = uniform grain 128
gate_grid grain (Listed gate drain amps) = gate

abbrev pub drain_grid : ℕ → Part → List ℤ
drain_grid grain (Level channel vto kp) = uniform grain 128
drain_grid grain (Listed gate drain amps) = drain

-- the entry of a table in these cells
abbrev pub listed_current : List ℤ → List ℤ → ℕ → ℕ → ℤ
listed_current drain amps g d = slice_index_or amps (g * (length drain + 1) + d) (pos 0)

-- the current out of the drain into the source in these cells, for a device of this width and length
unfoldable pub part_current : ℕ → Part → ℤ → ℤ → ℕ → ℕ → ℤ
part_current grain (Level channel vto kp) width len g d = channel_current channel vto kp width len (middle grain g) (middle grain d)
part_current grain (Listed gate drain amps) width len g d = listed_current drain amps g d
