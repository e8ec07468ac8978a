-- The table of a level 1 model, for a device of one width and length.
use Rattle.std.specs.Prelude.{◌≡◌, ℕ, ◌≤◌, ◌*◌, ◌^◌, ℤ, unsigned_abs, List, map, IsTrue}
use Rattle.std.specs.List.{flat_map, range_with_len}
use Rattle.semantics.specs.declared.channel.Channel.{Channel}
use Rattle.semantics.specs.Grid.{uniform}
use Rattle.semantics.specs.Part.{Part, Level, Listed, part_current}
use Rattle.semantics.specs.Valid.{small_vto, some_gain, some_metres, some_grain}
use Rattle.device_tables.specs.Table.{TableValue}
use Rattle.device_tables.specs.declared.ratio.Ratio.{Ratio}

-- the currents by gate cell, and within it by drain cell
unfoldable pub by_cells : ℕ → ℕ → (ℕ → ℕ → ℤ) → List ℤ
by_cells gates drains current = flat_map (λ g. map (current g) (range_with_len 0 drains)) (range_with_len 0 gates)

-- both grids are uniform, and each current is that of the middles of its cells
unfoldable pub level_table : Channel → ℤ → ℤ → ℤ → ℤ → ℕ → TableValue
level_table channel vto kp width len grain = record {
  gate = uniform grain 128;
  drain = uniform grain 128;
  amps = by_cells 257 257 (part_current grain (Level channel vto kp) width len);
}

-- the table of a part for a device of this width and length
abbrev pub part_table : ℕ → Part → ℤ → ℤ → TableValue
part_table grain (Level channel vto kp) width len = level_table channel vto kp width len grain
part_table grain (Listed gate drain amps) width len = record { gate = gate; drain = drain; amps = amps }

-- ---- what is kept of it

-- what it was made of
pub record LevelValue : Type 0 where
  pub channel : Channel
  pub vto : ℤ
  pub kp : ℤ
  pub width : ℤ
  pub len : ℤ
  pub grain : ℕ

abbrev pub table_of_level : LevelValue → TableValue
table_of_level l = level_table l.channel l.vto l.kp l.width l.len l.grain

-- the fraction is kp · width / (len · 2 · 10^12)
pub record IsRatio (r : Ratio) (kp width len : ℕ) : Type 0 where
  pub same : r.over * (len * (2 * 10 ^ 12)) ≡ kp * width * r.under
  pub small : r.over ≤ 10 ^ 20
  pub positive : 1 ≤ r.under

-- the values are in their limits, and the grid and the fraction are theirs
pub record IsLevel (vto kp width len : ℤ) (grain : ℕ) (grid : List ℤ) (gain : Ratio) : Type 0 where
  pub vto_small : IsTrue (small_vto vto)
  pub kp_some : IsTrue (some_gain kp)
  pub width_some : IsTrue (some_metres width)
  pub len_some : IsTrue (some_metres len)
  pub grain_some : IsTrue (some_grain grain)
  pub grid_is : grid ≡ uniform grain 128
  pub gain_is : IsRatio gain (unsigned_abs kp) (unsigned_abs width) (unsigned_abs len)
