-- What a grid and a table keep, and the lists that it stands for.
use Rattle.std.specs.Prelude.{ℤ, nat_le, Bool, ◌&&◌, List}
use Rattle.semantics.specs.Grid.{uniform}
use Rattle.semantics.specs.Part as part
use Rattle.semantics.specs.Valid.{some_grain, is_grid, is_part}
use Rattle.device_tables.specs.Table.{TableValue}
use Rattle.device_tables.specs.Level.{table_of_level}
use Rattle.device_tables.specs.declared.grid.Thresholds.{Thresholds}
use Rattle.device_tables.specs.declared.grid.Thresholds.TheVariants as kept
use Rattle.device_tables.specs.declared.table.Entries.{Entries}
use Rattle.device_tables.specs.declared.table.Entries.TheVariants as entries

abbrev pub thresholds_of : Thresholds → List ℤ
thresholds_of (kept.Uniform grain half) = uniform grain half
thresholds_of (kept.Listed thresholds) = thresholds.items

abbrev pub is_kept : Thresholds → Bool
is_kept (kept.Uniform grain half) = some_grain grain && (nat_le 1 half && nat_le half 4096)
is_kept (kept.Listed thresholds) = is_grid thresholds.items

abbrev pub table_of : Entries → TableValue
table_of (entries.Listed gate drain amps) = record { gate = gate; drain = drain; amps = amps.items }
table_of (entries.Level level) = table_of_level level

-- its grids are grids, and it has a current of at most 1 A in size for each pair of cells
abbrev pub is_table : TableValue → Bool
is_table t = is_part (part.Listed t.gate t.drain t.amps)
