-- Both grids of a level 1 model are one.
use Rattle.std.proofs.Common.{sym, ◌∙◌}
use Rattle.device_tables.proofs.Levels.{level_drain}
use Rattle.device_tables.proofs.table.Table.drain.Goals as goal

pub returns-in-Level-clause-grid : goal.returns-in-Level-clause-grid
returns-in-Level-clause-grid c =
    let l = c.in-Level.level in
    c.grid.ensures ∙ rw (← c.self.view_is, c.in-Level.is) (sym (level_drain l.channel l.vto l.kp l.width l.len l.grain))
