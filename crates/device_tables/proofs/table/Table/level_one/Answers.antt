-- The limits of a level 1 model make its table valid.
use Rattle.std.proofs.Common.{ap}
use Rattle.device_tables.specs.Level.{LevelValue}
use Rattle.device_tables.proofs.Levels.{level_is_part}
use Rattle.device_tables.proofs.table.Table.level_one.Goals as goal

pub invariant_of-result : goal.invariant_of-result
invariant_of-result c =
    let l : LevelValue = c.new.result in
    level_is_part l.channel l.vto l.kp l.width l.len l.grain (rw (ap (λ (m : LevelValue). m.grain) c.new.ensures) c.requires.grain)
