-- A level 1 model's current is the entry of its table.
use Rattle.std.proofs.Common.{rules, FitsSigned, w64, ◌∙◌}
use Rattle.std.proofs.lemmas.Int.{to_z-of_z}
use Rattle.device_tables.proofs.Levels.{level_entry}
use Rattle.device_tables.proofs.table.Table.current.Goals as goal

pub returns-in-Level-clause-value : goal.returns-in-Level-clause-value
returns-in-Level-clause-value c =
    let fits : FitsSigned w64 c.current.result = search rules in
    to_z-of_z w64 c.current.result fits
    ∙ level_entry c.in-Level.level c.args.self.now c.args.gate_cell c.args.drain_cell c.current.result (rw c.in-Level.is at c.self.view_is) c.requires.gate c.requires.drain c.current.ensures.value
