use Rattle.std.proofs.Common.{◌∙◌, sym, arith}
use Rattle.deck_reader.proofs.TableLemmas.{rising-few}
use Rattle.deck_reader.proofs.table.are_rising.Goals as goal

pub returns : goal.returns
returns c = rising-few c.loop-left.left.now (omega (arith, c.in_default.len_below)) ∙ sym c.loop-left.invariant
