use Rattle.std.proofs.lemmas.Bool.{false≢true}
use Rattle.deck_reader.proofs.TableLemmas.{is_few}
use Rattle.deck_reader.proofs.table.grid_of.Goals as goal

pub of_list-requires : goal.of_list-requires
of_list-requires c = is_few c.args.thresholds.items c.requires

pub unreachable-requires : goal.unreachable-requires
unreachable-requires c = false≢true (c.in-Err.ensures.valid.1 c.requires)
