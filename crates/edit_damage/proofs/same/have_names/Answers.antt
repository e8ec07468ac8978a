-- A valid deck has no name twice.
use Rattle.edit_damage.proofs.Alike.{names_differ}
use Rattle.edit_damage.proofs.same.have_names.Goals as goal

pub returns : goal.returns
returns c = names_differ c.args.deck.now c.stop.ensures.valid
