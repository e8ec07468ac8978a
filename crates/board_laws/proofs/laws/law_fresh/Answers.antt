use Rattle.board_laws.proofs.Fresh.{fresh}
use Rattle.board_laws.proofs.laws.law_fresh.Goals as goal

pub returns : goal.returns
returns c = fresh
