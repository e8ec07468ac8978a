use Rattle.board_laws.proofs.Steps.{repaired_run, valid_deck}
use Rattle.board_laws.proofs.laws.law_settled.Goals as goal

pub returns : goal.returns
returns c = record { valid = valid_deck; run = repaired_run }
