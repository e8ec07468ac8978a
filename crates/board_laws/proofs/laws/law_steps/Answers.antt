use Rattle.board_laws.proofs.Steps.{commits, edits, gives_up, refuses, takes}
use Rattle.board_laws.proofs.laws.law_steps.Goals as goal

pub returns : goal.returns
returns c = record { edits = edits; refuses = refuses; takes = takes; commits = commits; gives_up = gives_up }
