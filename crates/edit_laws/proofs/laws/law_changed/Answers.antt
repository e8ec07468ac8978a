use Rattle.edit_laws.proofs.Edited.{goes, comes, changes}
use Rattle.edit_laws.proofs.Changed.{given_after, initial_after}
use Rattle.edit_laws.proofs.Kept.{keeps_ends}
use Rattle.edit_laws.proofs.laws.law_changed.Goals as goal

pub returns : goal.returns
returns c = record { goes = goes; comes = comes; changed = changes; set = keeps_ends; given = given_after; initial = initial_after }
