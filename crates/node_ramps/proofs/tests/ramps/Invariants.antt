use Rattle.node_ramps.proofs.tests.ramps.Given as goal

abbrev pub ghosts-makes : goal.ghosts-makes
ghosts-makes g a = record { name = a.blank.name; parts = a.blank.parts }
