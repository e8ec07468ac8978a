use Rattle.histories.proofs.tests.pieces.Given as goal

abbrev pub ghosts-risen : goal.ghosts-risen
ghosts-risen g a = record { name = a.blank.name; parts = a.blank.parts }
