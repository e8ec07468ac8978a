use Rattle.board_core.proofs.board.Board.settle.Given as goal

abbrev pub ghosts-version_of : goal.ghosts-version_of
ghosts-version_of a = record { name = a.blank.name; parts = a.blank.parts }
