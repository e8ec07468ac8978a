use Rattle.wave_shell.proofs.run.run_text.Given as goal

abbrev pub ghosts-event_text : goal.ghosts-event_text
ghosts-event_text a = record { name = a.blank.name; parts = a.blank.parts }
