use Rattle.tests_driver.proofs.undo.what_a_rollback_undoes.Given as goal

abbrev pub ghosts-played : goal.ghosts-played
ghosts-played g a = record { name = a.blank.name; parts = a.blank.parts }
