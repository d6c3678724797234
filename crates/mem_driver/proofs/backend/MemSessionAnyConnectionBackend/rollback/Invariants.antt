use Rattle.mem_driver.proofs.backend.MemSessionAnyConnectionBackend.rollback.Given as goal

abbrev pub ghosts-roll_back : goal.ghosts-roll_back
ghosts-roll_back a = record { name = a.blank.name; parts = a.blank.parts }
