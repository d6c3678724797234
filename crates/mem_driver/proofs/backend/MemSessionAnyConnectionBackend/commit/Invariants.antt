use Rattle.mem_driver.proofs.backend.MemSessionAnyConnectionBackend.commit.Given as goal

abbrev pub ghosts-commit : goal.ghosts-commit
ghosts-commit a = record { name = a.blank.name; parts = a.blank.parts }
