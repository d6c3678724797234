use Rattle.mem_store.proofs.store.MemStore.roll_back.Given as goal

abbrev pub ghosts-uncounted_rollback : goal.ghosts-uncounted_rollback
ghosts-uncounted_rollback a = record { name = a.blank.name; parts = a.blank.parts }
