use Rattle.mem_store.proofs.store.MemStore.do_act.Given as goal

abbrev pub ghosts-uncounted_level : goal.ghosts-uncounted_level
ghosts-uncounted_level a = record { name = a.blank.name; parts = a.blank.parts }
