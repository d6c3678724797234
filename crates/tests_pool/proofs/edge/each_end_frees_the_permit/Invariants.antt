use Rattle.tests_pool.proofs.edge.each_end_frees_the_permit.Given as goal

abbrev pub ghosts-freed : goal.ghosts-freed
ghosts-freed g a = record { name = a.blank.name; parts = a.blank.parts }
