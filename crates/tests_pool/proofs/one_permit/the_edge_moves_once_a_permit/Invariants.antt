use Rattle.tests_pool.proofs.one_permit.the_edge_moves_once_a_permit.Given as goal

abbrev pub ghosts-play : goal.ghosts-play
ghosts-play g a = record { name = a.blank.name; parts = a.blank.parts }
