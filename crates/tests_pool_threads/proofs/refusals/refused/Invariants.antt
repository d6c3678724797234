use Rattle.std.proofs.Common.{false}
use Rattle.tests_pool_threads.proofs.refusals.refused.Given as goal

abbrev pub ghosts-refused_in-H-Ledger : goal.ghosts-refused_in-H-Ledger
ghosts-refused_in-H-Ledger g a = record { name = a.blanks.held.name; parts = a.blanks.held.parts }

abbrev pub ghosts-refused_in-L-Ledger : goal.ghosts-refused_in-L-Ledger
ghosts-refused_in-L-Ledger g a = record { name = a.blanks.loans.name; parts = a.blanks.loans.parts }

abbrev pub ghosts-refused_in-L-Loans : goal.ghosts-refused_in-L-Loans
ghosts-refused_in-L-Loans g a = record { max = a.options.max_connections; cuts = false }

abbrev pub ghosts-refused_in-L-Naming : goal.ghosts-refused_in-L-Naming
ghosts-refused_in-L-Naming g a = record { book = a.blanks.opened.seen.book }
