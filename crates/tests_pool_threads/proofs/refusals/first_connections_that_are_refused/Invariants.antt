use Rattle.std.proofs.Common.{false}
use Rattle.tests_pool_threads.proofs.refusals.first_connections_that_are_refused.Given as goal

abbrev pub ghosts-first_refused-H-Ledger : goal.ghosts-first_refused-H-Ledger
ghosts-first_refused-H-Ledger g a = record { name = a.blanks.held.name; parts = a.blanks.held.parts }

abbrev pub ghosts-first_refused-L-Ledger : goal.ghosts-first_refused-L-Ledger
ghosts-first_refused-L-Ledger g a = record { name = a.blanks.loans.name; parts = a.blanks.loans.parts }

abbrev pub ghosts-first_refused-L-Loans : goal.ghosts-first_refused-L-Loans
ghosts-first_refused-L-Loans g a = record { max = 3; cuts = false }

abbrev pub ghosts-first_refused-L-Naming : goal.ghosts-first_refused-L-Naming
ghosts-first_refused-L-Naming g a = record { book = a.blanks.opened.seen.book }
