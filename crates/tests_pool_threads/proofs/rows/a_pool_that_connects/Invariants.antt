use Rattle.std.proofs.Common.{false}
use Rattle.tests_pool_threads.proofs.rows.a_pool_that_connects.Given as goal

abbrev pub ghosts-counts_first-H-Ledger : goal.ghosts-counts_first-H-Ledger
ghosts-counts_first-H-Ledger g a = record { name = a.blanks.held.name; parts = a.blanks.held.parts }

abbrev pub ghosts-counts_first-L-Ledger : goal.ghosts-counts_first-L-Ledger
ghosts-counts_first-L-Ledger g a = record { name = a.blanks.loans.name; parts = a.blanks.loans.parts }

abbrev pub ghosts-counts_first-L-Loans : goal.ghosts-counts_first-L-Loans
ghosts-counts_first-L-Loans g a = record { max = 3; cuts = false }

abbrev pub ghosts-counts_first-L-Naming : goal.ghosts-counts_first-L-Naming
ghosts-counts_first-L-Naming g a = record { book = a.blanks.opened.seen.book }
