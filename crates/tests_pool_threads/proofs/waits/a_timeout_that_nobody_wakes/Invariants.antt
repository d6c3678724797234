use Rattle.std.proofs.Common.{false}
use Rattle.tests_pool_threads.proofs.waits.a_timeout_that_nobody_wakes.Given as goal

abbrev pub ghosts-waits_out-H-Ledger : goal.ghosts-waits_out-H-Ledger
ghosts-waits_out-H-Ledger g a = record { name = a.blanks.held.name; parts = a.blanks.held.parts }

abbrev pub ghosts-waits_out-L-Ledger : goal.ghosts-waits_out-L-Ledger
ghosts-waits_out-L-Ledger g a = record { name = a.blanks.loans.name; parts = a.blanks.loans.parts }

abbrev pub ghosts-waits_out-L-Loans : goal.ghosts-waits_out-L-Loans
ghosts-waits_out-L-Loans g a = record { max = 1; cuts = false }

abbrev pub ghosts-waits_out-L-Naming : goal.ghosts-waits_out-L-Naming
ghosts-waits_out-L-Naming g a = record { book = a.blanks.opened.seen.book }
