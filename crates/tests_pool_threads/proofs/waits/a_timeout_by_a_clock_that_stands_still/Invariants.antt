use Rattle.std.proofs.Common.{false}
use Rattle.tests_pool_threads.proofs.waits.a_timeout_by_a_clock_that_stands_still.Given as goal

abbrev pub ghosts-times_out-H-Ledger : goal.ghosts-times_out-H-Ledger
ghosts-times_out-H-Ledger g a = record { name = a.blanks.held.name; parts = a.blanks.held.parts }

abbrev pub ghosts-times_out-L-Ledger : goal.ghosts-times_out-L-Ledger
ghosts-times_out-L-Ledger g a = record { name = a.blanks.loans.name; parts = a.blanks.loans.parts }

abbrev pub ghosts-times_out-L-Loans : goal.ghosts-times_out-L-Loans
ghosts-times_out-L-Loans g a = record { max = 1; cuts = false }

abbrev pub ghosts-times_out-L-Naming : goal.ghosts-times_out-L-Naming
ghosts-times_out-L-Naming g a = record { book = a.blanks.opened.seen.book }
