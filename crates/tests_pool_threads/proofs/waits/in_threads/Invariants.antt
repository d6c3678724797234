use Rattle.std.proofs.Common.{false}
use Rattle.tests_pool_threads.proofs.waits.in_threads.Given as goal

abbrev pub ghosts-two-H-Ledger : goal.ghosts-two-H-Ledger
ghosts-two-H-Ledger g a = record { name = a.blanks.held.name; parts = a.blanks.held.parts }

abbrev pub ghosts-two-L-Ledger : goal.ghosts-two-L-Ledger
ghosts-two-L-Ledger g a = record { name = a.blanks.loans.name; parts = a.blanks.loans.parts }

abbrev pub ghosts-two-L-Loans : goal.ghosts-two-L-Loans
ghosts-two-L-Loans g a = record { max = a.max; cuts = false }

abbrev pub ghosts-two-L-Naming : goal.ghosts-two-L-Naming
ghosts-two-L-Naming g a = record { book = a.blanks.opened.seen.book }
