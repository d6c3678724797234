use Rattle.std.proofs.Common.{false}
use Rattle.tests_pool_threads.proofs.closes.closed_in.Given as goal

abbrev pub ghosts-closed_in_one-H-Ledger : goal.ghosts-closed_in_one-H-Ledger
ghosts-closed_in_one-H-Ledger g a = record { name = a.blanks.held.name; parts = a.blanks.held.parts }

abbrev pub ghosts-closed_in_one-L-Ledger : goal.ghosts-closed_in_one-L-Ledger
ghosts-closed_in_one-L-Ledger g a = record { name = a.blanks.loans.name; parts = a.blanks.loans.parts }

abbrev pub ghosts-closed_in_one-L-Loans : goal.ghosts-closed_in_one-L-Loans
ghosts-closed_in_one-L-Loans g a = record { max = 1; cuts = false }

abbrev pub ghosts-closed_in_one-L-Naming : goal.ghosts-closed_in_one-L-Naming
ghosts-closed_in_one-L-Naming g a = record { book = a.blanks.opened.seen.book }
