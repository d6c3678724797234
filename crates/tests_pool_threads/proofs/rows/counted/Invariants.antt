use Rattle.std.proofs.Common.{false}
use Rattle.tests_pool_threads.proofs.rows.counted.Given as goal

abbrev pub ghosts-counts-H-Ledger : goal.ghosts-counts-H-Ledger
ghosts-counts-H-Ledger g a = record { name = a.blanks.held.name; parts = a.blanks.held.parts }

abbrev pub ghosts-counts-L-Ledger : goal.ghosts-counts-L-Ledger
ghosts-counts-L-Ledger g a = record { name = a.blanks.loans.name; parts = a.blanks.loans.parts }

abbrev pub ghosts-counts-L-Loans : goal.ghosts-counts-L-Loans
ghosts-counts-L-Loans g a = record { max = 1; cuts = false }

abbrev pub ghosts-counts-L-Naming : goal.ghosts-counts-L-Naming
ghosts-counts-L-Naming g a = record { book = a.blanks.opened.seen.book }
