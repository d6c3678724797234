use Rattle.std.proofs.Common.{false}
use Rattle.tests_families.proofs.waits.woken_by.Given as goal

abbrev pub ghosts-woken-H-Ledger : goal.ghosts-woken-H-Ledger
ghosts-woken-H-Ledger g a = record { name = a.blanks.held.name; parts = a.blanks.held.parts }

abbrev pub ghosts-woken-L-Ledger : goal.ghosts-woken-L-Ledger
ghosts-woken-L-Ledger g a = record { name = a.blanks.loans.name; parts = a.blanks.loans.parts }

abbrev pub ghosts-woken-L-Loans : goal.ghosts-woken-L-Loans
ghosts-woken-L-Loans g a = record { max = 1; cuts = false }

abbrev pub ghosts-woken-L-Naming : goal.ghosts-woken-L-Naming
ghosts-woken-L-Naming g a = record { book = a.blanks.opened.seen.book }
