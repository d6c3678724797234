use Rattle.std.proofs.Common.{false}
use Rattle.tests_families.proofs.crowds.is_within.Given as goal

abbrev pub ghosts-crowd-H-Ledger : goal.ghosts-crowd-H-Ledger
ghosts-crowd-H-Ledger g a = record { name = a.blanks.held.name; parts = a.blanks.held.parts }

abbrev pub ghosts-crowd-L-Ledger : goal.ghosts-crowd-L-Ledger
ghosts-crowd-L-Ledger g a = record { name = a.blanks.loans.name; parts = a.blanks.loans.parts }

abbrev pub ghosts-crowd-L-Loans : goal.ghosts-crowd-L-Loans
ghosts-crowd-L-Loans g a = record { max = 3; cuts = false }

abbrev pub ghosts-crowd-L-Naming : goal.ghosts-crowd-L-Naming
ghosts-crowd-L-Naming g a = record { book = a.blanks.opened.seen.book }
