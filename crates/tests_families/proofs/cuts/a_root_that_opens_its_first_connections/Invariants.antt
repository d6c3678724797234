use Rattle.std.proofs.Common.{false}
use Rattle.tests_families.proofs.cuts.a_root_that_opens_its_first_connections.Given as goal

abbrev pub ghosts-first_ones-H-Ledger : goal.ghosts-first_ones-H-Ledger
ghosts-first_ones-H-Ledger g a = record { name = a.blanks.held.name; parts = a.blanks.held.parts }

abbrev pub ghosts-first_ones-L-Ledger : goal.ghosts-first_ones-L-Ledger
ghosts-first_ones-L-Ledger g a = record { name = a.blanks.loans.name; parts = a.blanks.loans.parts }

abbrev pub ghosts-first_ones-L-Loans : goal.ghosts-first_ones-L-Loans
ghosts-first_ones-L-Loans g a = record { max = 3; cuts = false }

abbrev pub ghosts-first_ones-L-Naming : goal.ghosts-first_ones-L-Naming
ghosts-first_ones-L-Naming g a = record { book = a.blanks.opened.seen.book }
