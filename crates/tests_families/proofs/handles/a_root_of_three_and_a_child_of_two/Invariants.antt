use Rattle.std.proofs.Common.{false}
use Rattle.tests_families.proofs.handles.a_root_of_three_and_a_child_of_two.Given as goal

abbrev pub ghosts-family-H-Ledger : goal.ghosts-family-H-Ledger
ghosts-family-H-Ledger g a = record { name = a.blanks.held.name; parts = a.blanks.held.parts }

abbrev pub ghosts-family-L-Ledger : goal.ghosts-family-L-Ledger
ghosts-family-L-Ledger g a = record { name = a.blanks.loans.name; parts = a.blanks.loans.parts }

abbrev pub ghosts-family-L-Loans : goal.ghosts-family-L-Loans
ghosts-family-L-Loans g a = record { max = 3; cuts = false }

abbrev pub ghosts-family-L-Naming : goal.ghosts-family-L-Naming
ghosts-family-L-Naming g a = record { book = a.blanks.opened.seen.book }
