use Rattle.std.proofs.Common.{false}
use Rattle.tests_families.proofs.begins.levels_on_a_child_of_a_root.Given as goal

abbrev pub ghosts-begins-H-Ledger : goal.ghosts-begins-H-Ledger
ghosts-begins-H-Ledger g a = record { name = a.blanks.held.name; parts = a.blanks.held.parts }

abbrev pub ghosts-begins-L-Ledger : goal.ghosts-begins-L-Ledger
ghosts-begins-L-Ledger g a = record { name = a.blanks.loans.name; parts = a.blanks.loans.parts }

abbrev pub ghosts-begins-L-Loans : goal.ghosts-begins-L-Loans
ghosts-begins-L-Loans g a = record { max = 2; cuts = false }

abbrev pub ghosts-begins-L-Naming : goal.ghosts-begins-L-Naming
ghosts-begins-L-Naming g a = record { book = a.blanks.opened.seen.book }
