use Rattle.std.proofs.Common.{false}
use Rattle.tests_families.proofs.fronts.what_a_front_sees_of_a_child.Given as goal

abbrev pub ghosts-fronts-H-Ledger : goal.ghosts-fronts-H-Ledger
ghosts-fronts-H-Ledger g a = record { name = a.blanks.held.name; parts = a.blanks.held.parts }

abbrev pub ghosts-fronts-L-Ledger : goal.ghosts-fronts-L-Ledger
ghosts-fronts-L-Ledger g a = record { name = a.blanks.loans.name; parts = a.blanks.loans.parts }

abbrev pub ghosts-fronts-L-Loans : goal.ghosts-fronts-L-Loans
ghosts-fronts-L-Loans g a = record { max = 2; cuts = false }

abbrev pub ghosts-fronts-L-Naming : goal.ghosts-fronts-L-Naming
ghosts-fronts-L-Naming g a = record { book = a.blanks.opened.seen.book }
