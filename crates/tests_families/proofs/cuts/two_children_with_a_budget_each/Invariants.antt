use Rattle.std.proofs.Common.{false}
use Rattle.tests_families.proofs.cuts.two_children_with_a_budget_each.Given as goal

abbrev pub ghosts-budgets-H-Ledger : goal.ghosts-budgets-H-Ledger
ghosts-budgets-H-Ledger g a = record { name = a.blanks.held.name; parts = a.blanks.held.parts }

abbrev pub ghosts-budgets-L-Ledger : goal.ghosts-budgets-L-Ledger
ghosts-budgets-L-Ledger g a = record { name = a.blanks.loans.name; parts = a.blanks.loans.parts }

abbrev pub ghosts-budgets-L-Loans : goal.ghosts-budgets-L-Loans
ghosts-budgets-L-Loans g a = record { max = 3; cuts = false }

abbrev pub ghosts-budgets-L-Naming : goal.ghosts-budgets-L-Naming
ghosts-budgets-L-Naming g a = record { book = a.blanks.opened.seen.book }
