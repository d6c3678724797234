use Rattle.std.proofs.Common.{true}
use Rattle.tests_families.proofs.cuts.logs_that_are_cut_after_each_loan.Given as goal

abbrev pub ghosts-a_hundred-H-Ledger : goal.ghosts-a_hundred-H-Ledger
ghosts-a_hundred-H-Ledger g a = record { name = a.blanks.held.name; parts = a.blanks.held.parts }

abbrev pub ghosts-a_hundred-L-Ledger : goal.ghosts-a_hundred-L-Ledger
ghosts-a_hundred-L-Ledger g a = record { name = a.blanks.loans.name; parts = a.blanks.loans.parts }

abbrev pub ghosts-a_hundred-L-Loans : goal.ghosts-a_hundred-L-Loans
ghosts-a_hundred-L-Loans g a = record { max = 2; cuts = true }

abbrev pub ghosts-a_hundred-L-Naming : goal.ghosts-a_hundred-L-Naming
ghosts-a_hundred-L-Naming g a = record { book = a.blanks.opened.seen.book }
