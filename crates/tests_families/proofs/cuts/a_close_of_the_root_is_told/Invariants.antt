use Rattle.std.proofs.Common.{false}
use Rattle.tests_families.proofs.cuts.a_close_of_the_root_is_told.Given as goal

abbrev pub ghosts-told_of-H-Ledger : goal.ghosts-told_of-H-Ledger
ghosts-told_of-H-Ledger g a = record { name = a.blanks.held.name; parts = a.blanks.held.parts }

abbrev pub ghosts-told_of-L-Ledger : goal.ghosts-told_of-L-Ledger
ghosts-told_of-L-Ledger g a = record { name = a.blanks.loans.name; parts = a.blanks.loans.parts }

abbrev pub ghosts-told_of-L-Loans : goal.ghosts-told_of-L-Loans
ghosts-told_of-L-Loans g a = record { max = 2; cuts = false }

abbrev pub ghosts-told_of-L-Naming : goal.ghosts-told_of-L-Naming
ghosts-told_of-L-Naming g a = record { book = a.blanks.opened.seen.book }
