use Rattle.std.proofs.Common.{true}
use Rattle.tests_families.proofs.cuts.a_root_that_cuts_its_log.Given as goal

abbrev pub ghosts-by_itself-H-Ledger : goal.ghosts-by_itself-H-Ledger
ghosts-by_itself-H-Ledger g a = record { name = a.blanks.held.name; parts = a.blanks.held.parts }

abbrev pub ghosts-by_itself-L-Ledger : goal.ghosts-by_itself-L-Ledger
ghosts-by_itself-L-Ledger g a = record { name = a.blanks.loans.name; parts = a.blanks.loans.parts }

abbrev pub ghosts-by_itself-L-Loans : goal.ghosts-by_itself-L-Loans
ghosts-by_itself-L-Loans g a = record { max = 2; cuts = true }

abbrev pub ghosts-by_itself-L-Naming : goal.ghosts-by_itself-L-Naming
ghosts-by_itself-L-Naming g a = record { book = a.blanks.opened.seen.book }
