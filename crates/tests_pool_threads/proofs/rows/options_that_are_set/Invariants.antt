use Rattle.std.proofs.Common.{false}
use Rattle.tests_pool_threads.proofs.rows.options_that_are_set.Given as goal

abbrev pub ghosts-sets_options-H-Ledger : goal.ghosts-sets_options-H-Ledger
ghosts-sets_options-H-Ledger g a = record { name = a.blanks.held.name; parts = a.blanks.held.parts }

abbrev pub ghosts-sets_options-L-Ledger : goal.ghosts-sets_options-L-Ledger
ghosts-sets_options-L-Ledger g a = record { name = a.blanks.loans.name; parts = a.blanks.loans.parts }

abbrev pub ghosts-sets_options-L-Loans : goal.ghosts-sets_options-L-Loans
ghosts-sets_options-L-Loans g a = record { max = 1; cuts = false }

abbrev pub ghosts-sets_options-L-Naming : goal.ghosts-sets_options-L-Naming
ghosts-sets_options-L-Naming g a = record { book = a.blanks.opened.seen.book }
