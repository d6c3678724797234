use Rattle.std.proofs.Common.{false}
use Rattle.tests_pool_threads.proofs.stores.tried.Given as goal

abbrev pub ghosts-over_a_store-H-Ledger : goal.ghosts-over_a_store-H-Ledger
ghosts-over_a_store-H-Ledger g a = record { name = a.blanks.held.name; parts = a.blanks.held.parts }

abbrev pub ghosts-over_a_store-L-Ledger : goal.ghosts-over_a_store-L-Ledger
ghosts-over_a_store-L-Ledger g a = record { name = a.blanks.loans.name; parts = a.blanks.loans.parts }

abbrev pub ghosts-over_a_store-L-Loans : goal.ghosts-over_a_store-L-Loans
ghosts-over_a_store-L-Loans g a = record { max = 10; cuts = false }

abbrev pub ghosts-over_a_store-L-Naming : goal.ghosts-over_a_store-L-Naming
ghosts-over_a_store-L-Naming g a = record { book = a.blanks.opened.seen.book }
