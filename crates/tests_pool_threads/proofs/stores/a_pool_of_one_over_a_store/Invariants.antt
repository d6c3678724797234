use Rattle.std.proofs.Common.{false}
use Rattle.tests_pool_threads.proofs.stores.a_pool_of_one_over_a_store.Given as goal

abbrev pub ghosts-way_of_a_store-H-Ledger : goal.ghosts-way_of_a_store-H-Ledger
ghosts-way_of_a_store-H-Ledger g a = record { name = a.blanks.held.name; parts = a.blanks.held.parts }

abbrev pub ghosts-way_of_a_store-L-Ledger : goal.ghosts-way_of_a_store-L-Ledger
ghosts-way_of_a_store-L-Ledger g a = record { name = a.blanks.loans.name; parts = a.blanks.loans.parts }

abbrev pub ghosts-way_of_a_store-L-Loans : goal.ghosts-way_of_a_store-L-Loans
ghosts-way_of_a_store-L-Loans g a = record { max = 1; cuts = false }

abbrev pub ghosts-way_of_a_store-L-Naming : goal.ghosts-way_of_a_store-L-Naming
ghosts-way_of_a_store-L-Naming g a = record { book = a.blanks.opened.seen.book }
