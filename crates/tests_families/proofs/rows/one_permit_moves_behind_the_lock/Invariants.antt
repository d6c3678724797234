use Rattle.std.proofs.Common.{false}
use Rattle.tests_families.proofs.rows.one_permit_moves_behind_the_lock.Given as goal

abbrev pub ghosts-one_permit-H-Ledger : goal.ghosts-one_permit-H-Ledger
ghosts-one_permit-H-Ledger g a = record { name = a.held.name; parts = a.held.parts }

abbrev pub ghosts-one_permit-L-Ledger : goal.ghosts-one_permit-L-Ledger
ghosts-one_permit-L-Ledger g a = record { name = a.loans.name; parts = a.loans.parts }

abbrev pub ghosts-one_permit-L-Loans : goal.ghosts-one_permit-L-Loans
ghosts-one_permit-L-Loans g a = record { max = 2; cuts = false }

-- no history stands beside the value
abbrev pub ghosts-one_permit-L-Naming : goal.ghosts-one_permit-L-Naming
ghosts-one_permit-L-Naming g a = record { book = record { number = 0; log_name = 0; cells_name = 0 } }
