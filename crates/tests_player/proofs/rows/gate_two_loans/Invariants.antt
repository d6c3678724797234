use Rattle.std.proofs.Common.{false}
use Rattle.tests_player.proofs.rows.gate_two_loans.Given as goal

abbrev pub ghosts-two_loans-H-Ledger : goal.ghosts-two_loans-H-Ledger
ghosts-two_loans-H-Ledger g a = record { name = a.blanks.held.name; parts = a.blanks.held.parts }

abbrev pub ghosts-two_loans-L-Ledger : goal.ghosts-two_loans-L-Ledger
ghosts-two_loans-L-Ledger g a = record { name = a.blanks.loans.name; parts = a.blanks.loans.parts }

abbrev pub ghosts-two_loans-L-Loans : goal.ghosts-two_loans-L-Loans
ghosts-two_loans-L-Loans g a = record { max = 2; cuts = false }

abbrev pub ghosts-two_loans-L-Naming : goal.ghosts-two_loans-L-Naming
ghosts-two_loans-L-Naming g a = record { book = a.blanks.opened.seen.book }
