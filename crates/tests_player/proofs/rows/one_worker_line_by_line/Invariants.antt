use Rattle.std.proofs.Common.{false}
use Rattle.tests_player.proofs.rows.one_worker_line_by_line.Given as goal

abbrev pub ghosts-alone-H-Ledger : goal.ghosts-alone-H-Ledger
ghosts-alone-H-Ledger g a = record { name = a.blanks.held.name; parts = a.blanks.held.parts }

abbrev pub ghosts-alone-L-Ledger : goal.ghosts-alone-L-Ledger
ghosts-alone-L-Ledger g a = record { name = a.blanks.loans.name; parts = a.blanks.loans.parts }

abbrev pub ghosts-alone-L-Loans : goal.ghosts-alone-L-Loans
ghosts-alone-L-Loans g a = record { max = 1; cuts = false }

abbrev pub ghosts-alone-L-Naming : goal.ghosts-alone-L-Naming
ghosts-alone-L-Naming g a = record { book = a.blanks.opened.seen.book }
