use Rattle.std.proofs.Common.{true}
use Rattle.notes_main.proofs.main.Given as goal

abbrev pub ghosts-write_and_read-H-Ledger : goal.ghosts-write_and_read-H-Ledger
ghosts-write_and_read-H-Ledger g a = record { name = a.blanks.held.name; parts = a.blanks.held.parts }

abbrev pub ghosts-write_and_read-L-Ledger : goal.ghosts-write_and_read-L-Ledger
ghosts-write_and_read-L-Ledger g a = record { name = a.blanks.loans.name; parts = a.blanks.loans.parts }

-- the pool has one connection, and its log may be cut
abbrev pub ghosts-write_and_read-L-Loans : goal.ghosts-write_and_read-L-Loans
ghosts-write_and_read-L-Loans g a = record { max = 1; cuts = true }

abbrev pub ghosts-write_and_read-L-Naming : goal.ghosts-write_and_read-L-Naming
ghosts-write_and_read-L-Naming g a = record { book = a.blanks.opened.seen.book }
