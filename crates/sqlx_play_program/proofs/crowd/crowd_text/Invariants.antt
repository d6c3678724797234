use Rattle.std.proofs.Common.{false}
use Rattle.sqlx_play_program.proofs.crowd.crowd_text.Given as goal

abbrev pub ghosts-counted_crowd-H-Ledger : goal.ghosts-counted_crowd-H-Ledger
ghosts-counted_crowd-H-Ledger g a = record { name = a.blanks.held.name; parts = a.blanks.held.parts }

abbrev pub ghosts-counted_crowd-L-Ledger : goal.ghosts-counted_crowd-L-Ledger
ghosts-counted_crowd-L-Ledger g a = record { name = a.blanks.loans.name; parts = a.blanks.loans.parts }

-- the maximum of the words is that of the ledger
abbrev pub ghosts-counted_crowd-L-Loans : goal.ghosts-counted_crowd-L-Loans
ghosts-counted_crowd-L-Loans g a = record { max = a.maximum; cuts = false }

abbrev pub ghosts-counted_crowd-L-Naming : goal.ghosts-counted_crowd-L-Naming
ghosts-counted_crowd-L-Naming g a = record { book = a.blanks.opened.seen.book }
