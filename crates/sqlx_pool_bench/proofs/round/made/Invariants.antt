use Rattle.std.proofs.Common.{true}
use Rattle.sqlx_pool_bench.proofs.round.made.Given as goal

abbrev pub ghosts-counted-H-Ledger : goal.ghosts-counted-H-Ledger
ghosts-counted-H-Ledger g a = record { name = a.blanks.held.name; parts = a.blanks.held.parts }

abbrev pub ghosts-counted-L-Ledger : goal.ghosts-counted-L-Ledger
ghosts-counted-L-Ledger g a = record { name = a.blanks.loans.name; parts = a.blanks.loans.parts }

-- the maximum of the words is that of the ledger, and the log may be cut
abbrev pub ghosts-counted-L-Loans : goal.ghosts-counted-L-Loans
ghosts-counted-L-Loans g a = record { max = a.words.maximum; cuts = true }

abbrev pub ghosts-counted-L-Naming : goal.ghosts-counted-L-Naming
ghosts-counted-L-Naming g a = record { book = a.blanks.opened.seen.book }
