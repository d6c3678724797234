use Rattle.std.proofs.Common.{false}
use Rattle.tests_pool_threads.proofs.hooks.hooks_are_asked.Given as goal

abbrev pub ghosts-asks_hooks-H-Ledger : goal.ghosts-asks_hooks-H-Ledger
ghosts-asks_hooks-H-Ledger g a = record { name = a.blanks.held.name; parts = a.blanks.held.parts }

abbrev pub ghosts-asks_hooks-L-Ledger : goal.ghosts-asks_hooks-L-Ledger
ghosts-asks_hooks-L-Ledger g a = record { name = a.blanks.loans.name; parts = a.blanks.loans.parts }

abbrev pub ghosts-asks_hooks-L-Loans : goal.ghosts-asks_hooks-L-Loans
ghosts-asks_hooks-L-Loans g a = record { max = 1; cuts = false }

abbrev pub ghosts-asks_hooks-L-Naming : goal.ghosts-asks_hooks-L-Naming
ghosts-asks_hooks-L-Naming g a = record { book = a.blanks.opened.seen.book }
