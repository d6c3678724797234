use Rattle.std.proofs.Common.{◌≡◌, ◌≤◌, ℕ, List}
use Rattle.sqlx_savepoints.specs.Changes.{History}
use Rattle.sqlx_savepoints.specs.Brackets.{depth}
use Rattle.sqlx_savepoints.specs.Standing.{Standing, standing}
use Rattle.sqlx_savepoints.specs.Links.{Link as BracketLink}
use Rattle.sqlx_savepoints.proofs.StoreOf.{IsQuiet}
use Rattle.sqlx_transfer_rules.specs.declared.bank_line.BankLine.{BankLine}
use Rattle.sqlx_transfer_rules.specs.Values.{valued}
use Rattle.sqlx_transfer.specs.At.{At}
use Rattle.sqlx_transfer.proofs.EventSteps.{DropsTo}
use Rattle.sqlx_transfer.proofs.events.give_all_up.Given as goal

-- the levels that are left are those that were not given up
abbrev pub invariant-loop-left : goal.invariant-loop-left
invariant-loop-left g l = (past : History) (o : ℕ → BracketLink) (k n b : ℕ) (line : BankLine) (things : List Standing) → At past o k n b l.initial.store l.initial.link → 1 ≤ depth k past
    → standing past ≡ valued line things → IsQuiet things → DropsTo l.left o k n b line things l.store l.link

abbrev pub decreases-loop-left : goal.decreases-loop-left
decreases-loop-left g l = l.left
