use Rattle.std.proofs.Common.{◌≡◌, ◌≤◌, ◌-◌, ◌*◌, ◌^◌, pos, neg_ℤ}
use Rattle.std.specs.Prelude.{◌≤ℤ◌}
use Rattle.sqlx_player.specs.Language.{Pairs}
use Rattle.sqlx_transfer_rules.specs.declared.bank_line.BankLine.{BankLine}
use Rattle.sqlx_transfer_rules.specs.declared.event.Event.{Event}
use Rattle.sqlx_transfer_rules.specs.declared.reply.Reply.{Reply}
use Rattle.sqlx_transfer_rules.specs.Transfers.{total_of}
use Rattle.sqlx_transfer.specs.Stands.{Stands}
use Rattle.sqlx_transfer.proofs.bank.Bank.total_upto.Given as goal

-- so many balances are added up
abbrev pub invariant-loop-account : goal.invariant-loop-account
invariant-loop-account g l = record {
  sum : (first : BankLine) (pairs : Pairs Event Reply) → Stands l.self.core.pool l.self.store l.self.holders.items l.self.line first pairs → l.account ≤ first.accounts → l.total ≡ total_of first pairs l.account;
  within : l.account ≤ l.accounts;
  high : l.total ≤ℤ pos (l.account * 2 ^ 63);
  low : neg_ℤ (pos (l.account * 2 ^ 63)) ≤ℤ l.total;
}

abbrev pub decreases-loop-account : goal.decreases-loop-account
decreases-loop-account g l = l.accounts - l.account
