-- What playing a script of transfers is.
use Rattle.std.specs.Prelude.{◌≡◌, ℕ, ◌*◌, ◌≤◌, pos, Some, List}
use Rattle.std.specs.FinMap.{get}
use Rattle.std.specs.Io.KnownBytes.{Appends}
use Rattle.mem_store.specs.Store.{Store}
use Rattle.sqlx_lines.specs.Scripts.{Script, IsScript}
use Rattle.sqlx_player.specs.Output.{pairs_of, output_of, closing_text}
use Rattle.sqlx_player.specs.Causes.{Shown, TookAll}
use Rattle.sqlx_transfer_rules.specs.declared.bank_line.BankLine.{BankLine}
use Rattle.sqlx_transfer_rules.specs.declared.event.Event.{Event}
use Rattle.sqlx_transfer_rules.specs.Texts.{total_text}
use Rattle.sqlx_transfer_rules.specs.Transfers.{balance}
use Rattle.sqlx_transfer_rules.specs.Rules.{transfer_grammar, transfer_rules}
use Rattle.sqlx_transfer.specs.Stands.{levels_begun}

-- All bytes were read and are a script, and its replies by the rules and the closing line were written, which tells as many opening balances as there are accounts.
pub record PlaysTransfers (s : Shown) : Type 0 where
  pub bytes : List ℕ
  pub took : TookAll s.left_before s.left_now bytes
  pub script : Script BankLine Event
  pub is_script : IsScript transfer_grammar bytes script
  pub written : Appends s.written_before s.written_now (output_of transfer_rules script)
  pub total : closing_text transfer_rules script ≡ total_text (pos (script.first.accounts * script.first.opening))

-- That, and the database's committed row of each account is its committed balance; it began a level at least for each start that says so, and for each amount that was moved.
pub record PlaysOn (store : Store) (s : Shown) : Type 0 where
  pub plays : PlaysTransfers s
  pub balances : (x : ℕ) → 1 ≤ x → x ≤ plays.script.first.accounts → get store.rows (pos x) ≡ Some (balance plays.script.first (pairs_of transfer_rules plays.script) x)
  pub begun : levels_begun (pairs_of transfer_rules plays.script) ≤ store.runs.begun
