-- What a play comes to, by what the bank stands for.
use Rattle.std.proofs.Common.{◌≡◌, ℕ, true, List, sym, subst, ◌∙◌}
use Rattle.sqlx_pool_lists.specs.Core.{Core}
use Rattle.mem_store.specs.Store.{Store, Link}
use Rattle.sqlx_player.specs.Causes.{Shown, TookAll}
use Rattle.sqlx_player.specs.Plays.{Plays}
use Rattle.sqlx_player.specs.Output.{pairs_of}
use Rattle.sqlx_transfer_rules.specs.declared.bank_line.BankLine.{BankLine}
use Rattle.sqlx_transfer_rules.specs.Rules.{transfer_language, transfer_rules}
use Rattle.sqlx_lines.specs.Words.{whole}
use Rattle.sqlx_player.specs.Language.{Pairs}
use Rattle.sqlx_player.specs.Responds.{IsDue}
use Rattle.sqlx_transfer_rules.specs.declared.event.Event.{Event}
use Rattle.sqlx_transfer_rules.specs.declared.reply.Reply.{Reply}
use Rattle.sqlx_transfer_rules.specs.Grammar.{event_words, is_in_range}
use Rattle.sqlx_transfer_rules.specs.Laws.{IsOfBank}
use Rattle.sqlx_transfer_rules.proofs.ScriptTotals.{closes_with_the_opening, range_told}
use Rattle.sqlx_transfer.specs.declared.holder.Holder.{Holder}
use Rattle.sqlx_transfer.specs.Stands.{Stands}
use Rattle.sqlx_transfer.specs.Plays.{PlaysOn}
use Rattle.sqlx_transfer.proofs.Shows.{shown}

-- an event that is due is of the bank
pub due_inside : (core : Core Link) (store : Store) (hs : List Holder) (line : BankLine) (event : Event) → IsDue transfer_language (Stands core store hs line) event → (first : BankLine) (pairs : Pairs Event Reply) → Stands core store hs line first pairs → IsOfBank first event
due_inside core store hs line event due first pairs s =
    subst (λ (f : BankLine). is_in_range f.accounts event ≡ true) (sym due.stands.set_up ∙ s.set_up) (range_told due.first.accounts (whole event_words due.line) event due.says)

pub worked : (core : Core Link) (store kept : Store) (hs : List Holder) (line : BankLine) (bytes : List ℕ) (s : Shown) → kept ≡ store → TookAll s.left_before s.left_now bytes → Plays transfer_language (Stands core store hs line) bytes s.written_before s.written_now → PlaysOn kept s
worked core store kept hs line bytes s same took p = subst (λ (t : Store). PlaysOn t s) (sym same) (record {
  plays = record { bytes = bytes; took = took; script = p.script; is_script = p.is_script; written = p.written; total = closes_with_the_opening bytes p.script p.is_script };
  balances = λ x some few. shown core store hs line p.script.first (pairs_of transfer_rules p.script) p.stands x some few;
  begun = p.stands.begun;
})
