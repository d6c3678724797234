-- What the store's rows hold: the committed balances.
use Rattle.std.proofs.Common.{◌≡◌, ℕ, suc, ◌+◌, ◌≤◌, ◌==◌, ℤ, pos, ◌+ℤ◌, false, Option, Some, List, map, All, refl, sym, ap, ◌∙◌, ne_eqb, arith}
use Rattle.std.proofs.lemmas.List.Elements.{All-weaker}
use Rattle.std.specs.FinMap.{get, get-empty}
use Rattle.std.specs.Ordering.{int_cmp}
use Rattle.sqlx_savepoints.specs.Rows.{Rows, sees, seen as row_seen}
use Rattle.sqlx_savepoints.specs.Standing.{standing, value_of}
use Rattle.sqlx_savepoints.specs.Links.{linked_after, new_link}
use Rattle.sqlx_savepoints.specs.Links.{Link as BracketLink}
use Rattle.sqlx_savepoints.proofs.Linking.{savepoints_read_alike}
use Rattle.sqlx_savepoints.proofs.Readers.{standing_quiet}
use Rattle.sqlx_savepoints.proofs.Tells.{tells}
use Rattle.sqlx_pool_lists.specs.Core.{Core}
use Rattle.mem_store.specs.Store.{Store, Link}
use Rattle.sqlx_player.specs.Language.{Pairs}
use Rattle.sqlx_transfer_rules.specs.declared.bank_line.BankLine.{BankLine}
use Rattle.sqlx_transfer_rules.specs.declared.event.Event.{Event}
use Rattle.sqlx_transfer_rules.specs.declared.reply.Reply.{Reply}
use Rattle.sqlx_transfer_rules.specs.Transfers.{history_of, balance, nobody, is_among, total_of}
use Rattle.sqlx_transfer_rules.proofs.Amounts.{sums_stand}
use Rattle.sqlx_transfer_rules.proofs.ValueLemmas.{value-valued}
use Rattle.sqlx_transfer.specs.declared.holder.Holder.{Holder}
use Rattle.sqlx_transfer.specs.Stands.{client_of, IsClient, Stands}
use Rattle.sqlx_transfer.proofs.Connections.{not_among}

-- no client has the number of nobody
nobody_there : (hs : List Holder) → All IsClient hs → is_among nobody (map client_of hs) ≡ false
nobody_there hs few = not_among nobody hs (All-weaker IsClient (λ (h : Holder). (h.client == nobody) ≡ false) (λ h small. ne_eqb h.client nobody (λ e. omega (arith, e, small))) hs few)

-- a reader without a connection sees the committed rows
seen_outside : (rows : Rows) (key : ℤ) → sees new_link.own rows key ≡ get rows key
seen_outside rows key = ap (λ o. row_seen o (get rows key)) (get-empty {X = Option ℤ} int_cmp key)

-- the total of no account, and of one more
pub total_none : (bank : BankLine) (pairs : Pairs Event Reply) → total_of bank pairs 0 ≡ pos 0
unfolding total_of
total_none bank pairs = refl

pub total_more : (bank : BankLine) (pairs : Pairs Event Reply) (n : ℕ) → total_of bank pairs (n + 1) ≡ total_of bank pairs n +ℤ balance bank pairs (n + 1)
unfolding total_of
total_more bank pairs n = ap (total_of bank pairs) next ∙ step ∙ ap (λ m. total_of bank pairs n +ℤ balance bank pairs m) (sym next)
  where
    next : n + 1 ≡ suc n
    next = omega arith

    step : total_of bank pairs (suc n) ≡ total_of bank pairs n +ℤ balance bank pairs (suc n)
    step = refl

-- the store's committed row of an account is its committed balance
pub shown : (core : Core Link) (store : Store) (hs : List Holder) (line first : BankLine) (pairs : Pairs Event Reply) → Stands core store hs line first pairs → (x : ℕ) → 1 ≤ x → x ≤ first.accounts → get store.rows (pos x) ≡ Some (balance first pairs x)
shown core store hs line first pairs s x some few =
    let none : (linked_after s.past).link nobody ≡ new_link = s.links.away nobody (nobody_there hs s.links.numbers) in
    ap (λ (r : Rows). get r (pos x)) s.links.rows
    ∙ sym (seen_outside (linked_after s.past).rows (pos x))
    ∙ ap (λ (l : BracketLink). sees l.own (linked_after s.past).rows (pos x)) (sym none)
    ∙ (savepoints_read_alike s.past s.links.accepted).values nobody (pos x)
    ∙ (tells s.past).1 nobody (pos x)
    ∙ ap (value_of nobody (pos x)) s.stands
    ∙ value-valued first nobody x (standing (history_of pairs)) (standing_quiet (history_of pairs) s.accepted) some few
    ∙ ap (λ v. Some (pos first.opening +ℤ v)) (sym (sums_stand nobody x (history_of pairs)))
