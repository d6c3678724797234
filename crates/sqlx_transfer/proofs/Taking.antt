-- A client takes a connection.
use Rattle.std.proofs.Common.{◌≡◌, ℕ, ◌+◌, ◌<◌, ◌^◌, false, List, [], ◌∷◌, ◌++◌, map, length, refl, sym, ap, ◌∙◌, arith}
use Rattle.sqlx_savepoints.specs.Changes.{History, opens}
use Rattle.sqlx_savepoints.specs.Brackets.{depth}
use Rattle.sqlx_savepoints.specs.Links.{Link as BracketLink}
use Rattle.sqlx_savepoints.proofs.Linking.{savepoints_read_alike}
use Rattle.sqlx_pool_lists.specs.Core.{Core}
use Rattle.sqlx_pool_lists.specs.declared.steps.Lent.{Lent}
use Rattle.mem_store.specs.Store.{Store, Link}
use Rattle.sqlx_player.specs.Language.{Pairs}
use Rattle.sqlx_transfer_rules.specs.declared.bank_line.BankLine.{BankLine}
use Rattle.sqlx_transfer_rules.specs.declared.event.Event.{Event}
use Rattle.sqlx_transfer_rules.specs.declared.event.Event.TheVariants.{Start}
use Rattle.sqlx_transfer_rules.specs.declared.reply.Reply.{Reply}
use Rattle.sqlx_transfer_rules.specs.declared.reply.Reply.TheVariants.{Level}
use Rattle.sqlx_transfer_rules.specs.Transfers.{is_among}
use Rattle.sqlx_transfer_rules.specs.Rules.{answer}
use Rattle.sqlx_transfer.specs.declared.holder.Holder.{Holder}
use Rattle.sqlx_transfer.specs.At.{At}
use Rattle.sqlx_transfer.specs.Pool.{LendsFirst}
use Rattle.sqlx_transfer.specs.Stands.{levels_begun, client_of, held_of, Stands}
use Rattle.sqlx_transfer.proofs.Clients.{links_of, at_new}
use Rattle.sqlx_transfer.proofs.Connections.{lent_rests, some_idle, pool_lent}
use Rattle.sqlx_transfer.proofs.Bankings.{levels-few, taken}

-- a connection of a client, on this link
abbrev pub held_on : ℕ → Lent Link → Link → Holder
held_on k lent link = record { client = k; lent = record { id = lent.id; created = lent.created; raw = link } }

pub takes : (core core' : Core Link) (store store' : Store) (hs : List Holder) (line first : BankLine) (pairs : Pairs Event Reply) (k : ℕ) (lent : Lent Link) (link' : Link) → (s : Stands core store hs line first pairs) → length pairs < 2 ^ 20
    → is_among k (map client_of hs) ≡ false → k < 2 ^ 32 → LendsFirst first.max k core' (map held_of hs) s.pool.idle lent
    → ((past : History) (o : ℕ → BracketLink) (j n c : ℕ) → At past o j n c store lent.raw → depth j past < 100 → c + 1 < 2 ^ 32 → At (opens j ∷ past) o j n (c + 1) store' link')
    → (Level 1 ≡ answer first pairs (Start k)) × Stands core' store' (hs ++ held_on k lent link' ∷ []) line first (pairs ++ (Start k, Level 1) ∷ [])
takes core core' store store' hs line first pairs k lent link' s few none small l did =
    let levels = levels-few pairs in
    let flat : depth k s.past ≡ 0 = sym ((savepoints_read_alike s.past s.links.accepted).depths k) ∙ ap (λ (x : BracketLink). x.depth) (s.links.away k none) in
    let at = at_new s.past store hs k s.links none (levels_begun pairs) lent.raw (lent_rests first.max k core core' hs lent s.pool l) (omega (arith, levels, few)) s.begun in
    taken core store line first pairs hs k s none core' store' (held_on k lent link') refl small (some_idle first.max k core core' hs lent s.pool l)
    (pool_lent first.max k core core' hs lent (held_on k lent link') s.pool l refl)
    (did s.past (links_of s.past) k (length hs) (levels_begun pairs) at (omega (arith, flat)) (omega (arith, levels, few)))
