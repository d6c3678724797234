-- An event of a client, by its place among those that have a connection.
use Rattle.std.proofs.Common.{◌≡◌, ℕ, ◌+◌, ◌<◌, ◌≤◌, ◌^◌, ◌==◌, ℤ, pos, Bool, Some, List, [], ◌∷◌, ◌++◌, length, get_or, slice_set, sym, ap, subst, ◌∙◌, arith}
use Rattle.sqlx_savepoints.specs.Changes.{History}
use Rattle.sqlx_savepoints.specs.Brackets.{depth}
use Rattle.sqlx_savepoints.specs.Standing.{Standing, standing, value_of}
use Rattle.sqlx_savepoints.specs.Links.{new_link}
use Rattle.sqlx_savepoints.specs.Links.{Link as BracketLink}
use Rattle.sqlx_savepoints.proofs.StoreOf.{IsQuiet}
use Rattle.std.proofs.lemmas.Bool.{and_parts, leb-true}
use Rattle.std.specs.Prelude.{nat_le, not, ◌&&◌}
use Rattle.sqlx_pool_lists.specs.Core.{Core}
use Rattle.mem_store.specs.Store.{Store, Link}
use Rattle.sqlx_play.specs.stage.LinksStand.{side_of}
use Rattle.sqlx_player.specs.Language.{Pairs}
use Rattle.sqlx_transfer_rules.specs.declared.bank_line.BankLine.{BankLine}
use Rattle.sqlx_transfer_rules.specs.declared.event.Event.{Event}
use Rattle.sqlx_transfer_rules.specs.declared.event.Event.TheVariants.{Start, Move, Drop}
use Rattle.sqlx_transfer_rules.specs.declared.reply.Reply.{Reply}
use Rattle.sqlx_transfer_rules.specs.declared.reply.Reply.TheVariants.{Level, Dropped}
use Rattle.sqlx_transfer_rules.specs.Grammar.{is_account}
use Rattle.sqlx_transfer_rules.specs.Transfers.{history_of, seen}
use Rattle.sqlx_transfer_rules.specs.Rules.{answer}
use Rattle.sqlx_transfer_rules.specs.Laws.{IsOfBank}
use Rattle.sqlx_transfer_rules.specs.Values.{valued}
use Rattle.sqlx_transfer.specs.declared.holder.Holder.{Holder}
use Rattle.sqlx_transfer.specs.declared.moving.Transfer.{Transfer}
use Rattle.sqlx_transfer.specs.At.{At}
use Rattle.sqlx_transfer.specs.Stands.{levels_begun, held_of, HasPlace, PoolStands, Stands, GivesBack}
use Rattle.sqlx_transfer.specs.BankSteps.{Starts, MovesIf, DropsAll, ended, ending}
use Rattle.sqlx_transfer.proofs.Clients.{links_of, at_of}
use Rattle.sqlx_transfer.proofs.Connections.{set_mid, index_mid}
use Rattle.sqlx_transfer.proofs.Bankings.{levels-few, depth-low, depth-high, quiet, sees, starts, moves, ends-stay, ends-leave, ended-rests, drops, pool-same}

-- a holder whose link changed
abbrev pub with_link : Holder → Link → Holder
with_link h link = record { client = h.client; lent = record { id = h.lent.id; created = h.lent.created; raw = link } }

module _ (core : Core Link) (store : Store) (hs : List Holder) (line first : BankLine) (pairs : Pairs Event Reply) (s : Stands core store hs line first pairs) (few : length pairs < 2 ^ 20)
    (k place : ℕ) (p : HasPlace hs k place) (h : Holder) (is : h ≡ get_or hs place h) where
  abbrev ys : List Holder
  ys = p.before

  abbrev own : Holder
  own = p.own

  abbrev zs : List Holder
  zs = p.after

  whole : Stands core store (ys ++ own ∷ zs) line first pairs
  whole = subst (λ (l : List Holder). Stands core store l line first pairs) p.whole s

  abbrev b : ℕ
  b = levels_begun pairs

  small : b + 1 < 2 ^ 32
  small = let l = levels-few pairs in omega (arith, few, l)

  own-is : h ≡ own
  own-is = is ∙ (λ i. get_or (p.whole i) (sym p.place' i) h) ∙ index_mid ys own zs h

  pub set-is : (h' : Holder) → slice_set hs place h' ≡ ys ++ h' ∷ zs
  set-is h' = (λ i. slice_set (p.whole i) (sym p.place' i) h') ∙ set_mid ys own h' zs

  at : At whole.past (links_of whole.past) own.client (length (ys ++ zs)) b store h.lent.raw
  at = subst (λ (x : Holder). At whole.past (links_of whole.past) own.client (length (ys ++ zs)) b store x.lent.raw) (sym own-is) (at_of whole.past store ys own zs whole.links b (let l = small in omega (arith, l)) whole.begun)

  client-is : (link : Link) → (with_link h link).client ≡ own.client
  client-is link = ap (λ (x : Holder). x.client) own-is

  held-is : (link : Link) → held_of (with_link h link) ≡ held_of own
  held-is link = ap held_of own-is

  pub starts_at : (reply : Reply) (store' : Store) (link' : Link)
      → ((past : History) (o : ℕ → BracketLink) (j n c : ℕ) → At past o j n c store h.lent.raw → depth j past ≤ 100 → c + 1 < 2 ^ 32 → Starts (depth j past == 100) past o j n c reply store' link')
      → (reply ≡ answer first pairs (Start k)) × Stands core store' (slice_set hs place (with_link h link')) line first (pairs ++ (Start k, reply) ∷ [])
  starts_at reply store' link' did =
      let came = did whole.past (links_of whole.past) own.client (length (ys ++ zs)) b at (depth-high core store line first pairs ys own zs whole) small in
      subst (λ j. (reply ≡ answer first pairs (Start j)) × Stands core store' (slice_set hs place (with_link h link')) line first (pairs ++ (Start j, reply) ∷ [])) p.is
      (subst (λ (l : List Holder). (reply ≡ answer first pairs (Start own.client)) × Stands core store' l line first (pairs ++ (Start own.client, reply) ∷ [])) (sym (set-is (with_link h link')))
      (starts core store line first pairs ys own zs whole reply store' (with_link h link') (client-is link') (held-is link') came))

  pub moves_at : (t : Transfer) → IsOfBank first (Move k t.from t.to t.amount t.met) → (reply : Reply) (store' : Store) (link' : Link)
      → ((past : History) (o : ℕ → BracketLink) (j n c : ℕ) (from to : ℤ) → At past o j n c store h.lent.raw → depth j past ≤ 100 → c + 1 < 2 ^ 32 → value_of j (pos t.from) (standing past) ≡ Some from → value_of j (pos t.to) (standing past) ≡ Some to
      → MovesIf (depth j past == 100) past o j n c t from to reply store' link')
      → (reply ≡ answer first pairs (Move k t.from t.to t.amount t.met)) × Stands core store' (slice_set hs place (with_link h link')) line first (pairs ++ (Move k t.from t.to t.amount t.met, reply) ∷ [])
  moves_at t inside reply store' link' did =
      let one = and_parts (is_account first.accounts t.from) (is_account first.accounts t.to && not (t.from == t.to)) inside in
      let two = and_parts (is_account first.accounts t.to) (not (t.from == t.to)) one.1 in
      let x = and_parts (nat_le 1 t.from) (nat_le t.from first.accounts) one.0 in
      let y = and_parts (nat_le 1 t.to) (nat_le t.to first.accounts) two.0 in
      let came = did whole.past (links_of whole.past) own.client (length (ys ++ zs)) b (seen first own.client pairs t.from) (seen first own.client pairs t.to) at (depth-high core store line first pairs ys own zs whole) small
      (sees core store line first pairs ys own zs whole t.from (leb-true 1 t.from x.0) (leb-true t.from first.accounts x.1)) (sees core store line first pairs ys own zs whole t.to (leb-true 1 t.to y.0) (leb-true t.to first.accounts y.1)) in
      subst (λ j. (reply ≡ answer first pairs (Move j t.from t.to t.amount t.met)) × Stands core store' (slice_set hs place (with_link h link')) line first (pairs ++ (Move j t.from t.to t.amount t.met, reply) ∷ [])) p.is
      (subst (λ (l : List Holder). (reply ≡ answer first pairs (Move own.client t.from t.to t.amount t.met)) × Stands core store' l line first (pairs ++ (Move own.client t.from t.to t.amount t.met, reply) ∷ [])) (sym (set-is (with_link h link')))
      (moves core store line first pairs ys own zs whole t inside reply store' (with_link h link') (client-is link') (held-is link') came))

  -- what came of an end
  abbrev Ended : Bool → Store → Link → Type 0
  Ended c store' link' = (past : History) (o : ℕ → BracketLink) (j n m : ℕ) → At past o j n m store h.lent.raw → 1 ≤ depth j past → At (ended c j ∷ past) o j n m store' link'

  ended-at : (c : Bool) (store' : Store) (link' : Link) → Ended c store' link' → At (ended c own.client ∷ whole.past) (links_of whole.past) own.client (length (ys ++ zs)) b store' link'
  ended-at c store' link' did = did whole.past (links_of whole.past) own.client (length (ys ++ zs)) b at (depth-low core store line first pairs ys own zs whole)

  pub ends_stay_at : (c : Bool) (store' : Store) (link' : Link) → Ended c store' link' → (d : ℕ) → d ≡ link'.depth → 1 ≤ d
      → (Level d ≡ answer first pairs (ending k c)) × Stands core store' (slice_set hs place (with_link h link')) line first (pairs ++ (ending k c, Level d) ∷ [])
  ends_stay_at c store' link' did d deep some =
      subst (λ j. (Level d ≡ answer first pairs (ending j c)) × Stands core store' (slice_set hs place (with_link h link')) line first (pairs ++ (ending j c, Level d) ∷ [])) p.is
      (subst (λ (l : List Holder). (Level d ≡ answer first pairs (ending own.client c)) × Stands core store' l line first (pairs ++ (ending own.client c, Level d) ∷ [])) (sym (set-is (with_link h link')))
      (ends-stay core store line first pairs ys own zs whole c store' (with_link h link') (client-is link') (held-is link') (ended-at c store' link' did) d deep some))

  -- what giving a connection back comes to
  abbrev Gives : Link → Core Link → List Holder → Type 0
  Gives link' core' hs' = GivesBack core (slice_set hs place (with_link h link')) place core' hs'

  given : (link' : Link) (core' : Core Link) (hs' : List Holder) → Gives link' core' hs' → side_of link' ≡ new_link → PoolStands first.max core' (ys ++ zs) × (hs' ≡ ys ++ zs)
  given link' core' hs' gives rests = gives first.max ys (with_link h link') zs (set-is (with_link h link')) p.place' (pool-same core store line first pairs ys own zs whole (with_link h link') (held-is link')) rests

  pub ends_leave_at : (c : Bool) (store' : Store) (link' : Link) → Ended c store' link' → (d : ℕ) → d ≡ link'.depth → d ≡ 0 → (core' : Core Link) (hs' : List Holder) → Gives link' core' hs'
      → (Level d ≡ answer first pairs (ending k c)) × Stands core' store' hs' line first (pairs ++ (ending k c, Level d) ∷ [])
  ends_leave_at c store' link' did d deep none core' hs' gives =
      let now = ended-at c store' link' did in
      let flat : link'.depth ≡ 0 = sym deep ∙ none in
      let back = given link' core' hs' gives (ended-rests core store line first pairs ys own zs whole c b store' link' now flat) in
      subst (λ j. (Level d ≡ answer first pairs (ending j c)) × Stands core' store' hs' line first (pairs ++ (ending j c, Level d) ∷ [])) p.is
      (subst (λ (l : List Holder). (Level d ≡ answer first pairs (ending own.client c)) × Stands core' store' l line first (pairs ++ (ending own.client c, Level d) ∷ [])) (sym back.1)
      (subst (λ m. (Level m ≡ answer first pairs (ending own.client c)) × Stands core' store' (ys ++ zs) line first (pairs ++ (ending own.client c, Level m) ∷ [])) (sym none)
      (ends-leave core store line first pairs ys own zs whole c core' store' link' now flat back.0)))

  pub drops_at : (store' : Store) (link' : Link)
      → ((past : History) (o : ℕ → BracketLink) (j n m : ℕ) (bank : BankLine) (things : List Standing) → At past o j n m store h.lent.raw → 1 ≤ depth j past → standing past ≡ valued bank things → IsQuiet things → DropsAll o j n m bank things store' link')
      → (core' : Core Link) (hs' : List Holder) → Gives link' core' hs' → (Dropped ≡ answer first pairs (Drop k)) × Stands core' store' hs' line first (pairs ++ (Drop k, Dropped) ∷ [])
  drops_at store' link' did core' hs' gives =
      let all = did whole.past (links_of whole.past) own.client (length (ys ++ zs)) b first (standing (history_of pairs)) at (depth-low core store line first pairs ys own zs whole) whole.stands (quiet core store line first pairs ys own zs whole) in
      let back = given link' core' hs' gives (all.at.side ∙ all.rests) in
      subst (λ j. (Dropped ≡ answer first pairs (Drop j)) × Stands core' store' hs' line first (pairs ++ (Drop j, Dropped) ∷ [])) p.is
      (subst (λ (l : List Holder). (Dropped ≡ answer first pairs (Drop own.client)) × Stands core' store' l line first (pairs ++ (Drop own.client, Dropped) ∷ [])) (sym back.1)
      (drops core store line first pairs ys own zs whole core' store' link' all back.0))
