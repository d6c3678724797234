-- Depths and links behind the end of a level, and what one more event brings about.
use Rattle.std.proofs.Common.{◌≡◌, ℕ, zero, suc, ◌-◌, ◌==◌, Bool, true, false, cond, List, [], ◌∷◌, ◌++◌, refl, ap, ◌∙◌, eq-eqb, arith}
use Rattle.sqlx_savepoints.specs.NamedSavepoints.{Named}
use Rattle.sqlx_savepoints.specs.Changes.{History, commits, rolls_back}
use Rattle.sqlx_savepoints.specs.Standing.{Standing, opened, wrote, is_zero, depth_of, struck, cut, after}
use Rattle.sqlx_savepoints.specs.Levels.{named_step}
use Rattle.sqlx_savepoints.specs.Levels as levels
use Rattle.sqlx_savepoints.specs.Links.{linked_after, named_at, link_of, new_link}
use Rattle.sqlx_player.specs.Language.{Pairs}
use Rattle.sqlx_transfer_rules.specs.declared.event.Event.{Event}
use Rattle.sqlx_transfer_rules.specs.declared.reply.Reply.{Reply}
use Rattle.sqlx_transfer_rules.specs.Transfers.{brought_about, history_after, history_of, connected_by, connected_after, connected}

-- ---- depths

pub depth-struck : (c : ℕ) (things : List Standing) → depth_of c (struck c things) ≡ depth_of c things - 1
depth-struck c [] = refl
depth-struck c (opened d ∷ before) = by (d == c) refl (depth-struck c before)
  where
    by : (b : Bool) → (d == c) ≡ b → depth_of c (struck c before) ≡ depth_of c before - 1 → depth_of c (cond b before (opened d ∷ struck c before)) ≡ cond b (suc (depth_of c before)) (depth_of c before) - 1
    by true is again = omega arith
    by false is again = ap (λ b. cond b (suc (depth_of c (struck c before))) (depth_of c (struck c before))) is ∙ again
depth-struck c (wrote d key v ∷ before) = depth-struck c before

depth-cut : (c : ℕ) (things : List Standing) → depth_of c (cut c things) ≡ depth_of c things - 1
depth-cut c [] = refl
depth-cut c (opened d ∷ before) = by (d == c) refl (depth-cut c before)
  where
    by : (b : Bool) → (d == c) ≡ b → depth_of c (cut c before) ≡ depth_of c before - 1 → depth_of c (cond b before (cond b (cut c before) (opened d ∷ cut c before))) ≡ cond b (suc (depth_of c before)) (depth_of c before) - 1
    by true is again = omega arith
    by false is again = ap (λ b. cond b (suc (depth_of c (cut c before))) (depth_of c (cut c before))) is ∙ again
depth-cut c (wrote d key v ∷ before) = by (d == c) (depth-cut c before)
  where
    by : (b : Bool) → depth_of c (cut c before) ≡ depth_of c before - 1 → depth_of c (cond b (cut c before) (wrote d key v ∷ cut c before)) ≡ depth_of c before - 1
    by true again = again
    by false again = again

is_none : (n : ℕ) → is_zero n ≡ true → n ≡ 0
is_none zero e = refl
is_none (suc n) e = absurd (cc)

pub depth-rolled : (c : ℕ) (things : List Standing) → depth_of c (after things (rolls_back c)) ≡ depth_of c things - 1
depth-rolled c things = by (is_zero (depth_of c things)) refl
  where
    by : (b : Bool) → is_zero (depth_of c things) ≡ b → depth_of c (cond b things (cut c things)) ≡ depth_of c things - 1
    by true is = let none = is_none (depth_of c things) is in omega (arith, none)
    by false is = depth-cut c things

-- ---- the link behind its last level

-- a state of this depth
abbrev at_depth : ℕ → Named → Named
at_depth n state = record state { depth = n }

pub last_commit : (past : History) (k : ℕ) → ((linked_after past).link k).depth ≡ 1 → (linked_after (commits k ∷ past)).link k ≡ new_link
last_commit past k one =
    let state : Named = named_at k (linked_after past) in
    ap (λ b. cond b (link_of (named_step levels.commits state)) ((linked_after past).link k)) (eq-eqb k k refl)
    ∙ (λ i. link_of (named_step levels.commits (at_depth (one i) state)))

pub last_rollback : (past : History) (k : ℕ) → ((linked_after past).link k).depth ≡ 1 → (linked_after (rolls_back k ∷ past)).link k ≡ new_link
last_rollback past k one =
    let state : Named = named_at k (linked_after past) in
    ap (λ b. cond b (link_of (named_step levels.rolls_back state)) ((linked_after past).link k)) (eq-eqb k k refl)
    ∙ (λ i. link_of (named_step levels.rolls_back (at_depth (one i) state)))

-- ---- one more event

history-push : (past : History) (pairs : Pairs Event Reply) (pair : Event × Reply) → history_after past (pairs ++ pair ∷ []) ≡ brought_about pair.0 pair.1 ++ history_after past pairs
unfolding history_after
history-push past [] pair = refl
history-push past (p ∷ pairs) pair = history-push (brought_about p.0 p.1 ++ past) pairs pair

pub history_of-push : (pairs : Pairs Event Reply) (pair : Event × Reply) → history_of (pairs ++ pair ∷ []) ≡ brought_about pair.0 pair.1 ++ history_of pairs
history_of-push pairs pair = history-push [] pairs pair

connected-more : (clients : List ℕ) (pairs : Pairs Event Reply) (pair : Event × Reply) → connected_after clients (pairs ++ pair ∷ []) ≡ connected_by pair.0 pair.1 (connected_after clients pairs)
unfolding connected_after
connected-more clients [] pair = refl
connected-more clients (p ∷ pairs) pair = connected-more (connected_by p.0 p.1 clients) pairs pair

pub connected-push : (pairs : Pairs Event Reply) (pair : Event × Reply) → connected (pairs ++ pair ∷ []) ≡ connected_by pair.0 pair.1 (connected pairs)
connected-push pairs pair = connected-more [] pairs pair
