-- What a move comes to, in a level of its own.
use Rattle.std.specs.Prelude.{◌≡◌, ℕ, zero, suc, ◌+◌, ℤ, pos, ◌+ℤ◌, ◌-ℤ◌, int_lt, Bool, true, false, List, ◌∷◌, Some, if◌then◌else◌}
use Rattle.sqlx_savepoints.specs.Changes.{Change, History, writes, commits, rolls_back}
use Rattle.sqlx_savepoints.specs.Links.{Link as BracketLink}
use Rattle.sqlx_savepoints.specs.Standing.{Standing, wrote, standing}
use Rattle.mem_store.specs.Store.{Store, Link}
use Rattle.sqlx_transfer_rules.specs.declared.event.Met.{Met}
use Rattle.sqlx_transfer_rules.specs.declared.event.Met.TheVariants.{Accepted, FirstRefused, SecondRefused}
use Rattle.sqlx_transfer_rules.specs.declared.reply.Reply.{Reply}
use Rattle.sqlx_transfer_rules.specs.declared.reply.Reply.TheVariants.{Insufficient, Overflow, Moved}
use Rattle.sqlx_transfer_rules.specs.Rules.{greatest, move_met}
use Rattle.sqlx_transfer.specs.At.{At}
use Rattle.sqlx_transfer.specs.declared.moving.Transfer.{Transfer}

-- whether the first write is refused
abbrev pub refuses_first : Met → Bool
refuses_first FirstRefused = true
refuses_first other = false

-- whether the second write is refused
abbrev pub refuses_second : Met → Bool
refuses_second SecondRefused = true
refuses_second other = false

-- what happened behind the writes of a move: as many as were accepted
abbrev pub both_past : Met → ℕ → ℕ → ℤ → ℤ → ℤ → ℤ → History → History
both_past FirstRefused n k x less y more past = past
both_past SecondRefused zero k x less y more past = writes k x (Some less) ∷ past
both_past SecondRefused (suc n) k x less y more past = past
both_past Accepted zero k x less y more past = writes k y (Some more) ∷ writes k x (Some less) ∷ past
both_past Accepted (suc n) k x less y more past = past

-- the reply to a move, by what was read of its accounts and by how many others have a level open
abbrev pub moved_reply : Transfer → ℕ → ℤ → ℤ → Reply
moved_reply t n from to =
    if int_lt from (pos t.amount) then Insufficient else
    if int_lt (pos greatest) (to +ℤ pos t.amount) then Overflow else
    move_met t.met n

-- what happened behind it, before the level ends
abbrev pub choice_past : Transfer → ℕ → ℤ → ℤ → ℕ → History → History
choice_past t n from to k past =
    if int_lt from (pos t.amount) then past else
    if int_lt (pos greatest) (to +ℤ pos t.amount) then past else
    both_past t.met n k (pos t.from) (from -ℤ pos t.amount) (pos t.to) (to +ℤ pos t.amount) past

-- whether a reply says that the amount was moved
abbrev pub is_moved : Reply → Bool
is_moved Moved = true
is_moved other = false

-- how the level of a move ends
abbrev pub end_of : Reply → ℕ → Change
end_of reply k = if is_moved reply then commits k else rolls_back k

-- what stands behind a move: two values where the amount was moved, and else nothing more
abbrev pub moved_things : Reply → Transfer → ℤ → ℤ → ℕ → List Standing → List Standing
moved_things Moved t from to k things = wrote k (pos t.to) (Some (to +ℤ pos t.amount)) ∷ wrote k (pos t.from) (Some (from -ℤ pos t.amount)) ∷ things
moved_things other t from to k things = things

-- The reply is due, a level was begun, and what stands is what stood before it and the values that were moved.
pub record Moves (past : History) (others : ℕ → BracketLink) (k n b : ℕ) (t : Transfer) (from to : ℤ) (reply : Reply) (store : Store) (link : Link) : Type 0 where
  pub told : reply ≡ moved_reply t n from to
  pub after : History
  pub at : At after others k n (b + 1) store link
  pub stands : standing after ≡ moved_things reply t from to k (standing past)
