-- A client's connection and the store, by what happened on all connections.
use Rattle.std.specs.Prelude.{◌≡◌, ℕ, zero, suc, ◌+◌, ◌<◌, ◌≤◌, ◌^◌, ◌==◌, ℤ, pos, Bool, true, false, ◌∷◌, Some}
use Rattle.sqlx_savepoints.specs.Changes.{History, writes}
use Rattle.sqlx_savepoints.specs.Links.{linked_after}
use Rattle.sqlx_savepoints.specs.Links.{Link as BracketLink}
use Rattle.sqlx_savepoints.specs.Stores.{AreAccepted}
use Rattle.sqlx_script.specs.declared.reply.Reply.{Reply as Said}
use Rattle.sqlx_script.specs.declared.reply.Reply.TheVariants.{Io, DatabaseBusy, Value}
use Rattle.mem_store.specs.Store.{Store, Link, level_mark}
use Rattle.sqlx_play.specs.stage.LinksStand.{side_of}
use Rattle.sqlx_transfer.specs.declared.level.Written.{Written}
use Rattle.sqlx_transfer.specs.declared.level.Written.TheVariants.{Done, Refused, Busy}

-- Another connection than this one has an open level.
pub record OtherOpen (others : ℕ → BracketLink) (k : ℕ) : Type 0 where
  pub other : ℕ
  pub apart : (other == k) ≡ false
  pub deep : 1 ≤ (others other).depth

-- The link is client k's, and it and the store are as this happening left them, which left the links of others as they are; n of those have an open level, and at least b levels were begun.
pub record At (past : History) (others : ℕ → BracketLink) (k n b : ℕ) (store : Store) (link : Link) : Type 0 where
  pub accepted : AreAccepted past
  pub rows : store.rows ≡ (linked_after past).rows
  pub side : side_of link ≡ (linked_after past).link k
  pub beside : (other : ℕ) → (other == k) ≡ false → (linked_after past).link other ≡ others other
  pub open_links : store.open_links ≡ level_mark link.depth + n
  pub quiet : n ≡ 0 → (other : ℕ) → (other == k) ≡ false → (others other).depth ≡ 0
  pub loud : 1 ≤ n → OtherOpen others k
  pub few : b < 2 ^ 32
  pub begun : b ≤ store.runs.begun

-- what a reply says of a write
abbrev pub told_of : Said → Written
told_of Io = Refused
told_of DatabaseBusy = Busy
told_of other = Done

-- the value that a reply tells of
abbrev pub value_of : Said → ℤ
value_of (Value v) = v
value_of other = pos 0

-- what comes of a write: it is refused where it is to be, and else where another link has an open level
abbrev pub put_told : Bool → ℕ → Written
put_told true n = Refused
put_told false zero = Done
put_told false (suc n) = Busy

-- what happened behind the write
abbrev pub put_past : Written → ℕ → ℤ → ℤ → History → History
put_past Done k key value past = writes k key (Some value) ∷ past
put_past other k key value past = past

-- what came of a write
abbrev pub Puts : Bool → ℤ → ℤ → History → (ℕ → BracketLink) → ℕ → ℕ → ℕ → Written → Store → Link → Type 0
Puts refused key value past o k n b told store link = (told ≡ put_told refused n) × At (put_past (put_told refused n) k key value past) o k n b store link
