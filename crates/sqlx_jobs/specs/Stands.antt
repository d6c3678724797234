-- When a queue stands for events and replies.
use Rattle.std.specs.Prelude.{◌≡◌, ℕ, ◌<◌, ◌^◌, [], ◌∷◌, ◌++◌, length}
use Rattle.sqlx_pool_lists.specs.Core.{Core}
use Rattle.sqlx_single.specs.Single.{Rests}
use Rattle.mem_store.specs.Store.{Store, Link}
use Rattle.sqlx_player.specs.Language.{Pairs, events_of}
use Rattle.sqlx_jobs_rules.specs.declared.queue_line.QueueLine.{QueueLine}
use Rattle.sqlx_jobs_rules.specs.declared.event.Event.{Event}
use Rattle.sqlx_jobs_rules.specs.declared.reply.Reply.{Reply}
use Rattle.sqlx_jobs_rules.specs.Grammar.{last_moment}
use Rattle.sqlx_jobs_rules.specs.Jobs.{jobs_of, reply_at}
use Rattle.sqlx_jobs.specs.Keeps.{Keeps}

-- The pool's connection rests, and the store keeps these events and replies.
pub record Holds (core : Core Link) (store : Store) (pairs : Pairs Event Reply) : Type 0 where
  pub link : Link
  pub number : ℕ
  pub rests : Rests link core
  pub keeps : Keeps number pairs store link

-- The reply is the answer behind whatever events and replies were held, and this pair is held then too.
abbrev pub HoldsMore : ℕ → Event → Core Link → Store → Core Link → Store → Reply → Type 0
HoldsMore lease event old_core old_store core store reply = (pairs : Pairs Event Reply) → Holds old_core old_store pairs → length pairs < 2 ^ 20
    → (reply ≡ reply_at lease event.moment (jobs_of pairs) event.act) × Holds core store (pairs ++ (event, reply) ∷ [])

-- The queue is as it is after these events and replies, behind this first line; the last of them was at this moment.
pub record Stands (core : Core Link) (store : Store) (lease last : ℕ) (first : QueueLine) (pairs : Pairs Event Reply) : Type 0 where
  pub holds : Holds core store pairs
  pub set_up : lease ≡ first.lease
  pub small : first.lease < 2 ^ 40
  pub moment : last ≡ last_moment (events_of pairs)
