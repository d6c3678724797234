-- A store keeps the jobs that events and replies come to.
use Rattle.std.specs.Prelude.{◌≡◌, ℕ, ◌<◌, ◌^◌, Bool, true, false, [], ◌∷◌, ◌++◌, count_by, length}
use Rattle.sqlx_savepoints.specs.Rows.{Rows}
use Rattle.mem_store.specs.Store.{Store, Link}
use Rattle.sqlx_player.specs.Language.{Pairs}
use Rattle.sqlx_jobs_rules.specs.declared.event.Event.{Event}
use Rattle.sqlx_jobs_rules.specs.declared.reply.Reply.{Reply}
use Rattle.sqlx_jobs_rules.specs.declared.reply.Reply.TheVariants.{Job, Claimed, Extended, Finished, Dropped}
use Rattle.sqlx_jobs_rules.specs.Jobs.{jobs_of, reply_at}
use Rattle.sqlx_jobs.specs.Kept.{Tells}
use Rattle.sqlx_jobs.specs.Level.{IsAtRest}
use Rattle.sqlx_jobs.specs.Plan.{works}

-- whether a reply says that rows were written
abbrev pub writes : Reply → Bool
writes (Job j) = true
writes (Claimed j e) = true
writes (Extended e) = true
writes Finished = true
writes Dropped = true
writes other = false

-- how many events work in a level
abbrev pub num_works : Pairs Event Reply → ℕ
num_works pairs = count_by (λ pair. works pair.0.act) pairs

-- how many replies say that rows were written
abbrev pub num_writes : Pairs Event Reply → ℕ
num_writes pairs = count_by (λ pair. writes pair.1) pairs

-- Connection n rests on a store whose rows tell of the jobs of these events and replies; each event other than a count began a level, and each reply that says so wrote a row.
pub record Keeps (n : ℕ) (pairs : Pairs Event Reply) (store : Store) (link : Link) : Type 0 where
  pub rows : Rows
  pub rests : IsAtRest store link n rows (num_works pairs) (num_writes pairs)
  pub tells : Tells rows (jobs_of pairs)

-- The reply is the answer behind whatever events and replies the store keeps, and it keeps this pair then too.
abbrev pub Answers : ℕ → Event → Reply → Store → Link → Store → Link → Type 0
Answers lease event reply old_store old_link store link = (n : ℕ) (pairs : Pairs Event Reply) → Keeps n pairs old_store old_link → length pairs < 2 ^ 20
    → (reply ≡ reply_at lease event.moment (jobs_of pairs) event.act) × Keeps n (pairs ++ (event, reply) ∷ []) store link
