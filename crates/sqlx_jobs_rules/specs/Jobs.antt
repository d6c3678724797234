-- Who holds which job, which jobs are ready and which are done, read off the replies alone; and the reply to each event.
use Rattle.std.specs.Prelude.{ℕ, zero, suc, ◌+◌, ◌==◌, ◌&&◌, Bool, true, false, not, nat_lt, List, [], ◌∷◌, count_by, if◌then◌else◌, Option, Some, None}
use Rattle.std.specs.List.{list_any}
use Rattle.sqlx_player.specs.Language.{Rules, Language, Pairs}
use Rattle.sqlx_jobs_rules.specs.declared.queue_line.QueueLine.{QueueLine}
use Rattle.sqlx_jobs_rules.specs.declared.event.Event.{Event}
use Rattle.sqlx_jobs_rules.specs.declared.event.Act.{Act}
use Rattle.sqlx_jobs_rules.specs.declared.event.Act.TheVariants.{Add, Claim, Extend, Finish, Drop, Count}
use Rattle.sqlx_jobs_rules.specs.declared.event.Met.{Met}
use Rattle.sqlx_jobs_rules.specs.declared.event.Met.TheVariants.{Accepted}
use Rattle.sqlx_jobs_rules.specs.declared.reply.Reply.{Reply}
use Rattle.sqlx_jobs_rules.specs.declared.reply.Reply.TheVariants.{Full, Fault, Job, Empty, Claimed, NotHeld, Extended, Finished, Dropped, Counted}
use Rattle.sqlx_jobs_rules.specs.Grammar.{jobs_grammar}
use Rattle.sqlx_jobs_rules.specs.Texts.{text_of, closing_text}

-- ---- read off one reply

-- a worker's hold of a job: it lasts until this moment
pub record Hold : Type 0 where
  pub worker : ℕ
  pub until : ℕ

-- the hold of job j that a reply gives: `claimed` and `extended` do
abbrev pub granted : ℕ → Act → Reply → Option Hold
granted j (Claim w a) (Claimed k e) = if k == j then Some (record { worker = w; until = e }) else None
granted j (Extend w k a) (Extended e) = if k == j then Some (record { worker = w; until = e }) else None
granted j act reply = None

-- whether a reply says that job j is finished
abbrev pub finishes : ℕ → Act → Reply → Bool
finishes j (Finish w k a) Finished = k == j
finishes j act reply = false

-- whether a reply ends the hold of job j: `finished` and `dropped` do
abbrev pub ends : ℕ → Act → Reply → Bool
ends j (Finish w k a) Finished = k == j
ends j (Drop w k a) Dropped = k == j
ends j act reply = false

-- whether a reply says that a job was added
abbrev pub adds : Reply → Bool
adds (Job j) = true
adds reply = false

-- ---- read off all replies

-- the hold that is given, or else the one before
abbrev pub hold_or : Option Hold → Option Hold → Option Hold
hold_or (Some given) before = Some given
hold_or None before = before

-- the hold of job j after one more event and its reply
abbrev pub hold_by : ℕ → Option Hold → Event × Reply → Option Hold
hold_by j hold pair = if ends j pair.0.act pair.1 then None else hold_or (granted j pair.0.act pair.1) hold

-- the hold of job j after these events and replies, behind one
unfoldable pub hold_after : ℕ → Option Hold → Pairs Event Reply → Option Hold
hold_after j hold [] = hold
hold_after j hold (pair ∷ pairs) = hold_after j (hold_by j hold pair) pairs

-- What events and replies come to: how many jobs were added, the last hold of each, and which are done.
pub record Jobs : Type 0 where
  pub added : ℕ
  pub hold : ℕ → Option Hold
  pub done : ℕ → Bool

-- a hold is that of the last claimed, extended, finished or dropped reply of the job; a job is done where a finished reply of it came
abbrev pub jobs_of : Pairs Event Reply → Jobs
jobs_of pairs = record {
  added = count_by (λ pair. adds pair.1) pairs;
  hold = λ j. hold_after j None pairs;
  done = λ j. list_any (λ pair. finishes j pair.0.act pair.1) pairs;
}

-- ---- at a moment

-- whether a hold lasts beyond the moment
abbrev pub lasts : ℕ → Option Hold → Bool
lasts m None = false
lasts m (Some hold) = nat_lt m hold.until

-- whether it is this worker's
abbrev pub is_of : ℕ → Option Hold → Bool
is_of w None = false
is_of w (Some hold) = hold.worker == w

-- whether worker w holds job j
abbrev pub holds : ℕ → ℕ → ℕ → Jobs → Bool
holds m w j jobs = is_of w (jobs.hold j) && lasts m (jobs.hold j)

-- whether anybody holds job j
abbrev pub is_held : ℕ → Jobs → ℕ → Bool
is_held m jobs j = lasts m (jobs.hold j)

-- whether job j, which was added, is ready
abbrev pub is_ready : ℕ → Jobs → ℕ → Bool
is_ready m jobs j = not (jobs.done j) && not (is_held m jobs j)

-- so many numbers in order, from this one on
unfoldable pub numbers_from : ℕ → ℕ → List ℕ
numbers_from next zero = []
numbers_from next (suc n) = next ∷ numbers_from (suc next) n

-- the numbers of the jobs
abbrev pub numbers : Jobs → List ℕ
numbers jobs = numbers_from 1 jobs.added

-- the first of these that passes the test
abbrev pub first_of : (ℕ → Bool) → List ℕ → Option ℕ
first_of test [] = None
first_of test (j ∷ js) = if test j then Some j else first_of test js

-- ---- the answers

-- the reply where an event is accepted, and where it isn't
abbrev pub met_by : Met → Reply → Reply
met_by Accepted reply = reply
met_by other reply = Fault

-- the reply to a claim, where this is the least ready job
abbrev pub claim_reply : ℕ → Met → Option ℕ → Reply
claim_reply until met None = Empty
claim_reply until met (Some j) = met_by met (Claimed j until)

-- the reply to what a worker does with a job that it holds, or doesn't
abbrev pub held_reply : Bool → Met → Reply → Reply
held_reply held met reply = if held then met_by met reply else NotHeld

-- how many jobs are done
abbrev pub num_done : Jobs → ℕ
num_done jobs = count_by jobs.done (numbers jobs)

-- how many jobs are ready, held and done
abbrev pub counted : ℕ → Jobs → Reply
counted m jobs = Counted (count_by (is_ready m jobs) (numbers jobs)) (count_by (is_held m jobs) (numbers jobs)) (num_done jobs)

-- how many jobs there may be
abbrev pub max_jobs : ℕ
max_jobs = 1000

-- the reply to an act at a moment
abbrev pub reply_at : ℕ → ℕ → Jobs → Act → Reply
reply_at lease m jobs (Add met) = if nat_lt jobs.added max_jobs then met_by met (Job (jobs.added + 1)) else Full
reply_at lease m jobs (Claim w met) = claim_reply (m + lease) met (first_of (is_ready m jobs) (numbers jobs))
reply_at lease m jobs (Extend w j met) = held_reply (holds m w j jobs) met (Extended (m + lease))
reply_at lease m jobs (Finish w j met) = held_reply (holds m w j jobs) met Finished
reply_at lease m jobs (Drop w j met) = held_reply (holds m w j jobs) met Dropped
reply_at lease m jobs Count = counted m jobs

-- the reply to an event behind these events and replies
abbrev pub answer : QueueLine → Pairs Event Reply → Event → Reply
answer queue pairs event = reply_at queue.lease event.moment (jobs_of pairs) event.act

-- the closing line behind these events and replies
abbrev pub closing : Jobs → List ℕ
closing jobs = closing_text jobs.added (num_done jobs)

-- what each event is answered, and what is written
abbrev pub jobs_rules : Rules QueueLine Event Reply
jobs_rules = record {
  answer = answer;
  text_of = text_of;
  closing = λ _ pairs. closing (jobs_of pairs);
}

-- the language of job queues
abbrev pub jobs_language : Language QueueLine Event Reply
jobs_language = record { grammar = jobs_grammar; rules = jobs_rules }
