-- Laws over the answers alone, for every list of events.
use Rattle.std.specs.Prelude.{◌≡◌, ◌⊎◌, ℕ, ◌<◌, ◌≤◌, Bool, true, ◌&&◌, nat_le, List, [], ◌∷◌, ◌++◌, count_by, Some}
use Rattle.std.specs.List.{list_any}
use Rattle.sqlx_lines.specs.Scripts.{Script, IsScript}
use Rattle.sqlx_player.specs.Language.{Pairs, events_of}
use Rattle.sqlx_player.specs.Output.{pairs_after}
use Rattle.sqlx_jobs_rules.specs.declared.queue_line.QueueLine.{QueueLine}
use Rattle.sqlx_jobs_rules.specs.declared.event.Event.{Event}
use Rattle.sqlx_jobs_rules.specs.declared.reply.Reply.{Reply}
use Rattle.sqlx_jobs_rules.specs.declared.reply.Reply.TheVariants.{Fault}
use Rattle.sqlx_jobs_rules.specs.Grammar.{jobs_grammar}
use Rattle.sqlx_jobs_rules.specs.Jobs.{Hold, granted, finishes, ends, jobs_rules}

-- whether the moments of events never fall, from this one on
abbrev pub never_falls : ℕ → List Event → Bool
never_falls last [] = true
never_falls last (event ∷ events) = nat_le last event.moment && never_falls event.moment events

-- each of these events with its answer
abbrev pub run_of : QueueLine → List Event → Pairs Event Reply
run_of queue events = pairs_after jobs_rules queue [] events

-- ---- of events and replies

-- Of two replies that give a job to somebody, the second before the first's hold is over, both give it to the same worker, or a finished or dropped reply of the job came between them.
abbrev pub HasOneHolder : Pairs Event Reply → Type 0
HasOneHolder pairs = (j : ℕ) (before between after : Pairs Event Reply) (one two : Event × Reply) (first second : Hold)
    → pairs ≡ before ++ one ∷ (between ++ two ∷ after) → granted j one.0.act one.1 ≡ Some first → granted j two.0.act two.1 ≡ Some second → two.0.moment < first.until
    → (first.worker ≡ second.worker) ⊎ (list_any (λ pair. ends j pair.0.act pair.1) between ≡ true)

-- At most one reply says that a job is finished.
abbrev pub FinishesOnce : Pairs Event Reply → Type 0
FinishesOnce pairs = (j : ℕ) → count_by (λ pair. finishes j pair.0.act pair.1) pairs ≤ 1

-- Wherever a reply is a fault, all other events have the same replies in a run where the event of the fault didn't come.
abbrev pub FaultsLeaveNothing : QueueLine → Pairs Event Reply → Type 0
FaultsLeaveNothing queue pairs = (before after : Pairs Event Reply) (event : Event)
    → pairs ≡ before ++ (event, Fault) ∷ after → run_of queue (events_of before ++ events_of after) ≡ before ++ after

-- ---- of every run

-- No job has two holders, where moments never fall.
abbrev pub NoTwoHolders : Type 0
NoTwoHolders = (queue : QueueLine) (events : List Event) → never_falls 0 events ≡ true → HasOneHolder (run_of queue events)

-- No job is finished twice.
abbrev pub NoneFinishedTwice : Type 0
NoneFinishedTwice = (queue : QueueLine) (events : List Event) → FinishesOnce (run_of queue events)

-- Behind a fault everything is as if its event hadn't come.
abbrev pub AsIfItHadNotCome : Type 0
AsIfItHadNotCome = (queue : QueueLine) (events : List Event) → FaultsLeaveNothing queue (run_of queue events)

-- ---- of every script

-- The moments of a script never fall.
abbrev pub MomentsNeverFall : Type 0
MomentsNeverFall = (bytes : List ℕ) (script : Script QueueLine Event) → IsScript jobs_grammar bytes script → never_falls 0 script.lines.events ≡ true
