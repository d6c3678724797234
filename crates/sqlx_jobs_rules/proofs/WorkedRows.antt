-- Worked scripts: what their events are answered, by computing the definitions.
use Rattle.std.proofs.Common.{◌≡◌, List, map, [], ◌∷◌, codes, Some, None, refl}
use Rattle.sqlx_lines.specs.Numbers.{number_in}
use Rattle.sqlx_jobs_rules.specs.declared.queue_line.QueueLine.{QueueLine}
use Rattle.sqlx_jobs_rules.specs.declared.event.Event.{Event}
use Rattle.sqlx_jobs_rules.specs.declared.event.Act.TheVariants.{Add, Claim, Extend, Finish, Drop, Count}
use Rattle.sqlx_jobs_rules.specs.declared.event.Met.TheVariants.{Accepted, WriteRefused, CommitRefused}
use Rattle.sqlx_jobs_rules.specs.declared.reply.Reply.{Reply}
use Rattle.sqlx_jobs_rules.specs.declared.reply.Reply.TheVariants.{Fault, Job, Empty, Claimed, NotHeld, Extended, Finished, Dropped, Counted}
use Rattle.sqlx_player.specs.Output.{pairs_after}
use Rattle.sqlx_jobs_rules.specs.Grammar.{at, event_at, opening_of, event_words, opening_words, jobs_words, ending_fields, add_words, claim_words, drop_words}
use Rattle.sqlx_jobs_rules.specs.Jobs.{jobs_rules, hold_after, numbers_from}

-- ---- lines

first_line : opening_of (codes "jobs 2 10\n") ≡ Some (record { max = 2; lease = 10 })
unfolding opening_words jobs_words number_in
first_line = refl

-- a pool has at least one connection
no_pool : opening_of (codes "jobs 0 10\n") ≡ None
unfolding opening_words jobs_words number_in
no_pool = refl

claim_line : event_at 2 (codes "claim 10 3 i\n") ≡ Some (at 10 (Claim 3 WriteRefused))
unfolding event_words claim_words number_in
claim_line = refl

-- moments never fall
early_claim : event_at 11 (codes "claim 10 3 i\n") ≡ None
unfolding event_words claim_words number_in
early_claim = refl

drop_line : event_at 13 (codes "drop 13 3 1 +\n") ≡ Some (at 13 (Drop 3 1 Accepted))
unfolding event_words ending_fields drop_words number_in
drop_line = refl

-- the letter is one of three
no_letter : event_at 0 (codes "add 0 x\n") ≡ None
unfolding event_words add_words number_in
no_letter = refl

-- ---- replies

-- the replies to events
abbrev told : QueueLine → List Event → List Reply
told queue events = map (λ (pair : Event × Reply). pair.1) (pairs_after jobs_rules queue [] events)

-- a lease ends at its moment, and a refused commit changes nothing
leases_end : told (record { max = 2; lease = 10 }) (
    at 0 (Add Accepted) ∷ at 0 (Add Accepted) ∷ at 0 (Claim 1 Accepted) ∷ at 1 (Claim 2 Accepted) ∷ at 2 (Claim 3 Accepted) ∷ at 10 (Claim 3 Accepted) ∷
    at 10 (Finish 1 1 Accepted) ∷ at 10 (Finish 2 2 CommitRefused) ∷ at 10 (Finish 2 2 Accepted) ∷ at 10 (Finish 2 2 Accepted) ∷
    at 12 (Extend 3 1 Accepted) ∷ at 13 (Drop 3 1 Accepted) ∷ at 13 Count ∷ []) ≡ (
    Job 1 ∷ Job 2 ∷ Claimed 1 10 ∷ Claimed 2 11 ∷ Empty ∷ Claimed 1 20 ∷ NotHeld ∷ Fault ∷ Finished ∷ NotHeld ∷ Extended 22 ∷ Dropped ∷ Counted 1 0 1 ∷ [])
unfolding pairs_after hold_after numbers_from
leases_end = refl

-- refused claims leave the job to the next
refused_claims : told (record { max = 1; lease = 5 }) (
    at 0 (Claim 1 Accepted) ∷ at 0 (Finish 1 1 Accepted) ∷ at 0 (Add Accepted) ∷ at 0 (Claim 1 WriteRefused) ∷ at 0 (Claim 1 CommitRefused) ∷ at 0 (Claim 1 Accepted) ∷ at 5 (Claim 2 Accepted) ∷ []) ≡ (
    Empty ∷ NotHeld ∷ Job 1 ∷ Fault ∷ Fault ∷ Claimed 1 5 ∷ Claimed 1 10 ∷ [])
unfolding pairs_after hold_after numbers_from
refused_claims = refl
