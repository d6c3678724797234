-- What the laws of a script tell: a worked script, and replies that aren't the answers, which break each of them.
use Rattle.std.specs.Prelude.{◌≡◌, ℕ, ◌<◌, ◌≤◌, false, List, [], ◌∷◌, ◌++◌, Option, Some, None, refl}
use Rattle.std.proofs.Common.{arith}
use Rattle.sqlx_savepoints.specs.Texts.{begin_at}
use Rattle.sqlx_pool_marks.specs.declared.mark.Mark.TheVariants as mark
use Rattle.sqlx_pool_marks.specs.Laws.{NoTwoOwners, InTurn}
use Rattle.sqlx_script.specs.declared.answers.StatementAnswer.TheVariants as met
use Rattle.sqlx_script.specs.declared.pool_line.PoolLine.{PoolLine}
use Rattle.sqlx_script.specs.declared.step.Event.{Event}
use Rattle.sqlx_script.specs.declared.step.Step.{Step}
use Rattle.sqlx_script.specs.declared.step.Step.TheVariants as step
use Rattle.sqlx_script.specs.declared.reply.Reply.TheVariants as reply
use Rattle.sqlx_script_rules.proofs.Worked.{plain_pool, good, returns_well, at}
use Rattle.sqlx_script_rules.specs.ScriptMarks.{marks_after, marks_of}
use Rattle.sqlx_script_rules.specs.ScriptLevels.{history_from}
use Rattle.sqlx_script_rules.specs.Tries.{tries_after}
use Rattle.sqlx_script_rules.specs.Answer.{answer}
use Rattle.sqlx_script_rules.specs.Headline.{RestsUnowned, LendsAtRest, KeepsMaximum, IsWaiting, WaitsInTurn}
use Rattle.sqlx_player.specs.Output.{pairs_after}
use Rattle.sqlx_script_rules.specs.Output.{pool_rules}
use Rattle.sqlx_script_rules.specs.Pairs.{Pairs}

-- one connection for all
abbrev pool : PoolLine
pool = plain_pool 1 5000000

abbrev at_once : Step → Event
at_once s = at 0 s

abbrev ask : ℕ → Event
ask client = at_once (step.Ask client)

-- a poll whose connect succeeds
abbrev poll : ℕ → ℕ → Event
poll client ticket = at_once (step.Poll client ticket good)

abbrev begin : ℕ → ℕ → Event
begin client conn = at_once (step.Begin client conn met.Runs)

abbrev give : ℕ → ℕ → Event
give client conn = at_once (step.Give client conn returns_well 0)

-- ---- the answers

-- The second loan of the connection comes after the first has ended.
abbrev events : List Event
events = ask 1 ∷ poll 1 1 ∷ ask 2 ∷ poll 2 2 ∷ give 1 1 ∷ poll 2 2 ∷ []

lends_again : marks_of pool (pairs_after pool_rules pool [] events)
    ≡ (mark.Asked 1 1 5000000 ∷ mark.Left 1 ∷ mark.Opened 1 0 ∷ mark.Lent 1 1 ∷ mark.Ended 1 ∷ mark.Asked 2 2 5000000 ∷ mark.Kept 1 0 ∷ mark.Left 2 ∷ mark.Taken 1 ∷ []) ++ mark.Lent 2 1 ∷ mark.Ended 2 ∷ []
unfolding pairs_after answer marks_after history_from tries_after
lends_again = refl

-- A connection that comes back with an open level is closed, and its level is gone.
abbrev in_level : List Event
in_level = ask 1 ∷ poll 1 1 ∷ begin 1 1 ∷ give 1 1 ∷ []

comes_back : pairs_after pool_rules pool [] in_level ≡ (ask 1, reply.Ticket 1) ∷ (poll 1 1, reply.Ready 1) ∷ (begin 1 1, reply.Level 1 (begin_at 0)) ∷ (give 1 1, reply.Closed 0) ∷ []
unfolding pairs_after answer marks_after history_from tries_after
comes_back = refl

-- ---- replies that aren't the answers

-- the second client is given the connection that the first still has
abbrev lent_twice : Pairs
lent_twice = (ask 1, reply.Ticket 1) ∷ (poll 1 1, reply.Ready 1) ∷ (ask 2, reply.Ticket 2) ∷ (poll 2 2, reply.Ready 1) ∷ []

two_owners : NoTwoOwners [] (marks_of pool lent_twice) → ⊥
unfolding marks_after
two_owners h =
    let none : ◌≡◌ {A = Option ℕ} (Some 1) None =
    h (mark.Asked 1 1 5000000 ∷ mark.Left 1 ∷ mark.Opened 1 0 ∷ mark.Lent 1 1 ∷ mark.Ended 1 ∷ mark.Asked 2 2 5000000 ∷ mark.Left 2 ∷ mark.Opened 1 0 ∷ []) (mark.Ended 2 ∷ []) 2 1 refl in
    cc

-- a connection is kept with its level open
abbrev kept_in_level : Pairs
kept_in_level = (ask 1, reply.Ticket 1) ∷ (poll 1 1, reply.Ready 1) ∷ (begin 1 1, reply.Level 1 (begin_at 0)) ∷ (give 1 1, reply.Kept) ∷ []

level_at_rest : RestsUnowned pool kept_in_level → ⊥
unfolding marks_after history_from
level_at_rest h = let none : 1 ≡ 0 = h kept_in_level [] refl 1 refl in omega (arith, none)

-- the second in line goes first
abbrev out_of_turn : Pairs
out_of_turn = (ask 1, reply.Ticket 1) ∷ (ask 2, reply.Ticket 2) ∷ (poll 2 2, reply.Ready 1) ∷ []

jumps_the_line : InTurn 1 [] (marks_of pool out_of_turn) → ⊥
unfolding marks_after
jumps_the_line h = let turn : 1 < 1 = (h (mark.Asked 1 1 5000000 ∷ mark.Asked 2 2 5000000 ∷ []) (mark.Opened 1 0 ∷ mark.Lent 2 1 ∷ mark.Ended 2 ∷ []) 2 refl).1 in omega (arith, turn)

-- both have a connection, where the maximum is one
abbrev one_too_many : Pairs
one_too_many = (ask 1, reply.Ticket 1) ∷ (poll 1 1, reply.Ready 1) ∷ (ask 2, reply.Ticket 2) ∷ (poll 2 2, reply.Ready 2) ∷ []

beyond_the_maximum : KeepsMaximum pool one_too_many → ⊥
unfolding marks_after
beyond_the_maximum h = let within : 2 ≤ 1 = h one_too_many [] refl in omega (arith, within)

-- the second client is given, by its poll, a connection that was kept with its level open
abbrev lent_in_level : Pairs
lent_in_level = (ask 1, reply.Ticket 1) ∷ (poll 1 1, reply.Ready 1) ∷ (begin 1 1, reply.Level 1 (begin_at 0)) ∷ (give 1 1, reply.Kept) ∷ (ask 2, reply.Ticket 2) ∷ []

lends_mid_transaction : LendsAtRest pool (lent_in_level ++ (poll 2 2, reply.Ready 1) ∷ []) → ⊥
unfolding marks_after history_from
lends_mid_transaction h = let none : 1 ≡ 0 = h lent_in_level [] (poll 2 2, reply.Ready 1) (mark.Left 2 ∷ mark.Taken 1 ∷ []) (mark.Ended 2 ∷ []) 2 1 refl refl in omega (arith, none)

-- a ticket that is first in the line is told to wait
abbrev told_to_wait : Pairs
told_to_wait = (ask 1, reply.Ticket 1) ∷ (poll 1 1, reply.Waiting) ∷ []

waits_for_nothing : WaitsInTurn pool told_to_wait → ⊥
unfolding marks_after
waits_for_nothing h =
    let first : IsWaiting pool ((ask 1, reply.Ticket 1) ∷ []) 0 1 1 (record { ticket = 1; client = 1; deadline = 5000000; left = false }) = record { asked = refl; waits = refl; opened = refl; in_time = omega arith } in
    (h ((ask 1, reply.Ticket 1) ∷ []) [] (record { 0 = 0 }) 1 1 good reply.Waiting refl _ first).1 (omega arith) refl
