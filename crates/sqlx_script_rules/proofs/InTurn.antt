-- When a waiting ticket stops waiting.
use Rattle.std.proofs.Common.{◌≡◌, ◌≢◌, ◌↔◌, ℕ, ◌<◌, Bool, true, false, List, [], ◌∷◌, Option, Some, None, refl, sym, ap, subst, ◌∙◌, arith, if◌then◌else◌, nat_le, nat_lt}
use Rattle.std.specs.List.{list_any}
use Rattle.std.proofs.lemmas.Bool.{not-true}
use Rattle.std.proofs.lemmas.Bool.Decides.{nat_tests}
use Rattle.sqlx_pool_marks.specs.declared.mark.Mark.{Mark}
use Rattle.sqlx_pool_marks.specs.Marks.{PendingTicket, IdleEntry, tickets_of, idle_of, is_shut, is_open, next_conn}
use Rattle.sqlx_pool_marks.specs.declared.turn.Turn.{Turn}
use Rattle.sqlx_pool_marks.specs.declared.turn.Turn.TheVariants as turn
use Rattle.sqlx_pool_marks.specs.PollTable.{first_idle, is_first_at}
use Rattle.sqlx_pool_marks.specs.Counts.{asked_in}
use Rattle.sqlx_pool_marks.specs.View.{view_of, before, free}
use Rattle.sqlx_script.specs.declared.pool_line.PoolLine.{PoolLine}
use Rattle.sqlx_script.specs.declared.answers.PollAnswers.{PollAnswers}
use Rattle.sqlx_script.specs.declared.answers.ConnectAnswer.{ConnectAnswer}
use Rattle.sqlx_script.specs.declared.answers.ConnectAnswer.TheVariants as connect
use Rattle.sqlx_script.specs.declared.reply.Reply.{Reply}
use Rattle.sqlx_script.specs.declared.reply.Reply.TheVariants as reply
use Rattle.sqlx_script_rules.specs.Tries.{Tries, tries_of, until_after}
use Rattle.sqlx_script_rules.specs.ScriptMarks.{marks_of}
use Rattle.sqlx_script_rules.specs.Answer.{answer, passing_of, is_set_up, connect_reply, idle_reply, turn_reply, ticket_turn, poll_reply}
use Rattle.sqlx_script_rules.specs.Laws.{StopsWaitingInTurn}

ready_or_back : (b : Bool) (c until : ℕ) → (if b then reply.Ready c else reply.Backoff until) ≢ reply.Waiting
ready_or_back true c until e = cc
ready_or_back false c until e = cc

-- a try of a connect doesn't wait
connects : (pool : PoolLine) (answers : PollAnswers) (c until : ℕ) (a : ConnectAnswer) → connect_reply pool answers c until a ≢ reply.Waiting
connects pool answers c until connect.Connected e = ready_or_back (is_set_up pool answers) c until e
connects pool answers c until connect.Transient e = cc
connects pool answers c until connect.ConnectIo e = cc
connects pool answers c until connect.ConnectDatabase e = cc

-- nor does a test of idle connections
tests : (passing : Option ℕ) (other : Reply) → other ≢ reply.Waiting → idle_reply passing other ≢ reply.Waiting
tests None other h e = h e
tests (Some c) other h e = cc

-- whatever is tried
tried : (passing : Option ℕ) (idle : List IdleEntry) (other : Reply) → other ≢ reply.Waiting → turn_reply passing other (first_idle idle) ≢ reply.Waiting
tried passing [] other h e = h e
tried passing (r ∷ rest) other h e = tests passing other h e

-- the reply in the line, by whether the ticket is entitled
line_at : (b : Bool) (passing : Option ℕ) (idle : List IdleEntry) (other : Reply) → other ≢ reply.Waiting → (turn_reply passing other (if b then first_idle idle else turn.Waiting) ≢ reply.Waiting) ↔ (b ≡ true)
line_at true passing idle other h = (λ n. refl, λ e. tried passing idle other h)
line_at false passing idle other h = (λ n. absurd (n refl), λ e. absurd cc)

entitled : (before free : ℕ) → (nat_lt before free ≡ true) ↔ (before < free)
entitled before free = (λ e. grind (arith, nat_tests), λ h. grind (arith, nat_tests))

both : {A B C : Type 0} → (A ↔ B) → (B ↔ C) → (A ↔ C)
both f g = (λ a. g.0 (f.0 a), λ c. f.1 (g.1 c))

late : (deadline m : ℕ) → m < deadline → nat_le deadline m ≡ false
late deadline m h = grind (arith, nat_tests)

-- the turn of a waiting ticket, in time in an open pool
waiting_turn : (pool : PoolLine) (marks : List Mark) (m : ℕ) (tries : Option Tries) (a : PendingTicket) → is_open marks ≡ true → a.left ≡ false → m < a.deadline
    → ticket_turn pool marks m tries a ≡ (if is_first_at pool.max 0 marks a.ticket then first_idle (idle_of marks) else turn.Waiting)
waiting_turn pool marks m tries a opened waits in_time =
    let unshut : list_any is_shut marks ≡ false = not-true (list_any is_shut marks) opened in
    rw (unshut, late a.deadline m in_time, waits) refl

pub stops-in-turn : StopsWaitingInTurn
unfolding answer
stops-in-turn pool pairs moment client ticket answers a w =
    let marks = marks_of pool pairs in
    let tries = tries_of ticket pairs in
    let connecting = connect_reply pool answers (next_conn marks) (until_after moment.0 a.deadline tries) answers.connect in
    let h : connecting ≢ reply.Waiting = connects pool answers (next_conn marks) (until_after moment.0 a.deadline tries) answers.connect in
    let by_turn : Turn → Reply = turn_reply (passing_of pool answers (idle_of marks)) connecting in
    let is : poll_reply pool answers marks moment.0 tries (asked_in client ticket (tickets_of marks)) ≡ by_turn (if is_first_at pool.max 0 marks a.ticket then first_idle (idle_of marks) else turn.Waiting) =
    ap (poll_reply pool answers marks moment.0 tries) w.asked ∙ ap by_turn (waiting_turn pool marks moment.0 tries a w.opened w.waits w.in_time) in
    subst (λ (r : Reply). (r ≢ reply.Waiting) ↔ (before a.ticket (view_of marks) < free pool.max (view_of marks))) (sym is)
    (both (line_at (is_first_at pool.max 0 marks a.ticket) (passing_of pool answers (idle_of marks)) (idle_of marks) connecting h) (entitled (before a.ticket (view_of marks)) (free pool.max (view_of marks))))
