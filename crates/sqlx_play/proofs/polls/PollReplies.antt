-- The reply to a poll, by what the core's first step answers.
use Rattle.std.proofs.Common.{◌≡◌, ℕ, zero, suc, ◌-◌, ◌^◌, ◌≤◌, Bool, true, false, cond, List, [], ◌∷◌, map, take, Option, Some, None, option_map, nat_le, nat_lt, All, refl, sym, ap, ◌∙◌, arith}
use Rattle.std.proofs.lemmas.Bool.{le-ltb}
use Rattle.sqlx_pool_marks.specs.declared.mark.Mark.{Mark}
use Rattle.sqlx_pool_marks.specs.declared.turn.Turn.{Turn}
use Rattle.sqlx_pool_marks.specs.declared.turn.Turn.TheVariants as turn
use Rattle.sqlx_pool_marks.specs.Marks.{tickets_of, next_conn}
use Rattle.sqlx_pool_marks.specs.Counts.{asked_in, is_asked_by, before_in}
use Rattle.sqlx_pool_marks.specs.PollTable.{first_idle, turn_at_rest}
use Rattle.sqlx_pool_marks.specs.View.{view_of, free as free_in}
use Rattle.sqlx_pool_marks.proofs.ListFacts.{find-map, found_All}
use Rattle.sqlx_pool_lists.specs.declared.ticket.Ticket.{Ticket}
use Rattle.sqlx_pool_lists.specs.declared.ticket.Phase.{Phase}
use Rattle.sqlx_pool_lists.specs.declared.ticket.Phase.TheVariants as phase
use Rattle.sqlx_pool_lists.specs.declared.steps.Idle.{Idle}
use Rattle.sqlx_pool_lists.specs.declared.steps.Start.{Start}
use Rattle.sqlx_pool_lists.specs.declared.steps.Start.TheVariants as start
use Rattle.sqlx_pool_lists.specs.Core.{Core, asking, resting, is_out, is_of, ticket_of, free}
use Rattle.sqlx_pool_lists.specs.PollTable.{is_at_rest, backs_off_until}
use Rattle.sqlx_pool_lists.specs.CoreTurn.{core_turn, turn_of, is_first_in_line, before}
use Rattle.sqlx_pool_lists.specs.PollSteps.{start_answer}
use Rattle.sqlx_pool_lists.specs.StandsFor.{StandsFor}
use Rattle.sqlx_pool_core.proofs.Known.{ticket-number}
use Rattle.sqlx_pool_core.proofs.Stands.{stands-in}
use Rattle.sqlx_pool_core.proofs.TurnAtMarks.{free-places, before-asking}
use Rattle.mem_store.specs.Store.{Link}
use Rattle.sqlx_script.specs.declared.answers.PollAnswers.{PollAnswers}
use Rattle.sqlx_script.specs.declared.pool_line.PoolLine.{PoolLine}
use Rattle.sqlx_script.specs.declared.reply.Reply.{Reply}
use Rattle.sqlx_script.specs.declared.reply.Reply.TheVariants as reply
use Rattle.sqlx_script_rules.specs.ScriptMarks.{marks_of}
use Rattle.sqlx_script_rules.specs.Tries.{tries_of, until_of, until_after}
use Rattle.sqlx_script_rules.specs.Answer.{connect_reply, refused_tests, conn_at, passing_of, idle_reply, turn_reply, poll_reply}
use Rattle.sqlx_play.specs.stage.Scene.{Scene}
use Rattle.sqlx_play.specs.stage.StageStands.{IsTried, IsTriedAt, StageStands}
use Rattle.sqlx_script_rules.specs.Pairs.{Pairs}

-- the reply where the core's first step answers this
abbrev pub start_reply : Option ℕ → Reply → Start Link → Reply
start_reply passing connecting start.NotHeld = reply.NotHeld
start_reply passing connecting start.Closed = reply.PoolClosed
start_reply passing connecting start.TimedOut = reply.PoolTimedOut
start_reply passing connecting start.Exhausted = connecting
start_reply passing connecting start.Waiting = reply.Waiting
start_reply passing connecting (start.Backoff until) = reply.Backoff until
start_reply passing connecting (start.Test i) = idle_reply passing connecting
start_reply passing connecting start.Connect = connecting

-- where none is idle, none passes its test
none-at : (q n : ℕ) → conn_at q (take n []) ≡ None
none-at q zero = refl
none-at q (suc n) = refl

-- it is the reply by the turn
start-turn : (pool : PoolLine) (answers : PollAnswers) (connecting : Reply) (w : Turn) (idle : List (Idle Link))
    → start_reply (passing_of pool answers (map resting idle)) connecting (start_answer w idle) ≡ turn_reply (passing_of pool answers (map resting idle)) connecting w
start-turn pool answers connecting turn.NotHeld idle = refl
start-turn pool answers connecting turn.Closed idle = refl
start-turn pool answers connecting turn.TimedOut idle = refl
start-turn pool answers connecting turn.Exhausted idle = refl
start-turn pool answers connecting turn.Waiting idle = refl
start-turn pool answers connecting (turn.Backoff until) idle = refl
start-turn pool answers connecting turn.Test [] = ap (λ (o : Option ℕ). idle_reply o connecting) (sym (none-at (refused_tests pool answers) pool.tries))
start-turn pool answers connecting turn.Test (i ∷ rest) = refl
start-turn pool answers connecting turn.Connect idle = refl

-- where numbers are left, none need have been drawn
numbers-left : {X : Type 0} (m : ℕ) (q shut : Bool) (n : ℕ) (idle : List X) (deadline : ℕ) (left : Bool) (until : ℕ) → n ≤ 2 ^ 63 → turn_at_rest m q shut n idle deadline left until ≡ turn_at_rest m q shut 0 idle deadline left until
numbers-left m q shut n idle deadline left until few =
    ap (λ (b : Bool). cond shut turn.Closed (cond (nat_le deadline m) turn.TimedOut (cond left (cond (nat_lt m until) (turn.Backoff until) (cond b turn.Exhausted turn.Connect)) (cond q (cond b turn.Exhausted (first_idle idle)) turn.Waiting))))
    (le-ltb (2 ^ 63) n few)

-- what is made of each idle connection doesn't matter
turn-map : {X Y : Type 0} (f : X → Y) (m : ℕ) (q shut : Bool) (n : ℕ) (idle : List X) (deadline : ℕ) (left : Bool) (until : ℕ) → turn_at_rest m q shut n idle deadline left until ≡ turn_at_rest m q shut n (map f idle) deadline left until
turn-map f m q shut n [] deadline left until = refl
turn-map f m q shut n (x ∷ rest) deadline left until = refl

-- what the marks say of a ticket is what the core keeps for it
pub asked-is : {C : Type 0} (core : Core C) (marks : List Mark) (k t : ℕ) → StandsFor core marks → asked_in k t (tickets_of marks) ≡ option_map asking (ticket_of k t core.tickets)
asked-is core marks k t s = ap (asked_in k t) (sym s.tickets) ∙ find-map asking (is_asked_by k t) core.tickets

-- the tries of the ticket
pub tried-of : (k t : ℕ) (pairs : Pairs) (tickets : List Ticket) (x : Ticket) → All (IsTried pairs) tickets → ticket_of k t tickets ≡ Some x → IsTried pairs x
tried-of k t pairs tickets x all found = found_All (is_of k t) (IsTried pairs) tickets x found all

-- the free permits of the marks, where no place is held
pub free-is : (stage : Scene) (pairs : Pairs) → StageStands stage pairs → free_in stage.pool.max (view_of (marks_of stage.pool pairs)) ≡ free stage.core
free-is stage pairs s =
    sym (free-places stage.core (marks_of stage.pool pairs) (stands-in stage.core (marks_of stage.pool pairs) s.stands) ∙ (λ i. free_in ((s.stands.permits ∙ s.set_up.max) i) (view_of (marks_of stage.pool pairs)) - s.places i) ∙ omega arith)

module _ (stage : Scene) (pairs : Pairs) (s : StageStands stage pairs) (k t m : ℕ) (answers : PollAnswers) (few : stage.core.next_conn ≤ 2 ^ 63) where
  -- the reply where the ticket connects
  abbrev pub connecting : Option Ticket → Reply
  connecting None = reply.NotHeld
  connecting (Some x) = connect_reply stage.pool answers stage.core.next_conn (until_after m x.deadline (tries_of t pairs)) answers.connect

  -- the idle connection that passes its test
  abbrev pub passing : Option ℕ
  passing = passing_of stage.pool answers (map resting stage.core.idle)

  abbrev marks : List Mark
  marks = marks_of stage.pool pairs

  abbrev by_turn : Ticket → Turn → Reply
  by_turn x w = turn_reply passing (connecting (Some x)) w

  abbrev table : Ticket → Bool → ℕ → Turn
  table x left until = turn_at_rest m (is_first_in_line x.number stage.core) stage.core.shut 0 stage.core.idle x.deadline left until

  -- the reply by the marks
  to_core : (x : Ticket) → poll_reply stage.pool answers marks m (tries_of t pairs) (Some (asking x)) ≡ by_turn x (table x (is_out x.phase) (until_of (tries_of t pairs)))
  to_core x = by_marks ∙ ap (by_turn x) (sym (turn-map resting m (is_first_in_line x.number stage.core) stage.core.shut 0 stage.core.idle x.deadline (is_out x.phase) (until_of (tries_of t pairs))))
    where
      preceding : before_in x.number (tickets_of marks) ≡ before x.number stage.core.tickets
      preceding = sym (before-asking x.number stage.core.tickets ∙ ap (before_in x.number) s.stands.tickets)

      conn : connect_reply stage.pool answers (next_conn marks) (until_after m x.deadline (tries_of t pairs)) answers.connect ≡ connecting (Some x)
      conn = ap (λ (n : ℕ). connect_reply stage.pool answers n (until_after m x.deadline (tries_of t pairs)) answers.connect) (sym s.stands.conn_number)

      by_marks : poll_reply stage.pool answers marks m (tries_of t pairs) (Some (asking x))
          ≡ by_turn x (turn_at_rest m (is_first_in_line x.number stage.core) stage.core.shut 0 (map resting stage.core.idle) x.deadline (is_out x.phase) (until_of (tries_of t pairs)))
      by_marks = λ i.
          turn_reply (passing_of stage.pool answers (sym s.stands.idle i)) (conn i)
          (turn_at_rest m (nat_lt (preceding i) (free-is stage pairs s i)) (sym s.stands.shut i) 0 (sym s.stands.idle i) x.deadline (is_out x.phase) (until_of (tries_of t pairs)))

  -- the core's own turn
  from_core : (x : Ticket) (p : Phase) → t ≡ x.number → IsTriedAt pairs x p
      → cond (is_at_rest p) (turn_at_rest m (is_first_in_line t stage.core) stage.core.shut stage.core.next_conn stage.core.idle x.deadline (is_out p) (backs_off_until p)) turn.NotHeld
      ≡ table x (is_out p) (until_of (tries_of t pairs))
  from_core x phase.Waiting number h =
      numbers-left m (is_first_in_line t stage.core) stage.core.shut stage.core.next_conn stage.core.idle x.deadline false 0 few
      ∙ ap (λ (n : ℕ). turn_at_rest m (is_first_in_line n stage.core) stage.core.shut 0 stage.core.idle x.deadline false 0) number
  from_core x (phase.Backoff u) number h =
      let until : u ≡ until_of (tries_of t pairs) = sym (ap (λ (n : ℕ). until_of (tries_of n pairs)) number ∙ ap until_of h.2) in
      numbers-left m (is_first_in_line t stage.core) stage.core.shut stage.core.next_conn stage.core.idle x.deadline true u few
      ∙ ap (λ (n : ℕ). turn_at_rest m (is_first_in_line n stage.core) stage.core.shut 0 stage.core.idle x.deadline true u) number
      ∙ ap (λ (v : ℕ). table x true v) until
  from_core x (phase.Testing c created before) number h = absurd h
  from_core x phase.Connecting number h = absurd h

  at_ticket : (o : Option Ticket) → ticket_of k t stage.core.tickets ≡ o
      → poll_reply stage.pool answers marks m (tries_of t pairs) (option_map asking o)
      ≡ start_reply passing (connecting o) (start_answer (turn_of (is_first_in_line t stage.core) stage.core.shut m stage.core o) stage.core.idle)
  at_ticket None found = refl
  at_ticket (Some x) found =
      to_core x
      ∙ ap (by_turn x) (sym (from_core x x.phase (ticket-number k t stage.core.tickets x found) (tried-of k t pairs stage.core.tickets x s.tried found)))
      ∙ sym (start-turn stage.pool answers (connecting (Some x)) (turn_of (is_first_in_line t stage.core) stage.core.shut m stage.core (Some x)) stage.core.idle)

  -- the reply is that of the core's first step
  pub poll-reply : (r : Start Link) → r ≡ start_answer (core_turn stage.core k t m) stage.core.idle
      → start_reply passing (connecting (ticket_of k t stage.core.tickets)) r
      ≡ poll_reply stage.pool answers (marks_of stage.pool pairs) m (tries_of t pairs) (asked_in k t (tickets_of (marks_of stage.pool pairs)))
  poll-reply r own =
      ap (start_reply passing (connecting (ticket_of k t stage.core.tickets))) own
      ∙ sym (ap (poll_reply stage.pool answers (marks_of stage.pool pairs) m (tries_of t pairs)) (asked-is stage.core (marks_of stage.pool pairs) k t s.stands) ∙ at_ticket (ticket_of k t stage.core.tickets) refl)
