-- A poll makes marks that may follow those before it, where its reply is the answer.
use Rattle.std.proofs.Common.{◌≡◌, ℕ, ◌<◌, ◌≤◌, ◌&&◌, Bool, true, false, not, if◌then◌else◌, List, [], ◌∷◌, ◌++◌, take, Option, Some, None, refl, sym, ap, ap₂, subst, ◌∙◌, arith}
use Rattle.std.specs.List.{list_any}
use Rattle.std.specs.Prelude.{nat_le, nat_lt}
use Rattle.std.proofs.lemmas.Bool.{ltb-true}
use Rattle.sqlx_pool_marks.specs.declared.mark.Mark.{Mark}
use Rattle.sqlx_pool_marks.specs.declared.mark.Mark.TheVariants as mark
use Rattle.sqlx_pool_marks.specs.Standing.{last_mark}
use Rattle.sqlx_pool_marks.specs.Marks.{PendingTicket, IdleEntry, tickets_of, idle_of, is_shut, next_conn}
use Rattle.sqlx_pool_marks.specs.Counts.{is_asked_by, asked_in}
use Rattle.sqlx_pool_marks.specs.declared.turn.Turn.{Turn}
use Rattle.sqlx_pool_marks.specs.declared.turn.Turn.TheVariants as turn
use Rattle.sqlx_pool_marks.specs.PollTable.{first_idle, in_time, turn_at_rest, is_first_at}
use Rattle.sqlx_pool_marks.specs.View.{View, view_of, before, free, size}
use Rattle.sqlx_pool_marks.specs.FairLog.{is_left_ticket_of, IsFair}
use Rattle.sqlx_pool_marks.proofs.ListFacts.{found_passes, found_any}
use Rattle.sqlx_pool_marks.proofs.ViewSteps.{IsFairBehind, fair_behind}
use Rattle.sqlx_pool_marks.proofs.SoundViews.{stepped_all}
use Rattle.sqlx_pool_marks.proofs.FairSteps.{behind-append, HasLeft, left-ends, left-opened, MayLeave, sound-log}
use Rattle.sqlx_script.specs.declared.answers.PollAnswers.{PollAnswers}
use Rattle.sqlx_script.specs.declared.answers.ConnectAnswer.{ConnectAnswer}
use Rattle.sqlx_script.specs.declared.answers.ConnectAnswer.TheVariants as connect
use Rattle.sqlx_script.specs.declared.pool_line.PoolLine.{PoolLine}
use Rattle.sqlx_script.specs.declared.reply.Reply.{Reply}
use Rattle.sqlx_script.specs.declared.reply.Reply.TheVariants as reply
use Rattle.sqlx_script_rules.specs.Tries.{Tries, until_of, until_after}
use Rattle.sqlx_script_rules.specs.ScriptMarks.{in_line, waits, is_among, refusing, reaching, trying, opening, polled}
use Rattle.sqlx_script_rules.specs.Answer.{is_set_up, connect_reply, refused_tests, passing_of, idle_reply, turn_reply, poll_reply}
use Rattle.sqlx_script_rules.proofs.FairTests.{new-among, leaves-refused, leaves-reached, at-among}
use Rattle.sqlx_script_rules.proofs.FairEvents.{fair-nothing, fair-within, fair-found_ended}

-- ---- a connect

module _ (pool : PoolLine) (answers : PollAnswers) (v : View) (last : Option Mark) (k t n m : ℕ) (line : Bool) (idle : List IdleEntry) (front : List Mark)
    (fair : IsFairBehind pool.max v last front) (left : HasLeft pool.max (stepped_all v front) (last_mark last front) k t) (new : (stepped_all v front).next_conn ≤ n)
    (fails : trying pool.tries t line idle None ≡ front) (opens : trying pool.tries t line idle (Some n) ≡ front) (opened : opening n m idle ≡ mark.Opened n m ∷ []) where
  with_none : IsFairBehind pool.max v last (trying pool.tries t line idle None)
  with_none = subst (IsFairBehind pool.max v last) (sym fails) fair

  with_end : IsFairBehind pool.max v last (trying pool.tries t line idle None ++ (mark.Ended t ∷ []))
  with_end = subst (λ (l : List Mark). IsFairBehind pool.max v last (l ++ (mark.Ended t ∷ []))) (sym fails)
      (behind-append pool.max v last front (mark.Ended t ∷ []) fair (left-ends pool.max (stepped_all v front) (last_mark last front) k t left))

  with_new : IsFairBehind pool.max v last (trying pool.tries t line idle (Some n) ++ (opening n m idle ++ (mark.Lent k n ∷ mark.Ended t ∷ [])))
  with_new = subst (λ (l : List Mark). IsFairBehind pool.max v last (l ++ (opening n m idle ++ (mark.Lent k n ∷ mark.Ended t ∷ [])))) (sym opens)
      (subst (λ (l : List Mark). IsFairBehind pool.max v last (front ++ (l ++ (mark.Lent k n ∷ mark.Ended t ∷ [])))) (sym opened)
      (behind-append pool.max v last front (mark.Opened n m ∷ mark.Lent k n ∷ mark.Ended t ∷ []) fair (left-opened pool.max (stepped_all v front) (last_mark last front) k t left n m new)))

  set_up_by : (until : ℕ) (b : Bool) → IsFairBehind pool.max v last (polled pool.tries m k t line idle (if b then reply.Ready n else reply.Backoff until))
  set_up_by until true = with_new
  set_up_by until false = with_none

  connects : (until : ℕ) (a : ConnectAnswer) → IsFairBehind pool.max v last (polled pool.tries m k t line idle (connect_reply pool answers n until a))
  connects until connect.Connected = set_up_by until (is_set_up pool answers)
  connects until connect.Transient = with_none
  connects until connect.ConnectIo = with_end
  connects until connect.ConnectDatabase = with_end

-- ---- a ticket that hasn't ended

module _ (pool : PoolLine) (many : 1 ≤ pool.tries) (answers : PollAnswers) (marks : List Mark) (f : IsFair pool.max [] marks) (m k t : ℕ) (tries : Option Tries) where
  abbrev v : View
  v = view_of marks

  abbrev last : Option Mark
  last = last_mark None marks

  within : size v ≤ pool.max
  within = fair-within pool.max marks f

  abbrev connecting : PendingTicket → Reply
  connecting a = connect_reply pool answers (next_conn marks) (until_after m a.deadline tries) answers.connect

  abbrev by_turn_of : PendingTicket → Turn → Reply
  by_turn_of a turn = turn_reply (passing_of pool answers (idle_of marks)) (connecting a) turn

  -- the marks of a poll with this reply
  abbrev by_reply : Reply → List Mark
  by_reply r = polled pool.tries m k t (waits k t marks) (idle_of marks) r

  -- what was proved of the line holds of the poll
  whole : (line : Bool) (r : Reply) → waits k t marks ≡ line → IsFairBehind pool.max v last (polled pool.tries m k t line (idle_of marks) r) → IsFair pool.max marks (by_reply r)
  whole line r is h = fair_behind pool.max marks (by_reply r) (subst (λ (w : Bool). IsFairBehind pool.max v last (polled pool.tries m k t w (idle_of marks) r)) (sym is) h)

  -- the next connection is not idle
  unused : is_among (next_conn marks) (idle_of marks) ≡ false
  unused = new-among v last (sound-log pool.max marks f) (next_conn marks) (omega arith)

  opens-new : opening (next_conn marks) m (idle_of marks) ≡ mark.Opened (next_conn marks) m ∷ []
  opens-new = ap (λ (b : Bool). if b then [] else mark.Opened (next_conn marks) m ∷ []) unused

  module _ (a : PendingTicket) (found : asked_in k t (tickets_of marks) ≡ Some a) (opened : list_any is_shut marks ≡ false) where
    stands : waits k t marks ≡ not a.left
    stands = ap in_line found

    -- ---- out of the line

    has_left : a.left ≡ true → HasLeft pool.max v last k t
    has_left left = record {
      sound = sound-log pool.max marks f;
      opened = opened;
      within = within;
      left = found_any (is_asked_by k t) (is_left_ticket_of k t) (tickets_of marks) a found (ap₂ ◌&&◌ (found_passes (is_asked_by k t) (tickets_of marks) a found) left);
    }

    tried_again : a.left ≡ true → (b : Bool) → IsFair pool.max marks (by_reply (by_turn_of a (if b then turn.Backoff (until_of tries) else turn.Connect)))
    tried_again left true = whole false (reply.Backoff (until_of tries)) (stands ∙ ap not left) tt
    tried_again left false = whole false (connecting a) (stands ∙ ap not left)
        (connects pool answers v last k t (next_conn marks) m false (idle_of marks) [] tt (has_left left) (omega arith) refl refl opens-new (until_after m a.deadline tries) answers.connect)

    -- ---- in the line

    module _ (waiting : a.left ≡ false) where
      in_the_line : waits k t marks ≡ true
      in_the_line = stands ∙ ap not waiting

      may_leave : before a.ticket v < free pool.max v → MayLeave pool.max v last k t a
      may_leave turn = record { sound = sound-log pool.max marks f; opened = opened; within = within; asked = found; waits = waiting; turn = turn }

      -- all that may be tested are refused, and a connect is tried
      refused_all : before a.ticket v < free pool.max v → IsFair pool.max marks (by_reply (connecting a))
      refused_all turn =
          let n = next_conn marks in
          let b = leaves-refused pool.max v last k t a (may_leave turn) pool.tries many (idle_of marks) refl in
          let number = b.number in
          whole true (connecting a) in_the_line
          (connects pool answers v last k t n m true (idle_of marks) (mark.Left t ∷ refusing (take pool.tries (idle_of marks))) b.fair b.left (omega (arith, number)) refl
          (ap (λ (c : Bool). mark.Left t ∷ (if c then reaching n (idle_of marks) else refusing (take pool.tries (idle_of marks)))) unused) opens-new (until_after m a.deadline tries) answers.connect)

      -- an idle connection passes its test, or none does
      by_passing : before a.ticket v < free pool.max v → (o : Option ℕ) → passing_of pool answers (idle_of marks) ≡ o → IsFair pool.max marks (by_reply (idle_reply o (connecting a)))
      by_passing turn None is = refused_all turn
      by_passing turn (Some c) is =
          let among : is_among c (idle_of marks) ≡ true = at-among (refused_tests pool answers) pool.tries (idle_of marks) c is in
          whole true (reply.Ready c) in_the_line
          (subst (λ (b : Bool). IsFairBehind pool.max v last ((mark.Left t ∷ (if b then reaching c (idle_of marks) else refusing (take pool.tries (idle_of marks)))) ++ ((if b then [] else mark.Opened c m ∷ []) ++ (mark.Lent k c ∷ mark.Ended t ∷ [])))) (sym among)
          (leaves-reached pool.max v last k t a (may_leave turn) c (idle_of marks) refl among))

      by_idle : before a.ticket v < free pool.max v → (idle : List IdleEntry) → IsFair pool.max marks (by_reply (by_turn_of a (first_idle idle)))
      by_idle turn [] = refused_all turn
      by_idle turn (r ∷ rest) = by_passing turn (passing_of pool answers (idle_of marks)) refl

      by_turn : (b : Bool) → is_first_at pool.max 0 marks a.ticket ≡ b → IsFair pool.max marks (by_reply (by_turn_of a (if b then first_idle (idle_of marks) else turn.Waiting)))
      by_turn true e = by_idle (ltb-true (before a.ticket v) (free pool.max v) e) (idle_of marks)
      by_turn false e = fair-nothing pool.max marks

    by_left : (b : Bool) → a.left ≡ b → IsFair pool.max marks (by_reply (by_turn_of a (in_time m (is_first_at pool.max 0 marks a.ticket) 0 (idle_of marks) b (until_of tries))))
    by_left true left = tried_again left (nat_lt m (until_of tries))
    by_left false waiting = by_turn waiting (is_first_at pool.max 0 marks a.ticket) refl

    by_time : (b : Bool) → IsFair pool.max marks (by_reply (by_turn_of a (if b then turn.TimedOut else in_time m (is_first_at pool.max 0 marks a.ticket) 0 (idle_of marks) a.left (until_of tries))))
    by_time true = fair-found_ended pool marks f k t a found
    by_time false = by_left a.left refl

  by_shut : (a : PendingTicket) → asked_in k t (tickets_of marks) ≡ Some a → (b : Bool) → list_any is_shut marks ≡ b
      → IsFair pool.max marks (by_reply (by_turn_of a (turn_at_rest m (is_first_at pool.max 0 marks a.ticket) b 0 (idle_of marks) a.deadline a.left (until_of tries))))
  by_shut a found true e = fair-found_ended pool marks f k t a found
  by_shut a found false e = by_time a found e (nat_le a.deadline m)

  by_asked : (o : Option PendingTicket) → asked_in k t (tickets_of marks) ≡ o → IsFair pool.max marks (by_reply (poll_reply pool answers marks m tries o))
  by_asked None e = fair-nothing pool.max marks
  by_asked (Some a) e = by_shut a e (list_any is_shut marks) refl

  pub fair-poll : IsFair pool.max marks (by_reply (poll_reply pool answers marks m tries (asked_in k t (tickets_of marks))))
  fair-poll = by_asked (asked_in k t (tickets_of marks)) refl
