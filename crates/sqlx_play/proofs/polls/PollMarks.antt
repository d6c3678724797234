-- The marks of a poll, by the steps that made them.
use Rattle.std.proofs.Common.{◌≡◌, ℕ, zero, suc, Bool, true, false, not, cond, List, [], ◌∷◌, ◌++◌, map, take, Option, Some, option_map, refl, sym, ap, ◌∙◌, inl, inr, ◌⊎◌, if◌then◌else◌, append-nil}
use Rattle.sqlx_pool_marks.specs.declared.mark.Mark.{Mark}
use Rattle.sqlx_pool_marks.specs.declared.mark.Mark.TheVariants as mark
use Rattle.sqlx_pool_lists.specs.declared.ticket.Ticket.{Ticket}
use Rattle.sqlx_pool_lists.specs.declared.ticket.Phase.{Phase}
use Rattle.sqlx_pool_lists.specs.declared.ticket.Phase.TheVariants as phase
use Rattle.sqlx_pool_lists.specs.declared.steps.Idle.{Idle}
use Rattle.sqlx_pool_marks.specs.Marks.{IdleEntry, idle_of}
use Rattle.sqlx_pool_lists.specs.Core.{Core, asking, resting, is_out, ticket_of}
use Rattle.sqlx_pool_lists.specs.PollSteps.{phase_for}
use Rattle.sqlx_pool_lists.specs.PollSteps as steps
use Rattle.sqlx_pool_lists.specs.StandsFor.{StandsFor}
use Rattle.sqlx_script.specs.declared.answers.PollAnswers.{PollAnswers}
use Rattle.sqlx_script.specs.declared.answers.ConnectAnswer.{ConnectAnswer}
use Rattle.sqlx_script.specs.declared.answers.ConnectAnswer.TheVariants as connect
use Rattle.sqlx_script.specs.declared.pool_line.PoolLine.{PoolLine}
use Rattle.sqlx_script.specs.declared.reply.Reply.{Reply}
use Rattle.sqlx_script.specs.declared.reply.Reply.TheVariants as reply
use Rattle.sqlx_savepoints.specs.Changes.{History, leaves}
use Rattle.sqlx_script_rules.specs.Answer.{is_set_up, connect_reply}
use Rattle.sqlx_script_rules.specs.ScriptMarks.{in_line, waits, is_among, refusing, reaching, polled}
use Rattle.sqlx_script_rules.specs.ScriptLevels.{gone_by}
use Rattle.sqlx_play.specs.events.ConnectByReply.{connect_marks}
use Rattle.sqlx_play.proofs.polls.PollTurns.{AtTest, AtConnect, IsDue}
use Rattle.sqlx_play.proofs.polls.PollReplies.{asked-is}

-- what is gone by some marks and then others
pub gone-append : (xs ys : List Mark) (past : History) → gone_by (xs ++ ys) past ≡ gone_by ys (gone_by xs past)
gone-append [] ys past = refl
gone-append (mark.Closed c ∷ xs) ys past = gone-append xs ys (leaves c ∷ past)
gone-append (mark.Detached c ∷ xs) ys past = gone-append xs ys (leaves c ∷ past)
gone-append (mark.Leaked c ∷ xs) ys past = gone-append xs ys (leaves c ∷ past)
gone-append (mark.Reaped c ∷ xs) ys past = gone-append xs ys (leaves c ∷ past)
gone-append (mark.Asked t k d ∷ xs) ys past = gone-append xs ys past
gone-append (mark.Left t ∷ xs) ys past = gone-append xs ys past
gone-append (mark.Taken c ∷ xs) ys past = gone-append xs ys past
gone-append (mark.Opened c m ∷ xs) ys past = gone-append xs ys past
gone-append (mark.Lent k c ∷ xs) ys past = gone-append xs ys past
gone-append (mark.Kept c m ∷ xs) ys past = gone-append xs ys past
gone-append (mark.Ended t ∷ xs) ys past = gone-append xs ys past
gone-append (mark.Shut ∷ xs) ys past = gone-append xs ys past

-- the ticket leaves the line where it stands in it
abbrev pub leaving : ℕ → Bool → List Mark
leaving t true = mark.Left t ∷ []
leaving t false = []

-- ---- whether the ticket stands in the line

module _ {C : Type 0} (core : Core C) (marks : List Mark) (k t : ℕ) (s : StandsFor core marks) where
  pub waits-is : (x : Ticket) → ticket_of k t core.tickets ≡ Some x → waits k t marks ≡ not (is_out x.phase)
  waits-is x found = ap in_line (asked-is core marks k t s) ∙ ap (λ (o : Option Ticket). in_line (option_map asking o)) found

  pub waits_true : (x : Ticket) → ticket_of k t core.tickets ≡ Some x → x.phase ≡ phase.Waiting → waits k t marks ≡ true
  waits_true x found waiting = waits-is x found ∙ ap (λ (p : Phase). not (is_out p)) waiting

  pub waits-backoff : (x : Ticket) (until : ℕ) → ticket_of k t core.tickets ≡ Some x → x.phase ≡ phase.Backoff until → waits k t marks ≡ false
  waits-backoff x until found backs_off = waits-is x found ∙ ap (λ (p : Phase). not (is_out p)) backs_off

  pub waits-test : (i : Idle C) → AtTest core k t i → waits k t marks ≡ true
  waits-test i a = waits_true a.x a.found a.waits

  -- a ticket that connects and stands in the line finds no idle connection
  pub idle-connect : (m : ℕ) → AtConnect core k t m → waits k t marks ≡ true → idle_of marks ≡ []
  idle-connect m a stands = by a.ways
    where
      by : ((a.x.phase ≡ phase.Waiting) × (core.idle ≡ [])) ⊎ IsDue m a.x → idle_of marks ≡ []
      by (inl first) = sym s.idle ∙ ap (map resting) first.1
      by (inr due) = absurd (let no : true ≡ false = sym stands ∙ waits-backoff a.x due.until a.found due.backs_off in cc)

  -- the core's first step marks that the ticket leaves the line where it stands in it
  pub leaving-connect : (m : ℕ) → AtConnect core k t m → steps.leaving t (phase_for k t core.tickets) [] ≡ leaving t (waits k t marks)
  leaving-connect m a = ap (λ (o : Option Ticket). steps.leaving t (option_map (λ (x : Ticket). x.phase) o) []) a.found ∙ by a.ways
    where
      by : ((a.x.phase ≡ phase.Waiting) × (core.idle ≡ [])) ⊎ IsDue m a.x → steps.leaving t (Some a.x.phase) [] ≡ leaving t (waits k t marks)
      by (inl first) = ap (λ (p : Phase). steps.leaving t (Some p) []) first.0 ∙ ap (leaving t) (sym (waits_true a.x a.found first.0))
      by (inr due) = ap (λ (p : Phase). steps.leaving t (Some p) []) due.backs_off ∙ ap (leaving t) (sym (waits-backoff a.x due.until a.found due.backs_off))

-- ---- the marks

-- What a connect comes to.
pub data Outcome : Type 0 where
  connected : Outcome
  backs_off : ℕ → Outcome
  broken : Outcome
  refused : Outcome

-- the reply to it, where the next connection is number n
abbrev pub reply_by : ℕ → Outcome → Reply
reply_by n connected = reply.Ready n
reply_by n (backs_off until) = reply.Backoff until
reply_by n broken = reply.Io
reply_by n refused = reply.DatabaseRefused

-- what the letters of a poll make of a connect
abbrev pub outcome_of : PoolLine → PollAnswers → ℕ → ConnectAnswer → Outcome
outcome_of pool answers until connect.Connected = if is_set_up pool answers then connected else backs_off until
outcome_of pool answers until connect.Transient = backs_off until
outcome_of pool answers until connect.ConnectIo = broken
outcome_of pool answers until connect.ConnectDatabase = refused

pub outcome-is : (pool : PoolLine) (answers : PollAnswers) (n until : ℕ) (a : ConnectAnswer) → connect_reply pool answers n until a ≡ reply_by n (outcome_of pool answers until a)
outcome-is pool answers n until connect.Connected = by (is_set_up pool answers)
  where
    by : (b : Bool) → cond b (reply.Ready n) (reply.Backoff until) ≡ reply_by n (cond b connected (backs_off until))
    by true = refl
    by false = refl
outcome-is pool answers n until connect.Transient = refl
outcome-is pool answers n until connect.ConnectIo = refl
outcome-is pool answers n until connect.ConnectDatabase = refl

-- a backoff is until the moment that the letters call for
pub outcome-until : (pool : PoolLine) (answers : PollAnswers) (until u : ℕ) (a : ConnectAnswer) → outcome_of pool answers until a ≡ backs_off u → u ≡ until
outcome-until pool answers until u connect.Connected e = by (is_set_up pool answers) e
  where
    by : (b : Bool) → cond b connected (backs_off until) ≡ backs_off u → u ≡ until
    by true e = absurd cc
    by false e = cc
outcome-until pool answers until u connect.Transient e = cc
outcome-until pool answers until u connect.ConnectIo e = absurd cc
outcome-until pool answers until u connect.ConnectDatabase e = absurd cc

-- a connect after all tests were refused
pub refused-marks : (tries m k t n : ℕ) (idle : List IdleEntry) (o : Outcome) → is_among n idle ≡ false
    → (mark.Left t ∷ refusing (take tries idle)) ++ connect_marks k t m (reply_by n o) ≡ polled tries m k t true idle (reply_by n o)
refused-marks tries m k t n idle connected new =
    λ i. (mark.Left t ∷ cond (sym new i) (reaching n idle) (refusing (take tries idle))) ++ (cond (sym new i) [] (mark.Opened n m ∷ []) ++ (mark.Lent k n ∷ mark.Ended t ∷ []))
refused-marks tries m k t n idle (backs_off until) new = append-nil (mark.Left t ∷ refusing (take tries idle))
refused-marks tries m k t n idle broken new = refl
refused-marks tries m k t n idle refused new = refl

none-refused : (n : ℕ) → refusing (take n []) ≡ []
none-refused zero = refl
none-refused (suc n) = refl

-- a connect without an idle connection
pub connect-marks : (tries m k t n : ℕ) (line : Bool) (idle : List IdleEntry) (o : Outcome) → (line ≡ true → idle ≡ []) → is_among n idle ≡ false
    → leaving t line ++ connect_marks k t m (reply_by n o) ≡ polled tries m k t line idle (reply_by n o)
connect-marks tries m k t n true idle o none new =
    (λ i. (mark.Left t ∷ sym (none-refused tries) i) ++ connect_marks k t m (reply_by n o))
    ∙ refused-marks tries m k t n [] o refl
    ∙ ap (λ (l : List IdleEntry). polled tries m k t true l (reply_by n o)) (sym (none refl))
connect-marks tries m k t n false idle connected none new = λ i. cond (sym new i) [] (mark.Opened n m ∷ []) ++ (mark.Lent k n ∷ mark.Ended t ∷ [])
connect-marks tries m k t n false idle (backs_off until) none new = refl
connect-marks tries m k t n false idle broken none new = refl
connect-marks tries m k t n false idle refused none new = refl

-- no connect closes a connection that the history knows
pub connect-gone : (m k t n : ℕ) (o : Outcome) (past : History) → gone_by (connect_marks k t m (reply_by n o)) past ≡ past
connect-gone m k t n connected past = refl
connect-gone m k t n (backs_off until) past = refl
connect-gone m k t n broken past = refl
connect-gone m k t n refused past = refl
