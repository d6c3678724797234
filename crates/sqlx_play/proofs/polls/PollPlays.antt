-- A poll is played: its reply is the answer, and the stage stands for the pair.
use Rattle.std.proofs.Common.{◌≡◌, ℕ, ◌-◌, ◌^◌, ◌≤◌, ◌==◌, Bool, true, false, cond, List, [], ◌∷◌, ◌++◌, max, Some, None, refl, sym, ap, subst, ◌∙◌, arith}
use Rattle.std.proofs.Math.Nat.{max-eq_right}
use Rattle.std.proofs.lemmas.Bool.{eqb-true}
use Rattle.sqlx_text.specs.declared.Moment.{Moment}
use Rattle.sqlx_pool_marks.specs.declared.mark.Mark.{Mark}
use Rattle.sqlx_pool_lists.specs.declared.ticket.Phase.TheVariants as phase
use Rattle.sqlx_pool_lists.specs.declared.steps.Start.{Start}
use Rattle.sqlx_pool_marks.specs.Marks.{idle_of}
use Rattle.sqlx_pool_lists.specs.Core.{Core}
use Rattle.sqlx_pool_lists.specs.PollSteps.{start_answer}
use Rattle.sqlx_pool_lists.specs.CoreTurn.{core_turn}
use Rattle.sqlx_pool_core.proofs.Known.{ticket-number}
use Rattle.mem_store.specs.Store.{Link}
use Rattle.sqlx_script.specs.declared.answers.PollAnswers.{PollAnswers}
use Rattle.sqlx_script.specs.declared.reply.Reply.TheVariants as reply
use Rattle.sqlx_play.specs.stage.Scene.{Scene}
use Rattle.sqlx_script_rules.specs.ScriptMarks.{marks_of, waits, trying, polled}
use Rattle.sqlx_script_rules.specs.ScriptLevels.{gone_by, history_of}
use Rattle.sqlx_script_rules.specs.Tries.{tries_of, backed_off}
use Rattle.sqlx_play.specs.stage.StageStands.{IsTriedAt, StageStands, numbers_of}
use Rattle.sqlx_script_rules.proofs.Pairs.{tries_of-push}
use Rattle.sqlx_play.proofs.asks.CancelAndTry.{stays-standing}
use Rattle.sqlx_play.proofs.polls.PollTurns.{AtBackoff}
use Rattle.sqlx_play.proofs.polls.PollReplies.{tried-of}
use Rattle.sqlx_play.proofs.polls.PollMarks.{waits-backoff}
use Rattle.sqlx_play.proofs.polls.Polls.{pair_of}
use Rattle.sqlx_script_rules.specs.Pairs.{Pairs}

-- the next number of a connection is far from the last one
pub few-conns : (stage : Scene) → numbers_of stage ≤ 2 ^ 62 → stage.core.next_conn ≤ 2 ^ 63
few-conns stage few = omega (arith, few)

-- a moment in order is the one that the core goes by
pub own-now : (core : Core Link) (k t m : ℕ) (r : Start Link) → core.last ≤ m → r ≡ start_answer (core_turn core k t (max core.last m)) core.idle → r ≡ start_answer (core_turn core k t m) core.idle
own-now core k t m r late own = own ∙ ap (λ (n : ℕ). start_answer (core_turn core k t n) core.idle) (max-eq_right late)

-- ---- before the next try is due

-- the tries of every ticket are as before
early_tries : (stage : Scene) (pairs : Pairs) (moment : Moment) (k t until : ℕ) (answers : PollAnswers) → StageStands stage pairs → AtBackoff stage.core k t moment.0 until
    → (u : ℕ) → tries_of u (pairs ++ pair_of moment k t answers (reply.Backoff until) ∷ []) ≡ tries_of u pairs
early_tries stage pairs moment k t until answers s a u = tries_of-push u pairs (pair_of moment k t answers (reply.Backoff until)) ∙ by (u == t) refl
  where
    known : IsTriedAt pairs a.x (phase.Backoff until)
    known = subst (IsTriedAt pairs a.x) a.backs_off (tried-of k t pairs stage.core.tickets a.x s.tried a.found)

    by : (b : Bool) → (u == t) ≡ b → cond b (backed_off moment.0 until (tries_of u pairs)) (tries_of u pairs) ≡ tries_of u pairs
    by false e = refl
    by true e =
        let tries : tries_of u pairs ≡ Some (record { first = a.x.first_try.0; wait = known.0; until = until })
        = ap (λ (n : ℕ). tries_of n pairs) (eqb-true u t e ∙ ticket-number k t stage.core.tickets a.x a.found) ∙ known.2 in
        ap (backed_off moment.0 until) tries
        ∙ ap (λ (b : Bool). cond b (Some (record { first = a.x.first_try.0; wait = known.0; until = until })) (Some (record { first = a.x.first_try.0; wait = until - moment.0; until = until }))) a.early
        ∙ sym tries

pub early-stands : (stage : Scene) (core : Core Link) (pairs : Pairs) (moment : Moment) (k t until : ℕ) (answers : PollAnswers) → StageStands stage pairs → AtBackoff stage.core k t moment.0 until → core ≡ stage.core
    → StageStands (record stage { core = core }) (pairs ++ pair_of moment k t answers (reply.Backoff until) ∷ [])
early-stands stage core pairs moment k t until answers s a becomes =
    stays-standing stage pairs (pair_of moment k t answers (reply.Backoff until)) s (early_tries stage pairs moment k t until answers s a)
    (ap (λ (l : List Mark). gone_by l (history_of stage.pool pairs)) none_made) core becomes none_made
  where
    none_made : polled stage.pool.tries moment.0 k t (waits k t (marks_of stage.pool pairs)) (idle_of (marks_of stage.pool pairs)) (reply.Backoff until) ≡ []
    none_made = ap (λ (b : Bool). trying stage.pool.tries t b (idle_of (marks_of stage.pool pairs)) None) (waits-backoff stage.core (marks_of stage.pool pairs) k t s.stands a.x until a.found a.backs_off)
