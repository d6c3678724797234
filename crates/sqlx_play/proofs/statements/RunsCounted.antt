-- How a stage's events change the counts of its store.
use Rattle.std.proofs.Common.{◌≡◌, ℕ, zero, suc, ℤ, pos, ◌==◌, Bool, true, false, cond, inl, inr, Option, Some, None, Result, Ok, Err, IfOk, refl, sym, ap, subst, ◌∙◌}
use Rattle.mem_store.specs.declared.runs.Runs.{Runs as Counts}
use Rattle.mem_store.specs.declared.refusal.Refusal.{Refusal}
use Rattle.mem_store.specs.declared.refusal.Refusal.TheVariants.{Fault, Refused, Unread, Deep, Busy}
use Rattle.mem_store.specs.Store.{Store, Session}
use Rattle.mem_store.specs.Acts.{refusal_of, counted, level_counted, ended_counted, seen_by, store_read, after_start_rollback}
use Rattle.sqlx_savepoints.specs.Texts.{begin_at, commit_at, rollback_at}
use Rattle.sqlx_script.specs.declared.answers.StatementAnswer.{StatementAnswer}
use Rattle.sqlx_script.specs.declared.step.Step.{Step}
use Rattle.sqlx_script.specs.declared.step.Step.TheVariants as step
use Rattle.sqlx_script.specs.declared.reply.Reply.{Reply}
use Rattle.sqlx_script.specs.declared.reply.Reply.TheVariants as reply
use Rattle.sqlx_text.specs.declared.out_of_memory.OutOfMemory.{OutOfMemory}
use Rattle.sqlx_play.specs.stage.Scene.{Scene}
use Rattle.sqlx_play_acts.specs.declared.act.Act.{Act}
use Rattle.sqlx_play_acts.specs.declared.act.Act.TheVariants as act
use Rattle.sqlx_play.specs.declared.stage.loans.statements.Statement.{Statement}
use Rattle.sqlx_play_acts.specs.ClientActs.{statement_at, refused_reply, found_reply, reply_met, left_met, reply_within, reply_on, left_by}
use Rattle.sqlx_play.specs.ScriptRuns.{runs_after}
use Rattle.sqlx_play.specs.events.StatementRuns.{done_by, Runs, at_work}

-- the counts after a session's act are those of its step and reply
abbrev Counted : Step → Act → Session → Type 0
Counted s a session = (left_by a session).store.runs ≡ runs_after s (reply_on a session) session.store.runs

-- the refusal that the act's statement meets
abbrev met_by : Act → Session → Option Refusal
met_by act s = refusal_of (Some (statement_at act s.link.depth)) s

-- the same, by the refusal
abbrev CountedMet : Step → Act → Session → Option Refusal → Type 0
CountedMet s a session r = (left_met a session r).store.runs ≡ runs_after s (reply_met a session r) session.store.runs

-- what holds of each reply to a refused statement
by_refusal : (P : Reply → Type 0) → P reply.Io → P reply.DatabaseRefused → P reply.DatabaseDeep → P reply.DatabaseBusy → (reason : Refusal) → P (refused_reply reason)
by_refusal P io refused deep busy Fault = io
by_refusal P io refused deep busy Refused = refused
by_refusal P io refused deep busy Unread = refused
by_refusal P io refused deep busy Deep = deep
by_refusal P io refused deep busy Busy = busy

begun-counted : (d : ℕ) (runs : Counts) → level_counted (begin_at d) runs ≡ record runs { begun = counted runs.begun }
begun-counted zero runs = refl
begun-counted (suc d) runs = refl

committed-counted : (d : ℕ) (runs : Counts) → level_counted (commit_at d) runs ≡ ended_counted runs
committed-counted zero runs = refl
committed-counted (suc zero) runs = refl
committed-counted (suc (suc d)) runs = refl

rolled-counted : (d : ℕ) (runs : Counts) → level_counted (rollback_at d) runs ≡ ended_counted runs
rolled-counted zero runs = refl
rolled-counted (suc zero) runs = refl
rolled-counted (suc (suc d)) runs = refl

begin-met : (k c : ℕ) (x : StatementAnswer) (session : Session) (r : Option Refusal) → CountedMet (step.Begin k c x) act.Begin session r
begin-met k c x session None = begun-counted session.link.depth session.store.runs
begin-met k c x session (Some reason) = by_refusal (λ r. session.store.runs ≡ runs_after (step.Begin k c x) r session.store.runs) refl refl refl refl reason

custom-met : (k c : ℕ) (begins : Bool) (x : StatementAnswer) (session : Session) (r : Option Refusal) → CountedMet (step.Custom k c begins x) (act.Custom begins) session r
custom-met k c true x session None = refl
custom-met k c false x session None = refl
custom-met k c begins x session (Some reason) = by_refusal (λ r. session.store.runs ≡ runs_after (step.Custom k c begins x) r session.store.runs) refl refl refl refl reason

put-met : (k c key : ℕ) (value : ℤ) (x : StatementAnswer) (session : Session) (r : Option Refusal) → CountedMet (step.Put k c key x value) (act.Put (pos key) value) session r
put-met k c key value x session None = refl
put-met k c key value x session (Some reason) = by_refusal (λ r. session.store.runs ≡ runs_after (step.Put k c key x value) r session.store.runs) refl refl refl refl reason

del-met : (k c key : ℕ) (x : StatementAnswer) (session : Session) (r : Option Refusal) → CountedMet (step.Del k c key x) (act.Delete (pos key)) session r
del-met k c key x session None = refl
del-met k c key x session (Some reason) = by_refusal (λ r. session.store.runs ≡ runs_after (step.Del k c key x) r session.store.runs) refl refl refl refl reason

get-met : (k c key : ℕ) (x : StatementAnswer) (session : Session) (r : Option Refusal) → CountedMet (step.Get k c key x) (act.Get (pos key)) session r
get-met k c key x session None =
    elim (seen_by (pos key) session) as (λ (v : Option ℤ). (store_read session.store).runs ≡ runs_after (step.Get k c key x) (found_reply v) session.store.runs) [ None ↦ refl | Some v ↦ refl ]
get-met k c key x session (Some reason) = by_refusal (λ r. session.store.runs ≡ runs_after (step.Get k c key x) r session.store.runs) refl refl refl refl reason

commit-met : (k c : ℕ) (x : StatementAnswer) (session : Session) (r : Option Refusal) → CountedMet (step.Commit k c x) act.Commit session r
commit-met k c x session None = committed-counted session.link.depth session.store.runs
commit-met k c x session (Some reason) = by_refusal (λ r. ended_counted session.store.runs ≡ runs_after (step.Commit k c x) r session.store.runs) refl refl refl refl reason

rollback-met : (k c : ℕ) (x : StatementAnswer) (session : Session) (r : Option Refusal) → CountedMet (step.Rollback k c x) act.Rollback session r
rollback-met k c x session None = rolled-counted session.link.depth session.store.runs
rollback-met k c x session (Some reason) = by_refusal (λ r. ended_counted session.store.runs ≡ runs_after (step.Rollback k c x) r session.store.runs) refl refl refl refl reason

-- the act at the depth of the session: none where there is no level to end, and a custom in a level runs nothing
at_depth : (s : Step) (session left : Session) (else_reply r : Reply) (b : Bool) → session.store.runs ≡ runs_after s else_reply session.store.runs → left.store.runs ≡ runs_after s r session.store.runs
    → (cond b session left).store.runs ≡ runs_after s (cond b else_reply r) session.store.runs
at_depth s session left else_reply r true none some = none
at_depth s session left else_reply r false none some = some

outside_only : (s : Step) (session left : Session) (else_reply r : Reply) (b : Bool) → session.store.runs ≡ runs_after s else_reply session.store.runs → left.store.runs ≡ runs_after s r session.store.runs
    → (cond b left session).store.runs ≡ runs_after s (cond b r else_reply) session.store.runs
outside_only s session left else_reply r true none some = some
outside_only s session left else_reply r false none some = none

step-counted : (s : Step) (a : Act) (session : Session) → done_by s ≡ Some a → Counted s a session
step-counted (step.Begin k c x) a session e =
    let same : act.Begin ≡ a = cc in subst (λ (a : Act). Counted (step.Begin k c x) a session) same (begin-met k c x session (met_by act.Begin session))
step-counted (step.Custom k c begins x) a session e =
    let same : act.Custom begins ≡ a = cc in
    let met = met_by (act.Custom begins) session in
    subst (λ (a : Act). Counted (step.Custom k c begins x) a session) same
    (outside_only (step.Custom k c begins x) session (left_met (act.Custom begins) session met) reply.InvalidSavePointStatement (reply_met (act.Custom begins) session met) (session.link.depth == 0) refl
    (custom-met k c begins x session met))
step-counted (step.Put k c key x value) a session e =
    let same : act.Put (pos key) value ≡ a = cc in
    subst (λ (a : Act). Counted (step.Put k c key x value) a session) same (put-met k c key value x session (met_by (act.Put (pos key) value) session))
step-counted (step.Del k c key x) a session e =
    let same : act.Delete (pos key) ≡ a = cc in
    subst (λ (a : Act). Counted (step.Del k c key x) a session) same (del-met k c key x session (met_by (act.Delete (pos key)) session))
step-counted (step.Get k c key x) a session e =
    let same : act.Get (pos key) ≡ a = cc in
    subst (λ (a : Act). Counted (step.Get k c key x) a session) same (get-met k c key x session (met_by (act.Get (pos key)) session))
step-counted (step.Commit k c x) a session e =
    let same : act.Commit ≡ a = cc in
    let met = met_by act.Commit session in
    subst (λ (a : Act). Counted (step.Commit k c x) a session) same
    (at_depth (step.Commit k c x) session (left_met act.Commit session met) reply.NotHeld (reply_met act.Commit session met) (session.link.depth == 0) refl (commit-met k c x session met))
step-counted (step.Rollback k c x) a session e =
    let same : act.Rollback ≡ a = cc in
    let met = met_by act.Rollback session in
    subst (λ (a : Act). Counted (step.Rollback k c x) a session) same
    (at_depth (step.Rollback k c x) session (left_met act.Rollback session met) reply.NotHeld (reply_met act.Rollback session met) (session.link.depth == 0) refl (rollback-met k c x session met))
step-counted (step.GiveUp k c) a session e =
    let same : act.GiveUp ≡ a = cc in
    subst (λ (a : Act). Counted (step.GiveUp k c) a session) same
    (at_depth (step.GiveUp k c) session (after_start_rollback session) reply.NotHeld (reply_within act.GiveUp session) (session.link.depth == 0) refl refl)
step-counted other a session e = absurd cc

-- a client that owns no such connection
not_held-counts : (s : Step) (runs : Counts) → runs ≡ runs_after s reply.NotHeld runs
not_held-counts (step.Begin k c x) runs = refl
not_held-counts (step.Custom k c begins x) runs = refl
not_held-counts (step.Put k c key x value) runs = refl
not_held-counts (step.Del k c key x) runs = refl
not_held-counts (step.Get k c key x) runs = refl
not_held-counts (step.Commit k c x) runs = refl
not_held-counts (step.Rollback k c x) runs = refl
not_held-counts (step.GiveUp k c) runs = refl
not_held-counts other runs = refl

statement-counted : (old new : Scene) (s : Statement) (x : Step) (r : Reply) → done_by x ≡ Some s.act → Runs old new s r → new.out.store.runs ≡ runs_after x r old.out.store.runs
statement-counted old new s x r is (inl w) =
    ap (λ (t : Store). t.runs) w.ran.store ∙ step-counted x s.act (at_work old.out.store w.ran.own.raw s) is ∙ ap (λ (r : Reply). runs_after x r old.out.store.runs) (sym w.ran.told)
statement-counted old new s x r is (inr w) = ap (λ (t : Store). t.runs) w.store ∙ not_held-counts x old.out.store.runs ∙ ap (λ (r : Reply). runs_after x r old.out.store.runs) (sym w.told)

pub statement-counted_if : (old new : Scene) (s : Statement) (x : Step) (r : Result Reply OutOfMemory) → done_by x ≡ Some s.act → IfOk r (Runs old new s) → IfOk r (λ reply. new.out.store.runs ≡ runs_after x reply old.out.store.runs)
statement-counted_if old new s x (Ok reply) is ok = statement-counted old new s x reply is ok
statement-counted_if old new s x (Err error) is ok = tt
