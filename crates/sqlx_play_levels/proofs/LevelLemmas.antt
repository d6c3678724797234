-- The reply to a call of a transaction, by what the call comes to.
use Rattle.std.proofs.Common.{◌≡◌, inl, inr, true, false, Bool, ◌&&◌, ◌==◌, cond, ℕ, zero, suc, pred, ◌+◌, ◌-◌, ◌<◌, List, Option, Some, None, Result, refl, sym, ap, subst, ◌∙◌, arith}
use Rattle.std.proofs.lemmas.Bool.{cond-false, ne_eqb}
use Rattle.sqlx_traits.specs.Calls.{Outcome, begin, commit, rollback}
use Rattle.sqlx_savepoints.specs.Rows.{Rows, Writes}
use Rattle.sqlx_savepoints.specs.NamedSavepoints.{Entry, ran}
use Rattle.sqlx_savepoints.specs.Texts.{begin_at, commit_at, rollback_at}
use Rattle.sqlx_savepoints.specs.declared.level_text.LevelText.{LevelText}
use Rattle.sqlx_savepoints.specs.declared.level_text.LevelText.TheVariants.{BeginImmediate}
use Rattle.sqlx_script.specs.declared.reply.Reply.{Reply}
use Rattle.sqlx_script.specs.declared.reply.Reply.TheVariants as reply
use Rattle.sqlx_tx.specs.Begun.{levels_after}
use Rattle.mem_store.specs.declared.act.Act.{Act as Doing}
use Rattle.mem_store.specs.declared.act.Act.TheVariants as doing
use Rattle.mem_store.specs.declared.refusal.Refusal.{Refusal}
use Rattle.mem_store.specs.Store.{Session as Work}
use Rattle.mem_store.specs.Acts.{refusal_of}
use Rattle.mem_driver.specs.Backend.{BeginsAt, BeginsBy, Does, Goes, HasBegun}
use Rattle.mem_driver.specs.Session.{Session, acted, depth, refused, rolled_back}
use Rattle.sqlx_play_acts.specs.ClientActs.{Gives, GivesThis, LeavesWanting, left_by, left_met, left_refused, left_within, needs_level, ran_reply, refused_reply, reply_met, reply_on, reply_within, statement_at}
use Rattle.sqlx_play_levels.specs.Told.{Answered, reply_to}
use Rattle.sqlx_play_acts.specs.declared.act.Act.{Act}
use Rattle.sqlx_play_acts.specs.declared.act.Act.TheVariants.{Begin, Custom, Commit, Rollback, GiveUp}
use Rattle.sqlx_play_levels.proofs.ReplyLemmas.{gives_none, gives_some, told_refused}

pub pred-less : (d : ℕ) → d - 1 ≡ pred d
pred-less zero = refl
pred-less (suc d) = omega arith

-- a call that was done or refused, or for which memory was wanting
goes : {E : Type 0} (act : Act) (told : Reply) (before : Work) (done lacking denied after : Session) (met : Option Refusal) (outcome : Outcome) (result : Result Reply E)
    → told ≡ ran_reply act before → done.work ≡ left_met act before None → denied.work ≡ left_refused act before → LeavesWanting act before lacking.work
    → Goes done lacking denied met outcome after → Answered (reply_to (λ _. told) outcome) result
    → GivesThis (reply_met act before met) (left_met act before met) (LeavesWanting act before) result after.work
goes act told before done lacking denied after None outcome result is left refused wanting (inl came) answered =
    gives_some (ran_reply act before) (reply_to (λ _. told) outcome) (left_met act before None) after.work (LeavesWanting act before) result (ap (reply_to (λ _. told)) came.0 ∙ ap Some is) (ap (λ (s : Session). s.work) came.1 ∙ left) answered
goes act told before done lacking denied after None outcome result is left refused wanting (inr came) answered =
    gives_none (ran_reply act before) (reply_to (λ _. told) outcome) (left_met act before None) after.work (LeavesWanting act before) result (ap (reply_to (λ _. told)) came.0) (subst (λ (s : Session). LeavesWanting act before s.work) (sym came.1) wanting) answered
goes act told before done lacking denied after (Some reason) outcome result is left refused wanting came answered =
    gives_some (refused_reply reason) (reply_to (λ _. told) outcome) (left_refused act before) after.work (LeavesWanting act before) result (ap (reply_to (λ _. told)) came.0 ∙ told_refused reason) (ap (λ (s : Session). s.work) came.1 ∙ refused) answered

-- the reply to a begun level, by the depth after it
begun_reply : (d now : ℕ) (text : LevelText) → now ≡ d + 1 → text ≡ begin_at d → reply.Level now text ≡ reply.Level (suc d) (begin_at d)
begun_reply d now text is same =
    let more : d + 1 ≡ suc d = omega arith in
    ap (λ n. reply.Level n text) (is ∙ more) ∙ ap (λ (t : LevelText). reply.Level (suc d) t) same

-- the depth after a level was begun counts only where one was
begin_met : {E : Type 0} (now : ℕ) (text : LevelText) (before after : Session) (met : Option Refusal) (outcome : Outcome) (result : Result Reply E)
    → now ≡ levels_after (depth before) outcome → text ≡ begin_at (depth before)
    → Goes (acted (doing.Level (begin_at (depth before))) before) before (refused before) met outcome after → Answered (reply_to (λ _. reply.Level now text) outcome) result
    → GivesThis (reply_met Begin before.work met) (left_met Begin before.work met) (LeavesWanting Begin before.work) result after.work
begin_met now text before after None outcome result levels same (inl came) answered =
    gives_some (ran_reply Begin before.work) (reply_to (λ _. reply.Level now text) outcome) (left_met Begin before.work None) after.work (LeavesWanting Begin before.work) result
    (ap (reply_to (λ _. reply.Level now text)) came.0 ∙ ap Some (begun_reply (depth before) now text (levels ∙ ap (levels_after (depth before)) came.0) same)) (ap (λ (s : Session). s.work) came.1) answered
begin_met now text before after None outcome result levels same (inr came) answered =
    gives_none (ran_reply Begin before.work) (reply_to (λ _. reply.Level now text) outcome) (left_met Begin before.work None) after.work (LeavesWanting Begin before.work) result
    (ap (reply_to (λ _. reply.Level now text)) came.0) (ap (λ (s : Session). s.work) came.1) answered
begin_met now text before after (Some reason) outcome result levels same came answered =
    gives_some (refused_reply reason) (reply_to (λ _. reply.Level now text) outcome) (left_refused Begin before.work) after.work (LeavesWanting Begin before.work) result
    (ap (reply_to (λ _. reply.Level now text)) came.0 ∙ told_refused reason) (ap (λ (s : Session). s.work) came.1) answered

pub begin_gives : {E : Type 0} (now : ℕ) (text : LevelText) (before after : Session) (outcome : Outcome) (result : Result Reply E)
    → Does (begin None) before outcome after → now ≡ levels_after (depth before) outcome → text ≡ begin_at (depth before) → Answered (reply_to (λ _. reply.Level now text) outcome) result
    → Gives Begin before.work result after.work
begin_gives now text before after outcome result does levels same answered =
    begin_met now text before after (refusal_of (Some (doing.Level (begin_at (depth before)))) before.work) outcome result levels same does answered

-- ---- a level that is ended

and_false : (b : Bool) → (b && false) ≡ false
and_false true = refl
and_false false = refl

some_level : (act : Act) (d : ℕ) → 0 < d → (needs_level act && (d == 0)) ≡ false
some_level act d some = ap (λ b. needs_level act && b) (ne_eqb d 0 (λ e. omega arith)) ∙ and_false (needs_level act)

within_reply : (act : Act) (before : Work) → 0 < before.link.depth → reply_within act before ≡ reply_on act before
within_reply act before some = sym (cond-false (needs_level act && (before.link.depth == 0)) reply.NotHeld (reply_within act before) (some_level act before.link.depth some))

within_left : (act : Act) (before : Work) → 0 < before.link.depth → left_within act before ≡ left_by act before
within_left act before some = sym (cond-false (needs_level act && (before.link.depth == 0)) before (left_within act before) (some_level act before.link.depth some))

-- what is given where a level is there
within : {E : Type 0} (act : Act) (before : Work) (result : Result Reply E) (after : Work) → 0 < before.link.depth → GivesThis (reply_within act before) (left_within act before) (LeavesWanting act before) result after → Gives act before result after
within act before result after some gives =
    subst (λ (r : Reply). GivesThis r (left_by act before) (LeavesWanting act before) result after) (within_reply act before some)
    (subst (λ (s : Work). GivesThis (reply_within act before) s (LeavesWanting act before) result after) (within_left act before some) gives)

-- the reply to an ended level
ended_reply : (d now : ℕ) (text due : LevelText) → now ≡ d - 1 → text ≡ due → reply.Level now text ≡ reply.Level (pred d) due
ended_reply d now text due is same = ap (λ n. reply.Level n text) (is ∙ pred-less d) ∙ ap (λ (t : LevelText). reply.Level (pred d) t) same

pub commit_gives : {E : Type 0} (now : ℕ) (text : LevelText) (before after : Session) (outcome : Outcome) (result : Result Reply E)
    → 0 < depth before → Does commit before outcome after → now ≡ depth before - 1 → text ≡ commit_at (depth before) → Answered (reply_to (λ _. reply.Level now text) outcome) result
    → Gives Commit before.work result after.work
commit_gives now text before after outcome result some does less same answered =
    let act = doing.Level (commit_at (depth before)) in
    within Commit before.work result after.work some
    (goes Commit (reply.Level now text) before.work (acted act before) (rolled_back before) (rolled_back (refused before)) after (refusal_of (Some act) before.work) outcome result
    (ended_reply (depth before) now text (commit_at (depth before)) less same) refl refl refl does answered)

pub rollback_gives : {E : Type 0} (now : ℕ) (text : LevelText) (before after : Session) (outcome : Outcome) (result : Result Reply E)
    → 0 < depth before → Does rollback before outcome after → now ≡ depth before - 1 → text ≡ rollback_at (depth before) → Answered (reply_to (λ _. reply.Level now text) outcome) result
    → Gives Rollback before.work result after.work
rollback_gives now text before after outcome result some does less same answered =
    let act = doing.Level (rollback_at (depth before)) in
    within Rollback before.work result after.work some
    (goes Rollback (reply.Level now text) before.work (acted act before) (rolled_back before) (rolled_back (refused before)) after (refusal_of (Some act) before.work) outcome result
    (ended_reply (depth before) now text (rollback_at (depth before)) less same) refl refl refl does answered)

pub give_up_gives : (now : ℕ) (text : LevelText) (before after : Session) → 0 < depth before → after ≡ rolled_back before → now ≡ depth before - 1 → text ≡ rollback_at (depth before)
    → (reply.Level now text ≡ reply_on GiveUp before.work) × (after.work ≡ left_by GiveUp before.work)
give_up_gives now text before after some left less same =
    (ended_reply (depth before) now text (rollback_at (depth before)) less same ∙ within_reply GiveUp before.work some, ap (λ (s : Session). s.work) left ∙ within_left GiveUp before.work some)

-- ---- a transaction by a text of the client's own

-- outside of a level the text begins one
one_begun : (rows : Rows) (own : Writes) (entries : List Entry) (depth : ℕ) → depth ≡ 0 → (ran BeginImmediate (record { rows = rows; own = own; entries = entries; depth = depth })).depth ≡ 1
one_begun rows own entries zero none = refl
one_begun rows own entries (suc d) none = absurd (omega arith)

-- how many levels there are after the text ran
abbrev levels_by : Bool → ℕ
levels_by true = 1
levels_by false = 0

custom_levels : (starts : Bool) (before : Session) → depth before ≡ 0 → depth (acted (statement_at (Custom starts) (depth before)) before) ≡ levels_by starts
custom_levels true before none = one_begun before.work.store.rows before.work.link.own before.work.link.entries before.work.link.depth none
custom_levels false before none = none

-- the text ran
custom_ran : {E : Type 0} (starts : Bool) (before after : Session) (outcome : Outcome) (result : Result Reply E) → HasBegun (levels_by starts) (acted (statement_at (Custom starts) (depth before)) before) outcome after
    → Answered (reply_to (λ _. reply.Level 1 BeginImmediate) outcome) result → GivesThis (ran_reply (Custom starts) before.work) (left_met (Custom starts) before.work None) (LeavesWanting (Custom starts) before.work) result after.work
custom_ran true before after outcome result came answered =
    gives_some (reply.Level 1 BeginImmediate) (reply_to (λ _. reply.Level 1 BeginImmediate) outcome) (left_met (Custom true) before.work None) after.work (LeavesWanting (Custom true) before.work) result
    (ap (reply_to (λ _. reply.Level 1 BeginImmediate)) came.0) (ap (λ (s : Session). s.work) came.1) answered
custom_ran false before after outcome result came answered =
    gives_some reply.BeginFailed (reply_to (λ _. reply.Level 1 BeginImmediate) outcome) (left_met (Custom false) before.work None) after.work (LeavesWanting (Custom false) before.work) result
    (ap (reply_to (λ _. reply.Level 1 BeginImmediate)) came.0) (ap (λ (s : Session). s.work) came.1) answered

custom_met : {E : Type 0} (starts : Bool) (before after : Session) (met : Option Refusal) (outcome : Outcome) (result : Result Reply E) → depth before ≡ 0
    → BeginsBy (Some (statement_at (Custom starts) (depth before))) before met outcome after → Answered (reply_to (λ _. reply.Level 1 BeginImmediate) outcome) result
    → GivesThis (reply_met (Custom starts) before.work met) (left_met (Custom starts) before.work met) (LeavesWanting (Custom starts) before.work) result after.work
custom_met starts before after None outcome result none (inl came) answered =
    custom_ran starts before after outcome result (subst (λ n. HasBegun n (acted (statement_at (Custom starts) (depth before)) before) outcome after) (custom_levels starts before none) came) answered
custom_met starts before after None outcome result none (inr came) answered =
    gives_none (ran_reply (Custom starts) before.work) (reply_to (λ _. reply.Level 1 BeginImmediate) outcome) (left_met (Custom starts) before.work None) after.work (LeavesWanting (Custom starts) before.work) result
    (ap (reply_to (λ _. reply.Level 1 BeginImmediate)) came.0) (ap (λ (s : Session). s.work) came.1) answered
custom_met starts before after (Some reason) outcome result none came answered =
    gives_some (refused_reply reason) (reply_to (λ _. reply.Level 1 BeginImmediate) outcome) (left_met (Custom starts) before.work (Some reason)) after.work (LeavesWanting (Custom starts) before.work) result
    (ap (reply_to (λ _. reply.Level 1 BeginImmediate)) came.0 ∙ told_refused reason) (ap (λ (s : Session). s.work) came.1) answered

-- at this depth
custom_at : {E : Type 0} (starts : Bool) (levels : ℕ) (asked : Option Doing) (before after : Session) (outcome : Outcome) (result : Result Reply E) → depth before ≡ levels → asked ≡ Some (statement_at (Custom starts) (depth before))
    → BeginsAt levels asked before outcome after → Answered (reply_to (λ _. reply.Level 1 BeginImmediate) outcome) result → Gives (Custom starts) before.work result after.work
custom_at starts zero asked before after outcome result none is came answered =
    let doing = statement_at (Custom starts) (depth before) in
    let met = refusal_of (Some doing) before.work in
    let came' : BeginsBy (Some doing) before met outcome after = subst (λ (a : Option Doing). BeginsBy a before (refusal_of a before.work) outcome after) is came in
    subst (λ b. GivesThis (cond b (reply_met (Custom starts) before.work met) reply.InvalidSavePointStatement) (cond b (left_met (Custom starts) before.work met) before.work) (LeavesWanting (Custom starts) before.work) result after.work)
    (sym (ap (λ n. n == 0) none)) (custom_met starts before after met outcome result none came' answered)
custom_at starts (suc levels) asked before after outcome result some is came answered =
    let met = refusal_of (Some (statement_at (Custom starts) (depth before))) before.work in
    subst (λ b. GivesThis (cond b (reply_met (Custom starts) before.work met) reply.InvalidSavePointStatement) (cond b (left_met (Custom starts) before.work met) before.work) (LeavesWanting (Custom starts) before.work) result after.work)
    (sym (ne_eqb (depth before) 0 (λ e. omega arith)))
    (gives_some reply.InvalidSavePointStatement (reply_to (λ _. reply.Level 1 BeginImmediate) outcome) before.work after.work (LeavesWanting (Custom starts) before.work) result
    (ap (reply_to (λ _. reply.Level 1 BeginImmediate)) came.0) (ap (λ (s : Session). s.work) came.1) answered)

pub custom_gives : {E : Type 0} (starts : Bool) (asked : Option Doing) (before after : Session) (outcome : Outcome) (result : Result Reply E) → asked ≡ Some (statement_at (Custom starts) (depth before))
    → BeginsAt (depth before) asked before outcome after → Answered (reply_to (λ _. reply.Level 1 BeginImmediate) outcome) result → Gives (Custom starts) before.work result after.work
custom_gives starts asked before after outcome result is came answered = custom_at starts (depth before) asked before after outcome result refl is came answered
