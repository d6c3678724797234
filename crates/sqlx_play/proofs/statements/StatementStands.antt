-- The stage behind a statement.
use Rattle.std.proofs.Common.{◌≡◌, find, ℕ, ◌≤◌, ◌==◌, Bool, true, false, is_some, ◌⊎◌, inl, inr, List, [], ◌∷◌, ◌++◌, map, count_by, Option, Some, None, Result, Ok, Err, IfOk, refl, sym, ap, subst, ◌∙◌, arith}
use Rattle.std.proofs.lemmas.List.Elements.{All-same}
use Rattle.sqlx_pool_marks.specs.declared.mark.Mark.{Mark}
use Rattle.sqlx_pool_lists.specs.declared.ticket.OwnedConn.{OwnedConn}
use Rattle.sqlx_pool_lists.specs.declared.steps.Lent.{Lent}
use Rattle.sqlx_pool_lists.specs.Core.{Core, loan_of}
use Rattle.sqlx_pool_marks.specs.Marks.{owner_of}
use Rattle.sqlx_pool_lists.specs.Sound.{IsNumbered, holds}
use Rattle.sqlx_pool_lists.specs.StandsFor.{StandsFor}
use Rattle.sqlx_pool_lists.specs.Makes.{Makes}
use Rattle.sqlx_pool_core.proofs.Fair.{makes-nothing}
use Rattle.sqlx_pool_marks.proofs.ListFacts.{count_by-map}
use Rattle.mem_store.specs.Store.{others_in_level, Store, Link, Session}
use Rattle.sqlx_script.specs.declared.pool_line.PoolLine.{PoolLine}
use Rattle.sqlx_script.specs.declared.step.Event.{Event}
use Rattle.sqlx_script.specs.declared.step.Step.{Step}
use Rattle.sqlx_script.specs.declared.step.Step.TheVariants as step
use Rattle.sqlx_script.specs.declared.reply.Reply.{Reply}
use Rattle.sqlx_savepoints.specs.Changes.{History}
use Rattle.sqlx_savepoints.specs.Brackets.{depth}
use Rattle.sqlx_savepoints.specs.Links.{Link as BracketLink, linked_after}
use Rattle.sqlx_savepoints.specs.Events.{reply_of, change_by, not_held}
use Rattle.sqlx_savepoints.specs.Events as bracket
use Rattle.sqlx_savepoints.proofs.Answering.{asked_fine}
use Rattle.sqlx_play.specs.stage.Scene.{Scene}
use Rattle.sqlx_play.specs.declared.stage.loans.statements.Statement.{Statement}
use Rattle.sqlx_script_rules.specs.Answer.{answer, reply_at}
use Rattle.sqlx_script_rules.specs.ScriptMarks.{made, marks_of}
use Rattle.sqlx_script_rules.specs.ScriptLevels as levels
use Rattle.sqlx_script_rules.specs.ScriptLevels.{statement_of, statement_reply, written_reply, read_reply, owns, met_of, changed_by, history_of, history_after}
use Rattle.sqlx_script_rules.specs.Tries.{Tries, tried, tries_of}
use Rattle.sqlx_play.specs.stage.LinksStand.{LinksStand, IsLinkOf}
use Rattle.sqlx_play.specs.stage.StageStands.{StageStands, IsTried}
use Rattle.sqlx_play.specs.events.PlaysEvent.{PlaysEvent}
use Rattle.sqlx_play_acts.specs.ClientActs.{reply_on, left_by}
use Rattle.sqlx_play.specs.events.StatementRuns.{act_on, answer_for, IsMet}
use Rattle.sqlx_play.specs.stage.LentLinks.{is_lent}
use Rattle.sqlx_play.proofs.links.LentTaken.{none-counted}
use Rattle.sqlx_play.specs.events.StatementRuns.{said, at_work, left_at, RunsOnLink, RunsNot, Runs}
use Rattle.sqlx_script_rules.proofs.Pairs.{tries_of-push}
use Rattle.sqlx_play.proofs.events.TriesSame.{tried-same}
use Rattle.sqlx_play.proofs.events.StageAfter.{stage-after}
use Rattle.sqlx_play.proofs.statements.Leaves.{session_at}
use Rattle.sqlx_play.proofs.statements.ActsAlike.{AlikeAt, acts-alike}
use Rattle.sqlx_play.proofs.links.Middles.{All-mid}
use Rattle.sqlx_play.proofs.links.OwnLink.{busy-alike}
use Rattle.sqlx_play.proofs.links.OwnLinkLeft.{links-left}
use Rattle.sqlx_play.proofs.links.Owners.{owner-alike, held-counted}
use Rattle.sqlx_script_rules.specs.Pairs.{Pairs}

-- ---- a statement makes no mark and no try

made_none : (pool : PoolLine) (marks : List Mark) (m : ℕ) (s : Step) (r : Reply) (x : levels.Statement) → statement_of s ≡ Some x → made pool marks m s r ≡ []
made_none pool marks m (step.Begin k c a) r x e = refl
made_none pool marks m (step.Custom k c begins a) r x e = refl
made_none pool marks m (step.Put k c key a value) r x e = refl
made_none pool marks m (step.Del k c key a) r x e = refl
made_none pool marks m (step.Get k c key a) r x e = refl
made_none pool marks m (step.Commit k c a) r x e = refl
made_none pool marks m (step.Rollback k c a) r x e = refl
made_none pool marks m (step.GiveUp k c) r x e = refl
made_none pool marks m other r x e = absurd (cc)

tried_none : (t : ℕ) (tries : Option Tries) (m : ℕ) (s : Step) (r : Reply) (x : levels.Statement) → statement_of s ≡ Some x → tried t tries m s r ≡ tries
tried_none t tries m (step.Begin k c a) r x e = refl
tried_none t tries m (step.Custom k c begins a) r x e = refl
tried_none t tries m (step.Put k c key a value) r x e = refl
tried_none t tries m (step.Del k c key a) r x e = refl
tried_none t tries m (step.Get k c key a) r x e = refl
tried_none t tries m (step.Commit k c a) r x e = refl
tried_none t tries m (step.Rollback k c a) r x e = refl
tried_none t tries m (step.GiveUp k c) r x e = refl
tried_none t tries m other r x e = absurd (cc)

-- ---- what a written reply says

read_written : (act : bracket.Act) (d : ℕ) (r : bracket.Reply) → read_reply (written_reply act d r) ≡ r
read_written act d (bracket.level now) = refl
read_written act d (bracket.ok rows) = refl
read_written act d (bracket.found value) = refl
read_written act d bracket.row_not_found = refl
read_written act d bracket.not_held = refl
read_written act d bracket.invalid_save_point = refl
read_written act d bracket.begin_failed = refl
read_written act d bracket.io = refl
read_written act d bracket.refused = refl
read_written act d bracket.deep = refl
read_written act d bracket.busy = refl

not_held_changes : (a : bracket.Act) (past : History) → change_by a not_held past ≡ past
not_held_changes (bracket.begin c) past = refl
not_held_changes (bracket.custom c starts) past = refl
not_held_changes (bracket.put c key value) past = refl
not_held_changes (bracket.del c key) past = refl
not_held_changes (bracket.get c key) past = refl
not_held_changes (bracket.commit c) past = refl
not_held_changes (bracket.roll_back c) past = refl
not_held_changes (bracket.give_up c) past = refl

-- ---- the stage

-- the answer to a statement
answer_is : (pool : PoolLine) (pairs : Pairs) (event : Event) (x : levels.Statement) → statement_of event.step ≡ Some x
    → answer pool pairs event ≡ statement_reply (marks_of pool pairs) (history_of pool pairs) x
unfolding answer
answer_is pool pairs event x e = ap (reply_at pool pairs (marks_of pool pairs) (history_of pool pairs) event.moment.0 event.step) e

-- a stage of which a statement changed the store and the links
moves : (old new : Scene) (pairs : Pairs) (event : Event) (r : Reply) (x : levels.Statement) → StageStands old pairs → statement_of event.step ≡ Some x
    → new.core ≡ old.core → new.pool ≡ old.pool → LinksStand old.core new.out.store new.lent.items (changed_by (Some x) r (history_of old.pool pairs)) → StageStands new (pairs ++ (event, r) ∷ [])
moves old new pairs event r x s e core pool links =
    let pair : Event × Reply = (event, r) in
    let marks : List Mark = marks_of old.pool pairs in
    let none : made old.pool marks event.moment.0 event.step r ≡ [] = made_none old.pool marks event.moment.0 event.step r x e in
    let tries : (t : ℕ) → tries_of t (pairs ++ pair ∷ []) ≡ tries_of t pairs = λ t. tries_of-push t pairs pair ∙ tried_none t (tries_of t pairs) event.moment.0 event.step r x e in
    stage-after old new pairs pair s (record {
      pool = pool;
      makes = subst (λ (l : List Mark). Makes old.core.options.max_connections marks l new.core) (sym none) (makes-nothing old.core.options.max_connections marks new.core (subst (λ (c : Core Link). StandsFor c marks) (sym core) s.stands));
      options = ap (λ (c : Core Link). c.options) core;
      places = ap (λ (c : Core Link). c.places) core ∙ s.places;
      tried = All-same (IsTried (pairs ++ pair ∷ [])) new.core.tickets old.core.tickets (ap (λ (c : Core Link). c.tickets) core) (tried-same pairs pair old.core.tickets tries s.tried);
      untried = λ t h. tries t ∙ s.untried t (subst (λ (c : Core Link). c.next_ticket ≤ t) core h);
      links = subst (λ (c : Core Link). LinksStand c new.out.store new.lent.items (history_after old.pool marks (history_of old.pool pairs) pair)) (sym core)
          (subst (λ (h : History). LinksStand old.core new.out.store new.lent.items h)
          (sym (ap (λ (l : List Mark). levels.gone_by l (changed_by (statement_of event.step) r (history_of old.pool pairs))) none ∙ ap (λ (o : Option levels.Statement). changed_by o r (history_of old.pool pairs)) e)) links);
    })

-- ---- a connection that the client doesn't own

unowned : (core : Core Link) (lent : List (Lent Link)) (k c : ℕ) → map (λ (l : Lent Link). l.id) lent ≡ map (λ (h : OwnedConn). h.conn) core.held
    → (is_some (loan_of k c core.held) ≡ false) ⊎ (find (is_lent c) lent ≡ None) → is_some (loan_of k c core.held) ≡ false
unowned core lent k c owned (inl none) = none
unowned core lent k c owned (inr none) = by (is_some (loan_of k c core.held)) refl
  where
    by : (b : Bool) → is_some (loan_of k c core.held) ≡ b → is_some (loan_of k c core.held) ≡ false
    by false e = e
    by true e = absurd (
        let some = held-counted k c core.held e in
        let same : count_by (is_lent c) lent ≡ count_by (holds c) core.held = sym (count_by-map (λ (l : Lent Link). l.id) (λ n. c == n) lent) ∙ ap (count_by (λ n. c == n)) owned ∙ count_by-map (λ (h : OwnedConn). h.conn) (λ n. c == n) core.held in
        let zero' = none-counted (is_lent c) lent none in
        omega (arith, some, same, zero'))

runs_not : (old new : Scene) (pairs : Pairs) (event : Event) (st : Statement) (r : Reply) → StageStands old pairs → IsNumbered old.core → statement_of event.step ≡ Some (said st)
    → new.core ≡ old.core → new.pool ≡ old.pool → RunsNot old new st r → (r ≡ answer old.pool pairs event) × StageStands new (pairs ++ (event, r) ∷ [])
runs_not old new pairs event st r s sound e core pool ran =
    let past : History = history_of old.pool pairs in
    let marks : List Mark = marks_of old.pool pairs in
    let a : bracket.Act = act_on st.connection st.act in
    let not_owned : owns st.client (owner_of st.connection marks) ≡ false = sym (owner-alike old.core sound marks st.client st.connection s.stands) ∙ unowned old.core old.lent.items st.client st.connection s.links.owned ran.cause in
    let kept : past ≡ changed_by (Some (said st)) r past = sym (ap (λ (x : Reply). change_by a (read_reply x) past) ran.told ∙ not_held_changes a past) in (
      ran.told ∙ ap (λ b. written_reply a (depth st.connection past) (reply_of a b (met_of st.answer) past)) (sym not_owned) ∙ sym (answer_is old.pool pairs event (said st) e),
      moves old new pairs event r (said st) s e core pool
          (subst (λ (h : History). LinksStand old.core new.out.store new.lent.items h) kept
          (subst (λ (x : Store). LinksStand old.core x new.lent.items past) (sym ran.store) (subst (λ (l : List (Lent Link)). LinksStand old.core old.out.store l past) (sym ran.links) s.links))),
    )

-- ---- a connection that the client owns

work_is : (past : History) (c : ℕ) (store : Store) (link : Link) (st : Statement) → store.rows ≡ (linked_after past).rows → IsLinkOf (linked_after past) c link
    → at_work store link st ≡ session_at past c link store.open_links store.given store.runs (answer_for st.answer)
work_is past c store link st rows side = λ i. record {
  store = record { rows = rows i; open_links = store.open_links; given = store.given; runs = store.runs };
  link = record link { depth = (side i).depth; own = (side i).own; entries = (side i).entries };
  answer = answer_for st.answer;
}

runs_on : (old new : Scene) (pairs : Pairs) (event : Event) (st : Statement) (r : Reply) → StageStands old pairs → IsNumbered old.core → statement_of event.step ≡ Some (said st) → IsMet st.act st.answer
    → new.core ≡ old.core → new.pool ≡ old.pool → RunsOnLink old new st r → (r ≡ answer old.pool pairs event) × StageStands new (pairs ++ (event, r) ∷ [])
runs_on old new pairs event st r s sound e met core pool ran =
    let past : History = history_of old.pool pairs in
    let marks : List Mark = marks_of old.pool pairs in
    let own : Lent Link = ran.ran.own in
    let a : bracket.Act = act_on own.id st.act in
    let now : bracket.Act = act_on st.connection st.act in
    let said' : bracket.Reply = reply_of a true (met_of st.answer) past in
    let links : LinksStand old.core old.out.store (ran.ran.before ++ own ∷ ran.ran.after) past = subst (λ (l : List (Lent Link)). LinksStand old.core old.out.store l past) ran.ran.lent s.links in
    let owned : owns st.client (owner_of st.connection marks) ≡ true = sym (owner-alike old.core sound marks st.client st.connection s.stands) ∙ ran.owned in
    let work : at_work old.out.store own.raw st ≡ session_at past own.id own.raw old.out.store.open_links old.out.store.given old.out.store.runs (answer_for st.answer) =
    work_is past own.id old.out.store own.raw st links.rows (All-mid (λ (x : Lent Link). IsLinkOf (linked_after past) x.id x.raw) ran.ran.before own ran.ran.after links.lent_links) in
    let alike : AlikeAt a past own.id (at_work old.out.store own.raw st) said' (reply_on st.act (at_work old.out.store own.raw st)) (left_at old.out.store own.raw st) =
    subst (λ (x : Session). AlikeAt a past own.id x said' (reply_on st.act x) (left_by st.act x)) (sym work)
    (acts-alike past links.accepted own.id own.raw old.out.store.open_links old.out.store.given old.out.store.runs st.act st.answer met
    (ap (λ (k : BracketLink). others_in_level k.depth old.out.store.open_links) (sym (All-mid (λ (x : Lent Link). IsLinkOf (linked_after past) x.id x.raw) ran.ran.before own ran.ran.after links.lent_links)) ∙ busy-alike old.core sound old.out.store ran.ran.before own ran.ran.after past links)) in
    let told : r ≡ written_reply a (depth own.id past) said' = ran.ran.told ∙ alike.0 in
    let left : LinksStand old.core (left_at old.out.store own.raw st).store (ran.ran.before ++ record own { raw = (left_at old.out.store own.raw st).link } ∷ ran.ran.after) (change_by a said' past) =
    links-left old.core sound old.out.store ran.ran.before own ran.ran.after past (change_by a said' past) links (answer_for st.answer) (left_at old.out.store own.raw st) (asked_fine a true (met_of st.answer) past links.accepted) alike.1 in
    let changed : change_by a said' past ≡ changed_by (Some (said st)) r past =
    ap (λ (x : bracket.Reply). change_by a x past) (sym (ap read_reply told ∙ read_written a (depth own.id past) said')) ∙ ap (λ n. change_by (act_on n st.act) (read_reply r) past) ran.ran.is in (
      told ∙ ap (λ n. written_reply (act_on n st.act) (depth n past) (reply_of (act_on n st.act) true (met_of st.answer) past)) ran.ran.is
          ∙ ap (λ b. written_reply now (depth st.connection past) (reply_of now b (met_of st.answer) past)) (sym owned) ∙ sym (answer_is old.pool pairs event (said st) e),
      moves old new pairs event r (said st) s e core pool
          (subst (λ (h : History). LinksStand old.core new.out.store new.lent.items h) changed
          (subst (λ (x : Store). LinksStand old.core x new.lent.items (change_by a said' past)) (sym ran.ran.store) (subst (λ (l : List (Lent Link)). LinksStand old.core (left_at old.out.store own.raw st).store l (change_by a said' past)) (sym ran.ran.links) left))),
    )

-- a statement is played
pub statement-plays : (old new : Scene) (event : Event) (st : Statement) (r : Reply) → IsNumbered old.core → statement_of event.step ≡ Some (said st) → IsMet st.act st.answer
    → new.core ≡ old.core → new.pool ≡ old.pool → Runs old new st r → PlaysEvent old new event r
statement-plays old new event st r sound e met core pool (inl ran) pairs s = runs_on old new pairs event st r s sound e met core pool ran
statement-plays old new event st r sound e met core pool (inr ran) pairs s = runs_not old new pairs event st r s sound e core pool ran

-- the same of an outcome that may be want of memory
pub statement-plays_if : {E : Type 0} (old new : Scene) (event : Event) (st : Statement) (o : Result Reply E) → IsNumbered old.core → statement_of event.step ≡ Some (said st) → IsMet st.act st.answer
    → new.core ≡ old.core → new.pool ≡ old.pool → IfOk o (Runs old new st) → IfOk o (PlaysEvent old new event)
statement-plays_if old new event st (Ok r) sound e met core pool ran = statement-plays old new event st r sound e met core pool ran
statement-plays_if old new event st (Err x) sound e met core pool ran = tt
