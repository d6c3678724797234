-- An act on a link is the act of brackets on its connection: the same reply, and what it leaves is what the brackets' change leaves.
use Rattle.std.proofs.Common.{◌≡◌, ℕ, zero, suc, pred, ◌==◌, ◌≤◌, nat_lt, ℤ, Bool, true, false, not, cond, is_some, IsSome, Option, Some, None, ◌∷◌, refl, sym, ap, subst, ◌∙◌, arith, ltb-true}
use Rattle.std.proofs.lemmas.Bool.{cond-true, ne_eqb}
use Rattle.sqlx_savepoints.specs.Texts.{begin_at, commit_at, rollback_at}
use Rattle.sqlx_savepoints.specs.NamedSavepoints.{Named, after, ran, inside, pushed, outside, begun}
use Rattle.sqlx_savepoints.specs.declared.level_text.LevelText.{LevelText}
use Rattle.sqlx_savepoints.specs.declared.level_text.LevelText.TheVariants.{BeginImmediate}
use Rattle.mem_store.specs.declared.answer.Answer.{Answer}
use Rattle.mem_store.specs.declared.answer.Answer.TheVariants.{Accept}
use Rattle.mem_store.specs.declared.refusal.Refusal.{Refusal}
use Rattle.mem_store.specs.declared.refusal.Refusal.TheVariants.{Busy, Deep, Unread}
use Rattle.mem_store.specs.declared.runs.Runs.{Runs as Counts}
use Rattle.mem_store.specs.Store.{Link, Session, others_in_level}
use Rattle.mem_store.specs.Undo.{undo_after, undo_rolled_back}
use Rattle.mem_store.specs.Acts.{refusal_of, level_refusal, unallowed, level_counted, ended_counted, moved_to, after_start_rollback}
use Rattle.sqlx_script.specs.declared.answers.StatementAnswer.{StatementAnswer}
use Rattle.sqlx_script.specs.declared.answers.StatementAnswer.TheVariants.{Runs, StatementIo, StatementRefused}
use Rattle.sqlx_script.specs.declared.reply.Reply.{Reply}
use Rattle.sqlx_script.specs.declared.reply.Reply.TheVariants as reply
use Rattle.sqlx_savepoints.specs.Changes.{History, opens, commits, rolls_back}
use Rattle.sqlx_savepoints.specs.Brackets.{depth, value}
use Rattle.sqlx_savepoints.specs.Standing.{is_zero}
use Rattle.sqlx_savepoints.specs.Stores.{AreAccepted}
use Rattle.sqlx_savepoints.specs.Links.{linked_after, named_at, moved, SavepointsAlike}
use Rattle.sqlx_savepoints.specs.Events.{others_open, reply_of, change_by, level, ok, deep, busy, not_held, invalid_save_point}
use Rattle.sqlx_savepoints.specs.Events as bracket
use Rattle.sqlx_savepoints.proofs.Linking.{savepoints_read_alike}
use Rattle.sqlx_play_acts.specs.declared.act.Act.{Act}
use Rattle.sqlx_play_acts.specs.declared.act.Act.TheVariants.{Begin, Custom, Put, Delete, Get, Commit, Rollback, GiveUp}
use Rattle.sqlx_script_rules.specs.ScriptLevels.{met_of, written_reply}
use Rattle.sqlx_play_acts.specs.ClientActs.{statement_at, found_reply, reply_met, left_met, reply_within, left_within, reply_on, left_by}
use Rattle.sqlx_play.specs.events.StatementRuns.{answer_for, act_on, IsMet}
use Rattle.sqlx_play.proofs.statements.Leaves.{Leaves, session_at, leaves-none, leaves-read, leaves-moved, leaves-written}

-- this reply and this session are what the brackets' reply says
abbrev pub AlikeAt : bracket.Act → History → ℕ → Session → bracket.Reply → Reply → Session → Type 0
AlikeAt act past c s r reply left = (reply ≡ written_reply act (depth c past) r) × Leaves past (change_by act r past) c s left

some_is : {X : Type 0} (o : Option X) → IsSome o → is_some o ≡ true
some_is o h = h

zero_test : (n : ℕ) → (n == 0) ≡ is_zero n
zero_test zero = refl
zero_test (suc n) = ne_eqb (suc n) 0 (λ e. omega arith)

not_zero : (n : ℕ) → is_zero n ≡ false → 1 ≤ n
not_zero zero e = absurd (cc)
not_zero (suc n) e = omega arith

too_deep : (d : ℕ) (state : Named) → nat_lt d 100 ≡ false → state.depth ≡ d → level_refusal (begin_at d) state ≡ Some Deep
too_deep zero state high e = absurd (cc)
too_deep (suc d) state high e =
    let at : nat_lt state.depth 100 ≡ false = ap (λ n. nat_lt n 100) e ∙ high in
    ap (λ b. cond (is_some (cond b (inside state.depth (Some (pushed (suc d) state))) None)) None (Some (unallowed (begin_at (suc d)) state.depth))) at
    ∙ ap (λ b. Some (cond b Unread Deep)) at

found_alike : (act : bracket.Act) (d : ℕ) (v : Option ℤ) → found_reply v ≡ written_reply act d (bracket.read_reply v)
found_alike act d None = refl
found_alike act d (Some v) = refl

module _ (past : History) (all : AreAccepted past) (c : ℕ) (link : Link) (open_links given : ℕ) (runs : Counts) where
  abbrev at : Answer → Session
  at answer = session_at past c link open_links given runs answer

  abbrev alike : SavepointsAlike past (linked_after past)
  alike = savepoints_read_alike past all

  abbrev d : ℕ
  d = ((linked_after past).link c).depth

  abbrev state : Named
  state = named_at c (linked_after past)

  same_depth : d ≡ depth c past
  same_depth = alike.depths c

  -- a text that may stand at the brackets' depth runs
  runs_text : (text : ℕ → LevelText) → IsSome (after (text (depth c past)) state) → is_some (after (text d) state) ≡ true
  runs_text text h = some_is (after (text d) state) (subst (λ n. IsSome (after (text n) state)) (sym same_depth) h)

  runs_free : (text : ℕ → LevelText) → IsSome (after (text (depth c past)) state) → level_refusal (text d) state ≡ None
  runs_free text h = cond-true (is_some (after (text d) state)) None (Some (unallowed (text d) d)) (runs_text text h)

  same_level : (near : ℕ → ℕ) (text : ℕ → LevelText) → reply.Level (near d) (text d) ≡ reply.Level (near (depth c past)) (text (depth c past))
  same_level near text = ap (λ n. reply.Level (near n) (text n)) same_depth

  begin_runs : AlikeAt (bracket.begin c) past c (at Accept) (cond (nat_lt (depth c past) 100) (level (suc (depth c past))) deep) (reply_met Begin (at Accept) (level_refusal (begin_at d) state)) (left_met Begin (at Accept) (level_refusal (begin_at d) state))
  begin_runs =
      elim (nat_lt (depth c past) 100) as (λ b. nat_lt (depth c past) 100 ≡ b → AlikeAt (bracket.begin c) past c (at Accept) (cond b (level (suc (depth c past))) deep) (reply_met Begin (at Accept) (level_refusal (begin_at d) state)) (left_met Begin (at Accept) (level_refusal (begin_at d) state))) [
        | true ↦ λ low. subst (λ (r : Option Refusal). AlikeAt (bracket.begin c) past c (at Accept) (level (suc (depth c past))) (reply_met Begin (at Accept) r) (left_met Begin (at Accept) r))
            (sym (runs_free begin_at (alike.begins_allowed c (ltb-true (depth c past) 100 low))))
            (same_level (λ n. suc n) begin_at, leaves-moved past c link open_links given runs Accept (opens c) (ran (begin_at d) state) (undo_after (begin_at d) link.undo) Accept (level_counted (begin_at d) runs) refl)
        | false ↦ λ high. subst (λ (r : Option Refusal). AlikeAt (bracket.begin c) past c (at Accept) deep (reply_met Begin (at Accept) r) (left_met Begin (at Accept) r))
            (sym (too_deep d state (ap (λ n. nat_lt n 100) same_depth ∙ high) refl))
            (refl, leaves-none past c link open_links given runs Accept Accept)
      ] refl

  begin_alike : (a : StatementAnswer) → AlikeAt (bracket.begin c) past c (at (answer_for a)) (reply_of (bracket.begin c) true (met_of a) past) (reply_on Begin (at (answer_for a))) (left_by Begin (at (answer_for a)))
  begin_alike Runs = begin_runs
  begin_alike StatementIo = (refl, leaves-none past c link open_links given runs (answer_for StatementIo) Accept)
  begin_alike StatementRefused = (refl, leaves-none past c link open_links given runs (answer_for StatementRefused) Accept)

  get_alike : (key : ℤ) (a : StatementAnswer) → AlikeAt (bracket.get c key) past c (at (answer_for a)) (reply_of (bracket.get c key) true (met_of a) past) (reply_on (Get key) (at (answer_for a))) (left_by (Get key) (at (answer_for a)))
  get_alike key Runs = (ap found_reply (alike.values c key) ∙ found_alike (bracket.get c key) (depth c past) (value c key past), leaves-read past c link open_links given runs Accept)
  get_alike key StatementIo = (refl, leaves-none past c link open_links given runs (answer_for StatementIo) Accept)
  get_alike key StatementRefused = (refl, leaves-none past c link open_links given runs (answer_for StatementRefused) Accept)

  -- ---- a transaction by a text of the client's own

  no_depth : is_zero (depth c past) ≡ true → d ≡ 0
  no_depth z = same_depth ∙ is_none (depth c past) z
    where
      is_none : (n : ℕ) → is_zero n ≡ true → n ≡ 0
      is_none zero e = refl
      is_none (suc n) e = absurd (cc)

  outside_free : d ≡ 0 → level_refusal BeginImmediate state ≡ None
  outside_free e = ap (λ n. cond (is_some (outside n (Some (begun state)))) None (Some (unallowed BeginImmediate d))) e

  custom_in : (starts : Bool) → d ≡ 0 → (a : StatementAnswer) → AlikeAt (bracket.custom c starts) past c (at (answer_for a)) (bracket.reply_met (met_of a) (bracket.custom c starts) past)
      (reply_met (Custom starts) (at (answer_for a)) (refusal_of (Some (statement_at (Custom starts) d)) (at (answer_for a)))) (left_met (Custom starts) (at (answer_for a)) (refusal_of (Some (statement_at (Custom starts) d)) (at (answer_for a))))
  custom_in true none Runs = subst (λ (r : Option Refusal). AlikeAt (bracket.custom c true) past c (at Accept) (level 1) (reply_met (Custom true) (at Accept) r) (left_met (Custom true) (at Accept) r))
      (sym (outside_free none))
      (refl, leaves-moved past c link open_links given runs Accept (opens c) (ran BeginImmediate state) (undo_after BeginImmediate link.undo) Accept (level_counted BeginImmediate runs) (ap (λ n. moved c (ran (begin_at n) state) (linked_after past)) none))
  custom_in false none Runs = (refl, leaves-read past c link open_links given runs Accept)
  custom_in true none StatementIo = (refl, leaves-none past c link open_links given runs (answer_for StatementIo) Accept)
  custom_in true none StatementRefused = (refl, leaves-none past c link open_links given runs (answer_for StatementRefused) Accept)
  custom_in false none StatementIo = (refl, leaves-none past c link open_links given runs (answer_for StatementIo) Accept)
  custom_in false none StatementRefused = (refl, leaves-none past c link open_links given runs (answer_for StatementRefused) Accept)

  custom_ends : (starts : Bool) (s left : Session) (r : bracket.Reply) (told : Reply) → Leaves past past c s s → (d ≡ 0 → AlikeAt (bracket.custom c starts) past c s r told left)
      → AlikeAt (bracket.custom c starts) past c s (cond (not (is_zero (depth c past))) invalid_save_point r) (cond (d == 0) told reply.InvalidSavePointStatement) (cond (d == 0) left s)
  custom_ends starts s left r told same inner =
      subst (λ b. AlikeAt (bracket.custom c starts) past c s (cond (not (is_zero (depth c past))) invalid_save_point r) (cond b told reply.InvalidSavePointStatement) (cond b left s)) (sym (ap (λ n. n == 0) same_depth ∙ zero_test (depth c past)))
      (elim (is_zero (depth c past)) as (λ z. is_zero (depth c past) ≡ z → AlikeAt (bracket.custom c starts) past c s (cond (not z) invalid_save_point r) (cond z told reply.InvalidSavePointStatement) (cond z left s)) [
        | true ↦ λ z. inner (no_depth z)
        | false ↦ λ z. (refl, same)
      ] refl)

  -- ---- writes
  abbrev Busy' : Bool → Option Refusal
  Busy' b = cond b (Some Busy) None

  put_runs : (key value : ℤ) (b : Bool) → AlikeAt (bracket.put c key value) past c (at Accept) (cond b busy (ok 1)) (reply_met (Put key value) (at Accept) (Busy' b)) (left_met (Put key value) (at Accept) (Busy' b))
  put_runs key value true = (refl, leaves-none past c link open_links given runs Accept Accept)
  put_runs key value false = (refl, leaves-written past c link open_links given runs Accept key (Some value))

  put_alike : (key value : ℤ) (a : StatementAnswer) → others_in_level d open_links ≡ others_open c past
      → AlikeAt (bracket.put c key value) past c (at (answer_for a)) (reply_of (bracket.put c key value) true (met_of a) past) (reply_on (Put key value) (at (answer_for a))) (left_by (Put key value) (at (answer_for a)))
  put_alike key value Runs others = subst (λ b. AlikeAt (bracket.put c key value) past c (at Accept) (cond (others_open c past) busy (ok 1)) (reply_met (Put key value) (at Accept) (Busy' b)) (left_met (Put key value) (at Accept) (Busy' b))) (sym others) (put_runs key value (others_open c past))
  put_alike key value StatementIo others = (refl, leaves-none past c link open_links given runs (answer_for StatementIo) Accept)
  put_alike key value StatementRefused others = (refl, leaves-none past c link open_links given runs (answer_for StatementRefused) Accept)

  del_runs : (key : ℤ) (b : Bool) → AlikeAt (bracket.del c key) past c (at Accept) (cond b busy (ok (cond (is_some (value c key past)) 1 0))) (reply_met (Delete key) (at Accept) (Busy' b)) (left_met (Delete key) (at Accept) (Busy' b))
  del_runs key true = (refl, leaves-none past c link open_links given runs Accept Accept)
  del_runs key false = (ap (λ (v : Option ℤ). reply.Written (cond (is_some v) 1 0)) (alike.values c key), leaves-written past c link open_links given runs Accept key None)

  del_alike : (key : ℤ) (a : StatementAnswer) → others_in_level d open_links ≡ others_open c past
      → AlikeAt (bracket.del c key) past c (at (answer_for a)) (reply_of (bracket.del c key) true (met_of a) past) (reply_on (Delete key) (at (answer_for a))) (left_by (Delete key) (at (answer_for a)))
  del_alike key Runs others = subst (λ b. AlikeAt (bracket.del c key) past c (at Accept) (cond (others_open c past) busy (ok (cond (is_some (value c key past)) 1 0))) (reply_met (Delete key) (at Accept) (Busy' b)) (left_met (Delete key) (at Accept) (Busy' b))) (sym others) (del_runs key (others_open c past))
  del_alike key StatementIo others = (refl, leaves-none past c link open_links given runs (answer_for StatementIo) Accept)
  del_alike key StatementRefused others = (refl, leaves-none past c link open_links given runs (answer_for StatementRefused) Accept)

  -- ---- the end of a level

  -- a level that is rolled back without a text
  rolled : 1 ≤ depth c past → (answer : Answer) → Leaves past (rolls_back c ∷ past) c (at answer) (after_start_rollback (at Accept))
  rolled one answer = subst (λ (n : Named). Leaves past (rolls_back c ∷ past) c (at answer) (moved_to n (undo_rolled_back state link.undo) (ended_counted runs) (at Accept)))
      (sym (cond-true (is_some (after (rollback_at d) state)) (ran (rollback_at d) state) _ (runs_text rollback_at (alike.rollbacks_allowed c one))))
      (leaves-moved past c link open_links given runs answer (rolls_back c) (ran (rollback_at d) state) (undo_rolled_back state link.undo) Accept (ended_counted runs) refl)

  commit_in : 1 ≤ depth c past → (a : StatementAnswer) → AlikeAt (bracket.commit c) past c (at (answer_for a)) (bracket.reply_met (met_of a) (bracket.commit c) past) (reply_within Commit (at (answer_for a))) (left_within Commit (at (answer_for a)))
  commit_in one Runs = subst (λ (r : Option Refusal). AlikeAt (bracket.commit c) past c (at Accept) (level (pred (depth c past))) (reply_met Commit (at Accept) r) (left_met Commit (at Accept) r))
      (sym (runs_free commit_at (alike.commits_allowed c one)))
      (same_level pred commit_at, leaves-moved past c link open_links given runs Accept (commits c) (ran (commit_at d) state) (undo_after (commit_at d) link.undo) Accept (level_counted (commit_at d) runs) refl)
  commit_in one StatementIo = (refl, rolled one (answer_for StatementIo))
  commit_in one StatementRefused = (refl, rolled one (answer_for StatementRefused))

  rollback_in : 1 ≤ depth c past → (a : StatementAnswer) → AlikeAt (bracket.roll_back c) past c (at (answer_for a)) (bracket.reply_met (met_of a) (bracket.roll_back c) past) (reply_within Rollback (at (answer_for a))) (left_within Rollback (at (answer_for a)))
  rollback_in one Runs = subst (λ (r : Option Refusal). AlikeAt (bracket.roll_back c) past c (at Accept) (level (pred (depth c past))) (reply_met Rollback (at Accept) r) (left_met Rollback (at Accept) r))
      (sym (runs_free rollback_at (alike.rollbacks_allowed c one)))
      (same_level pred rollback_at, leaves-moved past c link open_links given runs Accept (rolls_back c) (ran (rollback_at d) state) (undo_after (rollback_at d) link.undo) Accept (level_counted (rollback_at d) runs) refl)
  rollback_in one StatementIo = (refl, rolled one (answer_for StatementIo))
  rollback_in one StatementRefused = (refl, rolled one (answer_for StatementRefused))

  give_up_in : 1 ≤ depth c past → AlikeAt (bracket.give_up c) past c (at Accept) (level (pred (depth c past))) (reply_within GiveUp (at Accept)) (left_within GiveUp (at Accept))
  give_up_in one = (same_level pred rollback_at, rolled one Accept)

  -- where no level is open
  ends_alike : (act : bracket.Act) (s left : Session) (r : bracket.Reply) (told : Reply) → written_reply act (depth c past) not_held ≡ reply.NotHeld → change_by act not_held past ≡ past
      → Leaves past past c s s → (1 ≤ depth c past → AlikeAt act past c s r told left)
      → AlikeAt act past c s (cond (is_zero (depth c past)) not_held r) (cond (d == 0) reply.NotHeld told) (cond (d == 0) s left)
  ends_alike act s left r told none kept same inner =
      subst (λ b. AlikeAt act past c s (cond (is_zero (depth c past)) not_held r) (cond b reply.NotHeld told) (cond b s left)) (sym (ap (λ n. n == 0) same_depth ∙ zero_test (depth c past)))
      (elim (is_zero (depth c past)) as (λ z. is_zero (depth c past) ≡ z → AlikeAt act past c s (cond z not_held r) (cond z reply.NotHeld told) (cond z s left)) [
        | true ↦ λ z. (sym none, subst (λ (h : History). Leaves past h c s s) (sym kept) same)
        | false ↦ λ z. inner (not_zero (depth c past) z)
      ] refl)

  -- every act
  pub acts-alike : (act : Act) (a : StatementAnswer) → IsMet act a → others_in_level d open_links ≡ others_open c past
      → AlikeAt (act_on c act) past c (at (answer_for a)) (reply_of (act_on c act) true (met_of a) past) (reply_on act (at (answer_for a))) (left_by act (at (answer_for a)))
  acts-alike Begin a met others = begin_alike a
  acts-alike (Custom starts) a met others = custom_ends starts (at (answer_for a))
      (left_met (Custom starts) (at (answer_for a)) (refusal_of (Some (statement_at (Custom starts) d)) (at (answer_for a)))) (bracket.reply_met (met_of a) (bracket.custom c starts) past)
      (reply_met (Custom starts) (at (answer_for a)) (refusal_of (Some (statement_at (Custom starts) d)) (at (answer_for a)))) (leaves-none past c link open_links given runs (answer_for a) (answer_for a)) (λ none. custom_in starts none a)
  acts-alike (Put key value) a met others = put_alike key value a others
  acts-alike (Delete key) a met others = del_alike key a others
  acts-alike (Get key) a met others = get_alike key a
  acts-alike Commit a met others = ends_alike (bracket.commit c) (at (answer_for a)) (left_within Commit (at (answer_for a))) (bracket.reply_met (met_of a) (bracket.commit c) past) (reply_within Commit (at (answer_for a))) refl refl
      (leaves-none past c link open_links given runs (answer_for a) (answer_for a)) (λ one. commit_in one a)
  acts-alike Rollback a met others = ends_alike (bracket.roll_back c) (at (answer_for a)) (left_within Rollback (at (answer_for a))) (bracket.reply_met (met_of a) (bracket.roll_back c) past) (reply_within Rollback (at (answer_for a))) refl refl
      (leaves-none past c link open_links given runs (answer_for a) (answer_for a)) (λ one. rollback_in one a)
  acts-alike GiveUp a met others =
      subst (λ (x : StatementAnswer). AlikeAt (bracket.give_up c) past c (at (answer_for x)) (reply_of (bracket.give_up c) true (met_of x) past) (reply_on GiveUp (at (answer_for x))) (left_by GiveUp (at (answer_for x)))) (sym met)
      (ends_alike (bracket.give_up c) (at Accept) (left_within GiveUp (at Accept)) (level (pred (depth c past))) (reply_within GiveUp (at Accept)) refl refl
      (leaves-none past c link open_links given runs Accept Accept) (λ one. give_up_in one))
