-- A connection without an owner has no open level, by the events and their replies alone.
use Rattle.std.proofs.Common.{◌≡◌, ℕ, zero, suc, ◌+◌, ◌≤◌, ◌==◌, ◌&&◌, ◌||◌, Bool, true, false, not, cond, IsTrue, if◌then◌else◌, List, [], ◌∷◌, ◌++◌, map, filter, count_by, take, Option, Some, None, refl, sym, ap, subst, ◌∙◌, inl, inr, arith, append-nil}
use Rattle.std.specs.Prelude.{pos}
use Rattle.std.specs.List.{list_any}
use Rattle.std.proofs.lemmas.Bool.{eqb-true, not-true, and_parts}
use Rattle.std.proofs.lemmas.Bool.Decides.{eqb_tells}
use Rattle.sqlx_pool_marks.specs.declared.mark.Mark.{Mark}
use Rattle.sqlx_pool_marks.specs.declared.mark.Mark.TheVariants as mark
use Rattle.sqlx_pool_marks.specs.Standing.{last_mark}
use Rattle.sqlx_pool_marks.specs.Marks.{Loan, IdleEntry, idle_of, is_loan_of, owner_of, is_open, next_conn}
use Rattle.sqlx_pool_marks.specs.EventTable.{closes_at}
use Rattle.sqlx_pool_marks.specs.View.{View, view_of}
use Rattle.sqlx_pool_marks.specs.FairLog.{opens_it, is_owned, is_idle, is_live, IsFair}
use Rattle.sqlx_pool_marks.proofs.ListFacts.{count_by-push, or-true, same_number}
use Rattle.sqlx_pool_marks.proofs.ViewSteps.{stepped, view_of-stepped, IsFairBehind, behind_fair}
use Rattle.sqlx_pool_marks.proofs.SoundViews.{none-counts, by_number, owned, owned_but, IsSoundView, sound-step, stepped_all, view_of-stepped_all}
use Rattle.sqlx_pool_marks.proofs.FairSteps.{sound-log}
use Rattle.sqlx_script.specs.declared.answers.GiveAnswers.{GiveAnswers}
use Rattle.sqlx_script.specs.declared.pool_line.PoolLine.{PoolLine}
use Rattle.sqlx_script.specs.declared.step.Event.{Event}
use Rattle.sqlx_script.specs.declared.step.Step.{Step}
use Rattle.sqlx_script.specs.declared.step.Step.TheVariants as step
use Rattle.sqlx_script.specs.declared.reply.Reply.{Reply}
use Rattle.sqlx_script.specs.declared.reply.Reply.TheVariants as reply
use Rattle.sqlx_script.specs.Built.{accepts}
use Rattle.sqlx_savepoints.specs.Changes.{leaves, History}
use Rattle.sqlx_savepoints.specs.Brackets.{depth}
use Rattle.sqlx_savepoints.specs.Events.{accepted, begin, custom, put, del, get, commit, roll_back, give_up, connection_asked, reply_of, change_by}
use Rattle.sqlx_script_rules.specs.ScriptMarks.{added, is_among, refusing, reaching, testing, trying, opening, polled, openings, given, ended, detached, leaked, line_limits, reaping, closing, reaped_of, made, marks_of}
use Rattle.sqlx_script_rules.specs.ScriptLevels.{owns, Statement, met_of, statement_of, statement_reply, written_reply, read_reply, gone_by, changed_by, history_of}
use Rattle.sqlx_script_rules.specs.Answer.{is_kept, opened_for_minimum, give_reply, reply_at, answer}
use Rattle.sqlx_script_rules.proofs.Pairs.{marks_of-push, history_of-push}
use Rattle.sqlx_script_rules.proofs.Depths.{depth-left, rests-left, rests-beside, change_by-not_held}
use Rattle.sqlx_script_rules.proofs.FairEvents.{fair-nothing, owns-counts}
use Rattle.sqlx_script_rules.proofs.FairScripts.{fair-made}
use Rattle.sqlx_script_rules.specs.Pairs.{Pairs}

-- No connection without an owner has an open level.
abbrev pub IsAtRest : View → History → Type 0
IsAtRest v past = (c : ℕ) → owned c v ≡ 0 → depth c past ≡ 0

-- ---- one mark

module _ (v : View) (past : History) (h : IsAtRest v past) where
  rests_gone : (d : ℕ) → IsAtRest v (leaves d ∷ past)
  rests_gone d c none = rests-left c d past (h c none)

  rests_lent : (k d : ℕ) → IsAtRest (stepped v (mark.Lent k d)) past
  rests_lent k d c none =
      let more = count_by-push (is_loan_of c) (filter (λ (l : Loan). not (l.conn == d)) v.loans) (record { client = k; conn = d }) in
      let but = owned_but c d v in
      let all : cond {A = ℕ} (c == d) 0 (owned c v) + cond {A = ℕ} (c == d) 1 0 ≡ 0 = omega (arith, more, but, none) in
      by_number c d (λ b. cond {A = ℕ} b 0 (owned c v) + cond {A = ℕ} b 1 0 ≡ 0 → depth c past ≡ 0) (λ e z. absurd (omega (arith, z))) (λ n z. h c (omega (arith, z))) all

  -- the loan of a connection ends, which then has no level
  rests_unlent : (d : ℕ) (now : History) → depth d now ≡ 0 → ((c : ℕ) → depth c past ≡ 0 → depth c now ≡ 0) → (c : ℕ) → count_by (is_loan_of c) (filter (λ (l : Loan). not (l.conn == d)) v.loans) ≡ 0 → depth c now ≡ 0
  rests_unlent d now own others c none =
      by_number c d (λ b. cond {A = ℕ} b 0 (owned c v) ≡ 0 → depth c now ≡ 0) (λ e z. subst (λ (n : ℕ). depth n now ≡ 0) (sym e) own) (λ n z. others c (h c z)) (sym (owned_but c d v) ∙ none)

  rests_kept : (d m : ℕ) → depth d past ≡ 0 → IsAtRest (stepped v (mark.Kept d m)) past
  rests_kept d m own = rests_unlent d past own (λ c z. z)

  rests_left : (d : ℕ) → (c : ℕ) → count_by (is_loan_of c) (filter (λ (l : Loan). not (l.conn == d)) v.loans) ≡ 0 → depth c (leaves d ∷ past) ≡ 0
  rests_left d = rests_unlent d (leaves d ∷ past) (depth-left d past) (λ c z. rests-left c d past z)

-- ---- marks that keep new connections alone

-- Each connection that is kept was opened by the mark before.
abbrev KeepsNew : Option Mark → List Mark → Type 0
KeepsNew last [] = Unit {0}
KeepsNew last (mark.Kept c m ∷ later) = IsTrue (opens_it c last) × KeepsNew (Some (mark.Kept c m)) later
KeepsNew last (other ∷ later) = KeepsNew (Some other) later

-- What marks leave: no level without an owner, and fair marks behind them.
record RestsBehind (max : ℕ) (v : View) (last : Option Mark) (past : History) (later : List Mark) : Type 0 where
  rests : IsAtRest v past
  sound : IsSoundView v last
  fair : IsFairBehind max v last later

rests-marks : (ms later : List Mark) (max : ℕ) (v : View) (last : Option Mark) (past : History) → IsSoundView v last → IsFairBehind max v last (ms ++ later) → KeepsNew last (ms ++ later) → IsAtRest v past
    → RestsBehind max (stepped_all v ms) (last_mark last ms) (gone_by ms past) later
rests-marks [] later max v last past s f n h = record { rests = h; sound = s; fair = f }
rests-marks (mark.Asked t k d ∷ ms) later max v last past s f n h = rests-marks ms later max (stepped v (mark.Asked t k d)) (Some (mark.Asked t k d)) past (sound-step v last s (mark.Asked t k d) f.0.finds) f.1 n h
rests-marks (mark.Left t ∷ ms) later max v last past s f n h = rests-marks ms later max (stepped v (mark.Left t)) (Some (mark.Left t)) past (sound-step v last s (mark.Left t) f.0.finds) f.1 n h
rests-marks (mark.Taken d ∷ ms) later max v last past s f n h = rests-marks ms later max (stepped v (mark.Taken d)) (Some (mark.Taken d)) past (sound-step v last s (mark.Taken d) f.0.finds) f.1 n h
rests-marks (mark.Reaped d ∷ ms) later max v last past s f n h = rests-marks ms later max (stepped v (mark.Reaped d)) (Some (mark.Reaped d)) (leaves d ∷ past) (sound-step v last s (mark.Reaped d) f.0.finds) f.1 n (rests_gone v past h d)
rests-marks (mark.Opened d m ∷ ms) later max v last past s f n h = rests-marks ms later max (stepped v (mark.Opened d m)) (Some (mark.Opened d m)) past (sound-step v last s (mark.Opened d m) f.0.finds) f.1 n h
rests-marks (mark.Lent k d ∷ ms) later max v last past s f n h = rests-marks ms later max (stepped v (mark.Lent k d)) (Some (mark.Lent k d)) past (sound-step v last s (mark.Lent k d) f.0.finds) f.1 n (rests_lent v past h k d)
rests-marks (mark.Kept d m ∷ ms) later max v last past s f n h = rests-marks ms later max (stepped v (mark.Kept d m)) (Some (mark.Kept d m)) past (sound-step v last s (mark.Kept d m) f.0.finds) f.1 n.1 (rests_kept v past h d m (h d (s.fresh d n.0).1))
rests-marks (mark.Closed d ∷ ms) later max v last past s f n h = rests-marks ms later max (stepped v (mark.Closed d)) (Some (mark.Closed d)) (leaves d ∷ past) (sound-step v last s (mark.Closed d) f.0.finds) f.1 n (rests_left v past h d)
rests-marks (mark.Detached d ∷ ms) later max v last past s f n h = rests-marks ms later max (stepped v (mark.Detached d)) (Some (mark.Detached d)) (leaves d ∷ past) (sound-step v last s (mark.Detached d) f.0.finds) f.1 n (rests_left v past h d)
rests-marks (mark.Leaked d ∷ ms) later max v last past s f n h = rests-marks ms later max (stepped v (mark.Leaked d)) (Some (mark.Leaked d)) (leaves d ∷ past) (sound-step v last s (mark.Leaked d) f.0.finds) f.1 n (rests_left v past h d)
rests-marks (mark.Ended t ∷ ms) later max v last past s f n h = rests-marks ms later max (stepped v (mark.Ended t)) (Some (mark.Ended t)) past (sound-step v last s (mark.Ended t) f.0.finds) f.1 n h
rests-marks (mark.Shut ∷ ms) later max v last past s f n h = rests-marks ms later max (stepped v mark.Shut) (Some mark.Shut) past (sound-step v last s mark.Shut f.0.finds) f.1 n h

-- whatever the mark before
abbrev IsNew : List Mark → Type 0
IsNew ms = (last : Option Mark) → KeepsNew last ms

new-openings : (n c m : ℕ) → IsNew (openings n c m)
new-openings zero c m last = tt
new-openings (suc n) c m last = (same_number c, new-openings n (suc c) m (Some (mark.Kept c m)))

new-reaped : (rs : List IdleEntry) (ms : List Mark) → IsNew ms → IsNew (map reaping rs ++ ms)
new-reaped [] ms h last = h last
new-reaped (r ∷ rs) ms h last = new-reaped rs ms h (Some (mark.Reaped r.conn))

new-closed : (rs : List IdleEntry) → IsNew (map closing rs)
new-closed [] last = tt
new-closed (r ∷ rs) last = new-closed rs (Some (mark.Closed r.conn))

new-shut : (b : Bool) (idle : List IdleEntry) → IsNew (if b then mark.Shut ∷ map closing idle else [])
new-shut true idle last = new-closed idle (Some mark.Shut)
new-shut false idle last = tt

-- ---- the marks of a poll

new-refusing : (rs : List IdleEntry) (ms : List Mark) → IsNew ms → IsNew (refusing rs ++ ms)
new-refusing [] ms h last = h last
new-refusing (r ∷ rs) ms h last = new-refusing rs ms h (Some (mark.Closed r.conn))

new-reaching : (c : ℕ) (rs : List IdleEntry) (ms : List Mark) → IsNew ms → IsNew (reaching c rs ++ ms)
new-reaching c [] ms h last = h last
new-reaching c (r ∷ rs) ms h last = by (new-reaching c rs ms h (Some (mark.Closed r.conn))) (c == r.conn)
  where
    by : KeepsNew (Some (mark.Closed r.conn)) (reaching c rs ++ ms) → (b : Bool) → KeepsNew last ((if b then mark.Taken r.conn ∷ [] else mark.Taken r.conn ∷ mark.Closed r.conn ∷ reaching c rs) ++ ms)
    by more true = h (Some (mark.Taken r.conn))
    by more false = more

new-testing : (tries : ℕ) (idle : List IdleEntry) (ready : Option ℕ) (ms : List Mark) → IsNew ms → IsNew (testing tries idle ready ++ ms)
new-testing tries idle None ms h last = new-refusing (take tries idle) ms h last
new-testing tries idle (Some c) ms h last = by (is_among c idle)
  where
    by : (b : Bool) → KeepsNew last ((if b then reaching c idle else refusing (take tries idle)) ++ ms)
    by true = new-reaching c idle ms h last
    by false = new-refusing (take tries idle) ms h last

new-opening : (c m : ℕ) (idle : List IdleEntry) (ms : List Mark) → IsNew ms → IsNew (opening c m idle ++ ms)
new-opening c m idle ms h last = by (is_among c idle)
  where
    by : (b : Bool) → KeepsNew last ((if b then [] else mark.Opened c m ∷ []) ++ ms)
    by true = h last
    by false = h (Some (mark.Opened c m))

new-trying : (tries t : ℕ) (line : Bool) (idle : List IdleEntry) (ready : Option ℕ) (ms : List Mark) → IsNew ms → IsNew (trying tries t line idle ready ++ ms)
new-trying tries t true idle ready ms h last = new-testing tries idle ready ms h (Some (mark.Left t))
new-trying tries t false idle ready ms h last = h last

new-polled : (tries m k t : ℕ) (line : Bool) (idle : List IdleEntry) (r : Reply) → IsNew (polled tries m k t line idle r)
new-polled tries m k t line idle reply.PoolClosed last = tt
new-polled tries m k t line idle reply.PoolTimedOut last = tt
new-polled tries m k t line idle (reply.Ready c) last = new-trying tries t line idle (Some c) (opening c m idle ++ (mark.Lent k c ∷ mark.Ended t ∷ [])) (new-opening c m idle (mark.Lent k c ∷ mark.Ended t ∷ []) (λ l. tt)) last
new-polled tries m k t line idle (reply.Backoff until) last = subst (KeepsNew last) (append-nil (trying tries t line idle None)) (new-trying tries t line idle None [] (λ l. tt) last)
new-polled tries m k t line idle reply.Io last = new-trying tries t line idle None (mark.Ended t ∷ []) (λ l. tt) last
new-polled tries m k t line idle reply.DatabaseRefused last = new-trying tries t line idle None (mark.Ended t ∷ []) (λ l. tt) last
new-polled tries m k t line idle other last = tt

-- ---- the marks of the other events, but of a give

module _ (pool : PoolLine) (marks : List Mark) (m : ℕ) where
  new-asked : (client : ℕ) (r : Reply) → IsNew (made pool marks m (step.Ask client) r)
  new-asked client (reply.Ticket n) last = tt
  new-asked client other last = tt

  new-cancelled : (client ticket : ℕ) (r : Reply) → IsNew (made pool marks m (step.Cancel client ticket) r)
  new-cancelled client ticket reply.Cancelled last = tt
  new-cancelled client ticket other last = tt

  new-tried : (client : ℕ) (r : Reply) → IsNew (made pool marks m (step.Try client) r)
  new-tried client (reply.Ready c) last = tt
  new-tried client other last = tt

  new-ended : (c : ℕ) (r : Reply) → IsNew (ended marks m c r)
  new-ended c (reply.Closed n) last = new-openings n (next_conn marks) m (Some (mark.Closed c))
  new-ended c other last = tt

  new-detached : (c : ℕ) (r : Reply) → IsNew (detached marks m c r)
  new-detached c (reply.Detached n) last = new-openings n (next_conn marks) m (Some (mark.Detached c))
  new-detached c other last = tt

  new-leaked : (c : ℕ) (r : Reply) → IsNew (leaked marks m c r)
  new-leaked c (reply.Leaked n) last = new-openings n (next_conn marks) m (Some (mark.Leaked c))
  new-leaked c other last = tt

not_owned : (a b c : Bool) → IsTrue (a && not b && not c) → c ≡ false
not_owned a b c t = not-true c (and_parts (a && not b) (not c) t).1

-- ---- loans among marks

abbrev is_lent : Mark → Bool
is_lent (mark.Lent k c) = true
is_lent other = false

any_lent : (done rest : List Mark) (k c : ℕ) → list_any is_lent (done ++ mark.Lent k c ∷ rest) ≡ true
any_lent [] rest k c = refl
any_lent (m ∷ done) rest k c = rw (any_lent done rest k c) (or-true (is_lent m))

none_opened : (n c m : ℕ) → list_any is_lent (openings n c m) ≡ false
none_opened zero c m = refl
none_opened (suc n) c m = none_opened n (suc c) m

none_given : (marks : List Mark) (m c : ℕ) (r : Reply) → list_any is_lent (given marks m c r) ≡ false
none_given marks m c reply.Kept = refl
none_given marks m c (reply.Closed n) = none_opened n (next_conn marks) m
none_given marks m c other = refl

-- ---- one event

-- no client owns a connection without a loan
not_owner : (k c : ℕ) (marks : List Mark) → owned c (view_of marks) ≡ 0 → owns k (owner_of c marks) ≡ false
not_owner k c marks none = by (owns k (owner_of c marks)) refl
  where
    by : (b : Bool) → owns k (owner_of c marks) ≡ b → owns k (owner_of c marks) ≡ false
    by false e = e
    by true e = absurd (let some = owns-counts k c marks e in omega (arith, some, none))

module _ (pool : PoolLine) (many : 1 ≤ pool.tries) (pairs : Pairs) (marks : List Mark) (past : History) (m : ℕ) (f : IsFair pool.max [] marks) (h : IsAtRest (view_of marks) past) where
  rests-new : (ms : List Mark) → IsFair pool.max marks ms → IsNew ms → IsAtRest (view_of (marks ++ ms)) (gone_by ms past)
  rests-new ms fair new = subst (λ (v : View). IsAtRest v (gone_by ms past)) (sym (view_of-stepped_all marks ms))
      (rests-marks ms [] pool.max (view_of marks) (last_mark None marks) past (sound-log pool.max marks f)
      (subst (IsFairBehind pool.max (view_of marks) (last_mark None marks)) (sym (append-nil ms)) (behind_fair pool.max marks ms fair)) (subst (KeepsNew (last_mark None marks)) (sym (append-nil ms)) (new (last_mark None marks))) h).rests

  -- a loan among these marks finds no open level
  abbrev LendAtRest : List Mark → Type 0
  LendAtRest ms = (done rest : List Mark) (k c : ℕ) → ms ≡ done ++ mark.Lent k c ∷ rest → depth c (gone_by done past) ≡ 0

  lends-new : (ms : List Mark) → IsFair pool.max marks ms → IsNew ms → LendAtRest ms
  lends-new ms fair' new' done rest k c e =
      let fair : IsFair pool.max marks (done ++ mark.Lent k c ∷ rest) = subst (IsFair pool.max marks) e fair' in
      let new : IsNew (done ++ mark.Lent k c ∷ rest) = subst IsNew e new' in
      let behind = rests-marks done (mark.Lent k c ∷ rest) pool.max (view_of marks) (last_mark None marks) past (sound-log pool.max marks f)
      (behind_fair pool.max marks (done ++ mark.Lent k c ∷ rest) fair) (new (last_mark None marks)) h in
      let v = stepped_all (view_of marks) done in
      behind.rests c (none-counts (is_loan_of c) v.loans (not_owned (is_live c v) (is_idle c v) (is_owned c v) behind.fair.0.finds.1))

  lends-none : (ms : List Mark) → list_any is_lent ms ≡ false → LendAtRest ms
  lends-none ms none done rest k c e = absurd (let some : list_any is_lent ms ≡ true = ap (list_any is_lent) e ∙ any_lent done rest k c in let no : true ≡ false = sym some ∙ none in cc)

  rests-given : (k c opens : ℕ) (answers : GiveAnswers) (r : Reply) → r ≡ (if owns k (owner_of c marks) then give_reply pool answers marks past m c opens else reply.NotHeld) → IsFair pool.max marks (given marks m c r)
      → IsAtRest (view_of (marks ++ given marks m c r)) (gone_by (given marks m c r) past)
  rests-given k c opens answers r e fair =
      subst (λ (r : Reply). IsAtRest (view_of (marks ++ given marks m c r)) (gone_by (given marks m c r) past)) (sym e)
      (by (owns k (owner_of c marks)) (is_kept pool answers marks past m c) refl (subst (λ (r : Reply). IsFair pool.max marks (given marks m c r)) e fair))
    where
      by : (b kept : Bool) → is_kept pool answers marks past m c ≡ kept
          → IsFair pool.max marks (given marks m c (if b then (if kept then reply.Kept else reply.Closed (opened_for_minimum pool (marks ++ mark.Closed c ∷ []) opens)) else reply.NotHeld))
          → IsAtRest (view_of (marks ++ given marks m c (if b then (if kept then reply.Kept else reply.Closed (opened_for_minimum pool (marks ++ mark.Closed c ∷ []) opens)) else reply.NotHeld)))
          (gone_by (given marks m c (if b then (if kept then reply.Kept else reply.Closed (opened_for_minimum pool (marks ++ mark.Closed c ∷ []) opens)) else reply.NotHeld)) past)
      by true true is fair =
          let a = and_parts (not (closes_at (line_limits pool) marks c m) && (not pool.after_release || accepts answers.after_release) && (depth c past == 0)) answers.ping is in
          let b = and_parts (not (closes_at (line_limits pool) marks c m) && (not pool.after_release || accepts answers.after_release)) (depth c past == 0) a.0 in
          subst (λ (v : View). IsAtRest v past) (sym (view_of-stepped marks (mark.Kept c m))) (rests_kept (view_of marks) past h c m (eqb-true (depth c past) 0 b.1))
      by true false is fair =
          let n = opened_for_minimum pool (marks ++ mark.Closed c ∷ []) opens in
          rests-new (mark.Closed c ∷ openings n (next_conn marks) m) fair (λ last. new-openings n (next_conn marks) m (Some (mark.Closed c)))
      by false kept is fair = rests-new [] (fair-nothing pool.max marks) (λ last. tt)

  rests-statement : (s : Statement) → connection_asked s.act ≡ s.conn → IsAtRest (view_of (marks ++ [])) (changed_by (Some s) (statement_reply marks past s) past)
  rests-statement s its = subst (λ (l : List Mark). IsAtRest (view_of l) (changed_by (Some s) (statement_reply marks past s) past)) (sym (append-nil marks)) by
    where
      by : IsAtRest (view_of marks) (changed_by (Some s) (statement_reply marks past s) past)
      by c none = elim (eqb_tells s.conn c) [
        | inl is ↦
            let unowned : owned s.conn (view_of marks) ≡ 0 = subst (λ (n : ℕ). owned n (view_of marks) ≡ 0) (sym is.1) none in
            ap (λ (b : Bool). depth c (change_by s.act (read_reply (written_reply s.act (depth s.conn past) (reply_of s.act b s.met past))) past)) (not_owner s.client s.conn marks unowned)
            ∙ ap (depth c) (change_by-not_held s.act past) ∙ h c none
        | inr is ↦ rests-beside s.act (read_reply (statement_reply marks past s)) past c (ap (λ (n : ℕ). n == c) its ∙ is.0) (h c none)
      ]

  -- the marks and the history behind a step
  abbrev IsAtRestBehind : Step → Type 0
  IsAtRestBehind s =
      let r = reply_at pool pairs marks past m s (statement_of s) in
      IsAtRest (view_of (marks ++ made pool marks m s r)) (gone_by (made pool marks m s r) (changed_by (statement_of s) r past))

  rests-made : (s : Step) → IsAtRestBehind s
  rests-made (step.Ask client) = rests-new _ (fair-made pool many pairs marks past m f (step.Ask client)) (new-asked pool marks m client _)
  rests-made (step.Poll client ticket answers) = rests-new _ (fair-made pool many pairs marks past m f (step.Poll client ticket answers)) (new-polled pool.tries m client ticket _ (idle_of marks) _)
  rests-made (step.Cancel client ticket) = rests-new _ (fair-made pool many pairs marks past m f (step.Cancel client ticket)) (new-cancelled pool marks m client ticket _)
  rests-made (step.Try client) = rests-new _ (fair-made pool many pairs marks past m f (step.Try client)) (new-tried pool marks m client _)
  rests-made (step.Give client c answers opens) = rests-given client c opens answers _ refl (fair-made pool many pairs marks past m f (step.Give client c answers opens))
  rests-made (step.End client c opens) = rests-new _ (fair-made pool many pairs marks past m f (step.End client c opens)) (new-ended pool marks m c _)
  rests-made (step.Detach client c opens) = rests-new _ (fair-made pool many pairs marks past m f (step.Detach client c opens)) (new-detached pool marks m c _)
  rests-made (step.Leak client c opens) = rests-new _ (fair-made pool many pairs marks past m f (step.Leak client c opens)) (new-leaked pool marks m c _)
  rests-made (step.Reap opens) = rests-new _ (fair-made pool many pairs marks past m f (step.Reap opens)) (new-reaped (reaped_of pool marks m) _ (new-openings _ (next_conn marks) m))
  rests-made (step.Min opens) = rests-new _ (fair-made pool many pairs marks past m f (step.Min opens)) (new-openings _ (next_conn marks) m)
  rests-made step.CloseState = rests-new [] (fair-nothing pool.max marks) (λ last. tt)
  rests-made step.Close = rests-new _ (fair-made pool many pairs marks past m f step.Close) (new-shut (is_open marks) (idle_of marks))
  rests-made (step.Begin k c a) = rests-statement (record { client = k; conn = c; act = begin c; met = met_of a }) refl
  rests-made (step.Custom k c begins a) = rests-statement (record { client = k; conn = c; act = custom c begins; met = met_of a }) refl
  rests-made (step.Put k c key a value) = rests-statement (record { client = k; conn = c; act = put c (pos key) value; met = met_of a }) refl
  rests-made (step.Del k c key a) = rests-statement (record { client = k; conn = c; act = del c (pos key); met = met_of a }) refl
  rests-made (step.Get k c key a) = rests-statement (record { client = k; conn = c; act = get c (pos key); met = met_of a }) refl
  rests-made (step.Commit k c a) = rests-statement (record { client = k; conn = c; act = commit c; met = met_of a }) refl
  rests-made (step.Rollback k c a) = rests-statement (record { client = k; conn = c; act = roll_back c; met = met_of a }) refl
  rests-made (step.GiveUp k c) = rests-statement (record { client = k; conn = c; act = give_up c; met = accepted }) refl

  -- the marks of a step, and what a loan among them finds
  lends-made : (s : Step) → LendAtRest (made pool marks m s (reply_at pool pairs marks past m s (statement_of s)))
  lends-made (step.Ask client) = lends-new _ (fair-made pool many pairs marks past m f (step.Ask client)) (new-asked pool marks m client _)
  lends-made (step.Poll client ticket answers) = lends-new _ (fair-made pool many pairs marks past m f (step.Poll client ticket answers)) (new-polled pool.tries m client ticket _ (idle_of marks) _)
  lends-made (step.Cancel client ticket) = lends-new _ (fair-made pool many pairs marks past m f (step.Cancel client ticket)) (new-cancelled pool marks m client ticket _)
  lends-made (step.Try client) = lends-new _ (fair-made pool many pairs marks past m f (step.Try client)) (new-tried pool marks m client _)
  lends-made (step.Give client c answers opens) = lends-none _ (none_given marks m c (reply_at pool pairs marks past m (step.Give client c answers opens) None))
  lends-made (step.End client c opens) = lends-new _ (fair-made pool many pairs marks past m f (step.End client c opens)) (new-ended pool marks m c _)
  lends-made (step.Detach client c opens) = lends-new _ (fair-made pool many pairs marks past m f (step.Detach client c opens)) (new-detached pool marks m c _)
  lends-made (step.Leak client c opens) = lends-new _ (fair-made pool many pairs marks past m f (step.Leak client c opens)) (new-leaked pool marks m c _)
  lends-made (step.Reap opens) = lends-new _ (fair-made pool many pairs marks past m f (step.Reap opens)) (new-reaped (reaped_of pool marks m) _ (new-openings _ (next_conn marks) m))
  lends-made (step.Min opens) = lends-new _ (fair-made pool many pairs marks past m f (step.Min opens)) (new-openings _ (next_conn marks) m)
  lends-made step.Close = lends-new _ (fair-made pool many pairs marks past m f step.Close) (new-shut (is_open marks) (idle_of marks))
  lends-made other = lends-none [] refl

-- ---- a script

pub lends-answer : (pool : PoolLine) → 1 ≤ pool.tries → (pairs : Pairs) (event : Event) → IsFair pool.max [] (marks_of pool pairs) → IsAtRest (view_of (marks_of pool pairs)) (history_of pool pairs)
    → (done rest : List Mark) (k c : ℕ) → added pool (marks_of pool pairs) (event, answer pool pairs event) ≡ done ++ mark.Lent k c ∷ rest → depth c (gone_by done (history_of pool pairs)) ≡ 0
unfolding answer
lends-answer pool many pairs event f h = lends-made pool many pairs (marks_of pool pairs) (history_of pool pairs) event.moment.0 f h event.step

pub at_rest-push : (pool : PoolLine) → 1 ≤ pool.tries → (pairs : Pairs) (event : Event) → IsFair pool.max [] (marks_of pool pairs) → IsAtRest (view_of (marks_of pool pairs)) (history_of pool pairs)
    → IsAtRest (view_of (marks_of pool (pairs ++ (event, answer pool pairs event) ∷ []))) (history_of pool (pairs ++ (event, answer pool pairs event) ∷ []))
unfolding answer
at_rest-push pool many pairs event f h =
    let pair : Event × Reply = (event, answer pool pairs event) in
    subst (λ (l : List Mark). IsAtRest (view_of l) (history_of pool (pairs ++ pair ∷ []))) (sym (marks_of-push pool pairs pair))
    (subst (IsAtRest (view_of (marks_of pool pairs ++ added pool (marks_of pool pairs) pair))) (sym (history_of-push pool pairs pair))
    (rests-made pool many pairs (marks_of pool pairs) (history_of pool pairs) event.moment.0 f h event.step))
