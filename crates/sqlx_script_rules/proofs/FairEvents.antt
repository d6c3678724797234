-- Each event of a script makes marks that may follow those before it, where its reply is the answer.
use Rattle.std.proofs.Common.{◌≡◌, ℕ, zero, suc, ◌+◌, ◌-◌, ◌≤◌, ◌==◌, ◌&&◌, ◌||◌, Bool, true, false, not, cond, IsTrue, if◌then◌else◌, List, [], ◌∷◌, ◌++◌, map, filter, find, count_by, min, Option, Some, None, option_map, refl, sym, ap, subst, ◌∙◌, arith}
use Rattle.std.specs.List.{list_any}
use Rattle.std.specs.Prelude.{nat_lt}
use Rattle.std.proofs.lemmas.Bool.{and_parts, ltb-true, not-true}
use Rattle.sqlx_pool_marks.specs.declared.mark.Mark.{Mark}
use Rattle.sqlx_pool_marks.specs.declared.mark.Mark.TheVariants as mark
use Rattle.sqlx_pool_marks.specs.Standing.{next_after, last_mark}
use Rattle.sqlx_pool_marks.specs.Marks.{PendingTicket, Loan, IdleEntry, tickets_of, loans_of, idle_of, is_loan_of, owner_of, is_shut, opened_at, next_ticket, next_conn, opened_number}
use Rattle.sqlx_pool_marks.specs.Counts.{is_asked_by, asked_in}
use Rattle.sqlx_pool_marks.specs.EventTable.{size_at, is_old_since, closes_at, is_beyond_at}
use Rattle.sqlx_pool_marks.specs.View.{View, view_of, waiting, free, size}
use Rattle.sqlx_pool_marks.specs.FairLog.{rests, is_ticket, is_unended, IsFair}
use Rattle.sqlx_pool_marks.proofs.ListFacts.{count_by-cons, found_passes, found_any, same_number}
use Rattle.sqlx_pool_marks.proofs.Counting.{count-filter}
use Rattle.sqlx_pool_marks.proofs.Pushed.{next_conn-push}
use Rattle.sqlx_pool_marks.proofs.FairLaws.{fair-append}
use Rattle.sqlx_pool_marks.proofs.LogLaws.{keeps-the-maximum}
use Rattle.sqlx_pool_marks.proofs.ViewSteps.{stepped, IsFairBehind, fair_behind}
use Rattle.sqlx_pool_marks.proofs.SoundViews.{any-counts, owned, resting_but, living_but, resting, living, IsSoundView, sound-step, stepped_all, sound_behind, view_of-stepped_all}
use Rattle.sqlx_pool_marks.proofs.FairSteps.{behind-append, fair-asked, fair-ended, fair-kept, fair-closed, fair-detached, fair-leaked, fair-reaped, fair-shut, fair-opened_kept, size-opened_kept, fair-tried, sound-log}
use Rattle.sqlx_script.specs.declared.answers.GiveAnswers.{GiveAnswers}
use Rattle.sqlx_script.specs.declared.pool_line.PoolLine.{PoolLine}
use Rattle.sqlx_script.specs.declared.step.Step.TheVariants.{Try}
use Rattle.sqlx_script.specs.declared.reply.Reply.TheVariants as reply
use Rattle.sqlx_script.specs.Built.{accepts}
use Rattle.sqlx_savepoints.specs.Changes.{History}
use Rattle.sqlx_savepoints.specs.Brackets.{depth}
use Rattle.sqlx_script_rules.specs.ScriptMarks.{made, first_of, openings, given, ended, detached, leaked, line_limits, passes, reaped_of, reaping, closing, shut}
use Rattle.sqlx_script_rules.specs.ScriptLevels.{owns}
use Rattle.sqlx_script_rules.specs.Answer.{try_reply, is_kept, opened_for_minimum, give_reply}

-- ---- no mark, and the maximum

-- no mark is fair behind any
pub fair-nothing : (max : ℕ) (marks : List Mark) → IsFair max marks []
fair-nothing max marks = record { safe = tt; order = tt }

-- what fair marks come to is within the maximum
pub fair-within : (max : ℕ) (marks : List Mark) → IsFair max [] marks → size (view_of marks) ≤ max
fair-within max marks f = keeps-the-maximum max [] marks (omega arith) f.safe

-- ---- connections for the minimum

-- what may pass the line finds an open pool, with more permits than tickets wait
passed : (shut fewer : Bool) → (not shut && fewer) ≡ true → (shut ≡ false) × (fewer ≡ true)
passed true fewer e = absurd cc
passed false fewer e = (refl, e)

fair-openings : (n c m max : ℕ) (v : View) (last : Option Mark) → IsSoundView v last → v.shut ≡ false → v.next_conn ≤ c → size v + n ≤ max → IsFairBehind max v last (openings n c m)
fair-openings zero c m max v last s opened new room = tt
fair-openings (suc n) c m max v last s opened new room =
    let two : List Mark = mark.Opened c m ∷ mark.Kept c m ∷ [] in
    let within : size v ≤ max = omega (arith, room) in
    let one = fair-opened_kept max v last s within c m opened new (omega (arith, room)) in
    let more = size-opened_kept max v last s within c m in
    behind-append max v last two (openings n (suc c) m) one
    (fair-openings n (suc c) m max (stepped_all v two) (Some (mark.Kept c m)) (sound_behind max v last two s one) opened (omega arith) (omega (arith, more, room)))

pub fair-filled : (pool : PoolLine) (marks : List Mark) → IsFair pool.max [] marks → (c m opens : ℕ) → next_conn marks ≤ c → IsFair pool.max marks (openings (opened_for_minimum pool marks opens) c m)
fair-filled pool marks f c m opens new = by (passes pool marks) refl
  where
    by : (b : Bool) → passes pool marks ≡ b → IsFair pool.max marks (openings (if b then min opens (min pool.min pool.max - size_at 0 marks) else 0) c m)
    by false e = fair-nothing pool.max marks
    by true e =
        let n = min opens (min pool.min pool.max - size_at 0 marks) in
        let within : size (view_of marks) ≤ pool.max = fair-within pool.max marks f in
        let p = passed (list_any is_shut marks) (nat_lt (waiting (view_of marks)) (free pool.max (view_of marks))) e in
        fair_behind pool.max marks (openings n c m) (fair-openings n c m pool.max (view_of marks) (last_mark None marks) (sound-log pool.max marks f) p.0 new (omega (arith, within)))

-- ---- connections that are reaped or closed

each_once : (n whole has : ℕ) (b : Bool) → whole ≡ cond {A = ℕ} b 1 0 + n → whole ≤ has → has ≤ 1 → n ≤ cond {A = ℕ} b 0 has
each_once n whole has true e h one = omega (arith, e, h, one)
each_once n whole has false e h one = omega (arith, e, h)

fair-reaps : (rs : List IdleEntry) (max : ℕ) (v : View) (last : Option Mark) → IsSoundView v last → size v ≤ max → v.shut ≡ false → ((c : ℕ) → count_by (rests c) rs ≤ resting c v) → IsFairBehind max v last (map reaping rs)
fair-reaps [] max v last s within opened h = tt
fair-reaps (r ∷ rs) max v last s within opened h =
    let here = h r.conn in
    let whole = count_by-cons (rests r.conn) r rs in
    let itself : cond {A = ℕ} (r.conn == r.conn) 1 0 ≡ 1 = ap (λ (b : Bool). cond {A = ℕ} b 1 0) (same_number r.conn) in
    let one = fair-reaped max v last s within r.conn opened (omega (arith, here, whole, itself)) in
    behind-append max v last (mark.Reaped r.conn ∷ []) (map reaping rs) one
    (fair-reaps rs max (stepped v (mark.Reaped r.conn)) (Some (mark.Reaped r.conn)) (sound-step v last s (mark.Reaped r.conn) one.0.finds) one.0.keeps opened
    (λ d.
    let once = s.once d in
    let lives = s.lives d in
    let some : resting d v ≤ 1 = omega (arith, once, lives) in
    subst (λ (n : ℕ). count_by (rests d) rs ≤ n) (sym (resting_but d r.conn v)) (each_once (count_by (rests d) rs) (count_by (rests d) (r ∷ rs)) (resting d v) (d == r.conn) (count_by-cons (rests d) r rs) (h d) some)))

fair-closes : (rs : List IdleEntry) (max : ℕ) (v : View) (last : Option Mark) → IsSoundView v last → size v ≤ max → ((c : ℕ) → count_by (rests c) rs ≤ living c v) → IsFairBehind max v last (map closing rs)
fair-closes [] max v last s within h = tt
fair-closes (r ∷ rs) max v last s within h =
    let here = h r.conn in
    let whole = count_by-cons (rests r.conn) r rs in
    let itself : cond {A = ℕ} (r.conn == r.conn) 1 0 ≡ 1 = ap (λ (b : Bool). cond {A = ℕ} b 1 0) (same_number r.conn) in
    let one = fair-closed max v last s within r.conn (omega (arith, here, whole, itself)) in
    behind-append max v last (mark.Closed r.conn ∷ []) (map closing rs) one
    (fair-closes rs max (stepped v (mark.Closed r.conn)) (Some (mark.Closed r.conn)) (sound-step v last s (mark.Closed r.conn) one.0.finds) one.0.keeps
    (λ d. subst (λ (n : ℕ). count_by (rests d) rs ≤ n) (sym (living_but d r.conn v)) (each_once (count_by (rests d) rs) (count_by (rests d) (r ∷ rs)) (living d v) (d == r.conn) (count_by-cons (rests d) r rs) (h d) (s.lives d))))

same_next : (rs : List IdleEntry) (v : View) → (stepped_all v (map reaping rs)).next_conn ≡ v.next_conn
same_next [] v = refl
same_next (r ∷ rs) v = same_next rs (stepped v (mark.Reaped r.conn))

neither : (a b : Bool) → (a || b) ≡ false → a ≡ false
neither true b e = absurd (let f : true ≡ false = e in cc)
neither false b e = refl

-- ---- who owns a connection

pub owns-counts : (k c : ℕ) (marks : List Mark) → owns k (owner_of c marks) ≡ true → 1 ≤ owned c (view_of marks)
owns-counts k c marks e = by (find (is_loan_of c) (loans_of marks)) refl e
  where
    by : (o : Option Loan) → find (is_loan_of c) (loans_of marks) ≡ o → owns k (option_map (λ (l : Loan). l.client) o) ≡ true → 1 ≤ owned c (view_of marks)
    by None is h = absurd cc
    by (Some l) is h = any-counts (is_loan_of c) (loans_of marks) (found_any (is_loan_of c) (is_loan_of c) (loans_of marks) l is (found_passes (is_loan_of c) (loans_of marks) l is))

-- ---- each event but a poll

module _ (pool : PoolLine) (marks : List Mark) (f : IsFair pool.max [] marks) where
  abbrev v : View
  v = view_of marks

  abbrev last : Option Mark
  last = last_mark None marks

  sound : IsSoundView v last
  sound = sound-log pool.max marks f

  within : size v ≤ pool.max
  within = fair-within pool.max marks f

  pub fair-ask : (client m : ℕ) → list_any is_shut marks ≡ false → IsFair pool.max marks (mark.Asked (next_ticket marks) client (m + pool.timeout) ∷ [])
  fair-ask client m opened = fair_behind pool.max marks (mark.Asked (next_ticket marks) client (m + pool.timeout) ∷ []) (fair-asked pool.max v last sound within client (m + pool.timeout) opened)

  pub fair-found_ended : (k t : ℕ) (a : PendingTicket) → asked_in k t (tickets_of marks) ≡ Some a → IsFair pool.max marks (mark.Ended t ∷ [])
  fair-found_ended k t a e =
      let is : IsTrue (is_unended t v) = found_any (is_asked_by k t) (is_ticket t) (tickets_of marks) a e (and_parts (t == a.ticket) (k == a.client) (found_passes (is_asked_by k t) (tickets_of marks) a e)).0 in
      fair_behind pool.max marks (mark.Ended t ∷ []) (fair-ended pool.max v last sound within t is)

  -- a connection leaves, and the minimum is filled
  left_filled : (x : Mark) → IsFair pool.max marks (x ∷ []) → opened_number x ≡ None → (m opens : ℕ) → IsFair pool.max marks (x ∷ openings (opened_for_minimum pool (marks ++ x ∷ []) opens) (next_conn marks) m)
  left_filled x fair unopened m opens =
      let same : next_conn (marks ++ x ∷ []) ≡ next_conn marks = next_conn-push marks x ∙ ap (λ (o : Option ℕ). next_after o (next_conn marks)) unopened in
      fair-append pool.max marks (x ∷ []) (openings (opened_for_minimum pool (marks ++ x ∷ []) opens) (next_conn marks) m) fair
      (fair-filled pool (marks ++ x ∷ []) (fair-append pool.max [] marks (x ∷ []) f fair) (next_conn marks) m opens (omega (arith, same)))

  closed_filled : (c m opens : ℕ) → 1 ≤ owned c v → IsFair pool.max marks (mark.Closed c ∷ openings (opened_for_minimum pool (marks ++ mark.Closed c ∷ []) opens) (next_conn marks) m)
  closed_filled c m opens some =
      let once = sound.once c in
      left_filled (mark.Closed c) (fair_behind pool.max marks (mark.Closed c ∷ []) (fair-closed pool.max v last sound within c (omega (arith, some, once)))) refl m opens

  pub fair-give : (k c m opens : ℕ) (answers : GiveAnswers) (past : History) → IsFair pool.max marks (given marks m c (if owns k (owner_of c marks) then give_reply pool answers marks past m c opens else reply.NotHeld))
  fair-give k c m opens answers past = by (owns k (owner_of c marks)) refl
    where
      kept_by : 1 ≤ owned c v → (b : Bool) → is_kept pool answers marks past m c ≡ b → IsFair pool.max marks (given marks m c (if b then reply.Kept else reply.Closed (opened_for_minimum pool (marks ++ mark.Closed c ∷ []) opens)))
      kept_by some true e =
          let a = and_parts (not (closes_at (line_limits pool) marks c m) && (not pool.after_release || accepts answers.after_release) && (depth c past == 0)) answers.ping e in
          let b = and_parts (not (closes_at (line_limits pool) marks c m) && (not pool.after_release || accepts answers.after_release)) (depth c past == 0) a.0 in
          let d = and_parts (not (closes_at (line_limits pool) marks c m)) (not pool.after_release || accepts answers.after_release) b.0 in
          let g = neither (list_any is_shut marks) (is_old_since (line_limits pool) (opened_at c marks) m) (not-true (closes_at (line_limits pool) marks c m) d.0) in
          fair_behind pool.max marks (mark.Kept c m ∷ []) (fair-kept pool.max v last sound within c m g some)
      kept_by some false e = closed_filled c m opens some

      by : (b : Bool) → owns k (owner_of c marks) ≡ b → IsFair pool.max marks (given marks m c (if b then give_reply pool answers marks past m c opens else reply.NotHeld))
      by true e = kept_by (owns-counts k c marks e) (is_kept pool answers marks past m c) refl
      by false e = fair-nothing pool.max marks

  pub fair-end : (k c m opens : ℕ) → IsFair pool.max marks (ended marks m c (if owns k (owner_of c marks) then reply.Closed (opened_for_minimum pool (marks ++ mark.Closed c ∷ []) opens) else reply.NotHeld))
  fair-end k c m opens = by (owns k (owner_of c marks)) refl
    where
      by : (b : Bool) → owns k (owner_of c marks) ≡ b → IsFair pool.max marks (ended marks m c (if b then reply.Closed (opened_for_minimum pool (marks ++ mark.Closed c ∷ []) opens) else reply.NotHeld))
      by true e = closed_filled c m opens (owns-counts k c marks e)
      by false e = fair-nothing pool.max marks

  pub fair-detach : (k c m opens : ℕ) → IsFair pool.max marks (detached marks m c (if owns k (owner_of c marks) then reply.Detached (opened_for_minimum pool (marks ++ mark.Detached c ∷ []) opens) else reply.NotHeld))
  fair-detach k c m opens = by (owns k (owner_of c marks)) refl
    where
      by : (b : Bool) → owns k (owner_of c marks) ≡ b → IsFair pool.max marks (detached marks m c (if b then reply.Detached (opened_for_minimum pool (marks ++ mark.Detached c ∷ []) opens) else reply.NotHeld))
      by true e = left_filled (mark.Detached c) (fair_behind pool.max marks (mark.Detached c ∷ []) (fair-detached pool.max v last sound within c (owns-counts k c marks e))) refl m opens
      by false e = fair-nothing pool.max marks

  pub fair-leak : (k c m opens : ℕ) → IsFair pool.max marks (leaked marks m c (if owns k (owner_of c marks) then reply.Leaked (opened_for_minimum pool (marks ++ mark.Leaked c ∷ []) opens) else reply.NotHeld))
  fair-leak k c m opens = by (owns k (owner_of c marks)) refl
    where
      by : (b : Bool) → owns k (owner_of c marks) ≡ b → IsFair pool.max marks (leaked marks m c (if b then reply.Leaked (opened_for_minimum pool (marks ++ mark.Leaked c ∷ []) opens) else reply.NotHeld))
      by true e = left_filled (mark.Leaked c) (fair_behind pool.max marks (mark.Leaked c ∷ []) (fair-leaked pool.max v last sound within c (owns-counts k c marks e))) refl m opens
      by false e = fair-nothing pool.max marks

  reaps_beyond : (m : ℕ) → IsFair pool.max marks (map reaping (reaped_of pool marks m))
  reaps_beyond m = by (passes pool marks) refl
    where
      by : (b : Bool) → passes pool marks ≡ b → IsFair pool.max marks (map reaping (if b then filter (is_beyond_at (line_limits pool) m marks) (idle_of marks) else []))
      by true e =
          let p = passed (list_any is_shut marks) (nat_lt (waiting v) (free pool.max v)) e in
          fair_behind pool.max marks (map reaping (filter (is_beyond_at (line_limits pool) m marks) (idle_of marks))) (fair-reaps (filter (is_beyond_at (line_limits pool) m marks) (idle_of marks)) pool.max v last sound within p.0 (λ c. count-filter (rests c) (is_beyond_at (line_limits pool) m marks) (idle_of marks)))
      by false e = fair-nothing pool.max marks

  pub fair-reap : (m opens : ℕ) → IsFair pool.max marks (map reaping (reaped_of pool marks m) ++ openings (opened_for_minimum pool (marks ++ map reaping (reaped_of pool marks m)) opens) (next_conn marks) m)
  fair-reap m opens =
      let gone = map reaping (reaped_of pool marks m) in
      let fair = reaps_beyond m in
      let same : next_conn (marks ++ gone) ≡ next_conn marks = ap (λ (w : View). w.next_conn) (view_of-stepped_all marks gone) ∙ same_next (reaped_of pool marks m) v in
      fair-append pool.max marks gone (openings (opened_for_minimum pool (marks ++ gone) opens) (next_conn marks) m) fair
      (fair-filled pool (marks ++ gone) (fair-append pool.max [] marks gone f fair) (next_conn marks) m opens (omega (arith, same)))

  pub fair-min : (m opens : ℕ) → IsFair pool.max marks (openings (opened_for_minimum pool marks opens) (next_conn marks) m)
  fair-min m opens = fair-filled pool marks f (next_conn marks) m opens (omega arith)

  pub fair-try : (client m : ℕ) → IsFair pool.max marks (made pool marks m (Try client) (try_reply (passes pool marks) (first_of (idle_of marks))))
  fair-try client m = first (idle_of marks) refl
    where
      by : (r : IdleEntry) (rest : List IdleEntry) → idle_of marks ≡ r ∷ rest → (b : Bool) → passes pool marks ≡ b → IsFair pool.max marks (made pool marks m (Try client) (if b then reply.Ready r.conn else reply.NothingToLend))
      by r rest is true e =
          let p = passed (list_any is_shut marks) (nat_lt (waiting v) (free pool.max v)) e in
          fair_behind pool.max marks (mark.Taken r.conn ∷ mark.Lent client r.conn ∷ []) (fair-tried pool.max v last sound within client r rest p.0 is (ltb-true (waiting v) (free pool.max v) p.1))
      by r rest is false e = fair-nothing pool.max marks

      first : (idle : List IdleEntry) → idle_of marks ≡ idle → IsFair pool.max marks (made pool marks m (Try client) (try_reply (passes pool marks) (first_of idle)))
      first [] is = fair-nothing pool.max marks
      first (r ∷ rest) is = by r rest is (passes pool marks) refl

  pub fair-close : IsFair pool.max marks (shut marks)
  fair-close = by (list_any is_shut marks) refl
    where
      by : (b : Bool) → list_any is_shut marks ≡ b → IsFair pool.max marks (if not b then mark.Shut ∷ map closing (idle_of marks) else [])
      by true e = fair-nothing pool.max marks
      by false e =
          let one = fair-shut pool.max v last sound within e in
          let s = sound in
          fair_behind pool.max marks (mark.Shut ∷ map closing (idle_of marks)) (behind-append pool.max v last (mark.Shut ∷ []) (map closing (idle_of marks)) one
          (fair-closes (idle_of marks) pool.max (stepped v mark.Shut) (Some mark.Shut) (sound-step v last sound mark.Shut one.0.finds) within (λ c. let once = s.once c in omega (arith, once))))
