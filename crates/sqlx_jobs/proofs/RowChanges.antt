-- What rows tell of jobs behind a change.
use Rattle.std.proofs.Common.{◌≡◌, ◌≢◌, ◌⊎◌, inl, inr, ℕ, ◌+◌, ◌<◌, ◌^◌, ◌==◌, ◌||◌, ◌&&◌, ℤ, pos, negsuc, true, false, cond, nat_lt, Option, Some, None, refl, sym, ap, subst, ◌∙◌, arith}
use Rattle.std.specs.FinMap.{get}
use Rattle.std.specs.Ordering.{int_cmp, eq_by_cmp}
use Rattle.std.proofs.lemmas.Bool.{cases_eq, eq-eqb, ne_eqb, eqb-true, and_parts, or_right, false≢true, cond-true, cond-false, false_from_ne_true}
use Rattle.std.proofs.Math.Bool.{or-false}
use Rattle.sqlx_savepoints.specs.Rows.{Rows}
use Rattle.sqlx_savepoints.proofs.Laid.{get-written}
use Rattle.mem_store.proofs.OnceEach.{same_key, key_itself}
use Rattle.sqlx_jobs_rules.specs.declared.event.Act.TheVariants.{Add, Claim, Extend, Finish, Drop}
use Rattle.sqlx_jobs_rules.specs.declared.event.Met.{Met}
use Rattle.sqlx_jobs_rules.specs.declared.reply.Reply.TheVariants.{Job, Claimed, Extended, Finished, Dropped}
use Rattle.sqlx_jobs_rules.specs.Grammar.{at}
use Rattle.sqlx_jobs_rules.specs.Jobs.{Hold, hold_or, Jobs, is_of, lasts, holds}
use Rattle.sqlx_jobs_rules.proofs.Jobs.{jobs_by}
use Rattle.sqlx_jobs.specs.Kept.{number_of, number_at, count_key, state_key, until_key, holder_key, until_of, TellsJob, Tells}
use Rattle.sqlx_jobs.specs.Level.{put_in, changed}
use Rattle.sqlx_jobs.specs.Plan.{put, one, two}

-- ---- a row

abbrev magnitude : ℤ → ℕ
magnitude (pos n) = n
magnitude (negsuc n) = 0

pub put_here : (rows : Rows) (key value : ℕ) → number_at (put_in (put key value) rows) key ≡ value
put_here rows key value =
    ap number_of (get-written (pos key) (Some (pos value)) rows (pos key) ∙ cond-true (eq_by_cmp int_cmp (pos key) (pos key)) (Some (pos value)) (get rows (pos key)) (key_itself (pos key)))

pub put_apart : (rows : Rows) (key value k : ℕ) → k ≢ key → number_at (put_in (put key value) rows) k ≡ number_at rows k
put_apart rows key value k not =
    let differs : eq_by_cmp int_cmp (pos k) (pos key) ≡ false = false_from_ne_true _ (λ e. not (ap magnitude (same_key (pos k) (pos key) e))) in
    ap number_of (get-written (pos key) (Some (pos value)) rows (pos k) ∙ cond-false (eq_by_cmp int_cmp (pos k) (pos key)) (Some (pos value)) (get rows (pos k)) differs)

-- ---- a job

-- a job of which rows, hold and state are as they were
stays : (rows rows' : Rows) (jobs jobs' : Jobs) (j : ℕ) → TellsJob rows jobs j
    → number_at rows' (until_key j) ≡ number_at rows (until_key j) → number_at rows' (holder_key j) ≡ number_at rows (holder_key j) → number_at rows' (state_key j) ≡ number_at rows (state_key j)
    → jobs'.hold j ≡ jobs.hold j → jobs'.done j ≡ jobs.done j → TellsJob rows' jobs' j
stays rows rows' jobs jobs' j t until holder state hold done = record {
  until = until ∙ t.until ∙ ap until_of (sym hold);
  holder = λ h e. holder ∙ t.holder h (sym hold ∙ e);
  done = state ∙ t.done ∙ ap (λ b. cond b 1 0) (sym done);
}

-- a job that is somebody's now
is_held_now : (rows : Rows) (jobs : Jobs) (j w e : ℕ) → number_at rows (until_key j) ≡ e → number_at rows (holder_key j) ≡ w → number_at rows (state_key j) ≡ cond (jobs.done j) 1 0
    → jobs.hold j ≡ Some (record { worker = w; until = e }) → TellsJob rows jobs j
is_held_now rows jobs j w e until holder state hold = record {
  until = until ∙ ap until_of (sym hold);
  holder = λ h is. let same : record { worker = w; until = e } ≡ h = only_one h (sym hold ∙ is) in holder ∙ ap (λ (x : Hold). x.worker) same;
  done = state;
}
  where
    only_one : (h : Hold) → Some (record { worker = w; until = e }) ≡ Some h → record { worker = w; until = e } ≡ h
    only_one h is = cc

-- a job that is nobody's now
is_free_now : (rows : Rows) (jobs : Jobs) (j : ℕ) → number_at rows (until_key j) ≡ 0 → number_at rows (state_key j) ≡ cond (jobs.done j) 1 0 → jobs.hold j ≡ None → TellsJob rows jobs j
is_free_now rows jobs j until state hold = record {
  until = until ∙ ap until_of (sym hold);
  holder = λ h is. absurd (no_hold h (sym hold ∙ is));
  done = state;
}
  where
    no_hold : (h : Hold) → None ≡ Some h → ⊥
    no_hold h e = cc

-- who holds a job
pub held_some : (m w j : ℕ) (jobs : Jobs) → holds m w j jobs ≡ true → (h : Hold) × (jobs.hold j ≡ Some h) × (h.worker ≡ w)
held_some m w j jobs held = by_hold (jobs.hold j) refl held
  where
    by_hold : (o : Option Hold) → jobs.hold j ≡ o → (is_of w o && lasts m o) ≡ true → (h : Hold) × (jobs.hold j ≡ Some h) × (h.worker ≡ w)
    by_hold None is e = absurd (false≢true e)
    by_hold (Some h) is e = (h, is, eqb-true h.worker w (and_parts (h.worker == w) (nat_lt m h.until) e).0)

-- ---- the changes

pub adds_tell : (rows : Rows) (jobs : Jobs) (m : ℕ) (a : Met) → Tells rows jobs → jobs.added < 1000
    → Tells (changed (one (put count_key (jobs.added + 1))) rows) (jobs_by (at m (Add a), Job (jobs.added + 1)) jobs)
adds_tell rows jobs m a t few = record {
  added = put_here rows count_key (jobs.added + 1);
  few = omega (arith, few);
  job = λ j small.
      stays rows (changed (one (put count_key (jobs.added + 1))) rows) jobs (jobs_by (at m (Add a), Job (jobs.added + 1)) jobs) j (t.job j small)
      (put_apart rows count_key (jobs.added + 1) (until_key j) (λ e. omega (arith, e)))
      (put_apart rows count_key (jobs.added + 1) (holder_key j) (λ e. omega (arith, e)))
      (put_apart rows count_key (jobs.added + 1) (state_key j) (λ e. omega (arith, e)))
      refl (or-false (jobs.done j));
}

-- the hold of another job
hold_apart : (j k : ℕ) (given : Option Hold) (hold : Option Hold) → k ≢ j → hold_or (cond (k == j) given None) hold ≡ hold
hold_apart j k given hold not = ap (λ b. hold_or (cond b given None) hold) (ne_eqb k j not)

hold_here : (j : ℕ) (given : Hold) (hold : Option Hold) → hold_or (cond (j == j) (Some given) None) hold ≡ Some given
hold_here j given hold = ap (λ b. hold_or (cond b (Some given) None) hold) (eq-eqb j j refl)

pub claims_tell : (rows : Rows) (jobs : Jobs) (m w k e : ℕ) (a : Met) → Tells rows jobs → k < 2 ^ 32
    → Tells (changed (two (put (holder_key k) w) (put (until_key k) e)) rows) (jobs_by (at m (Claim w a), Claimed k e) jobs)
claims_tell rows jobs m w k e a t few = record {
  added = apart count_key (λ x. omega (arith, x)) (λ x. omega (arith, x)) ∙ t.added ∙ plus_none jobs.added;
  few = omega (arith, t.few);
  job = λ j small. by_job j small (cases_eq k j);
}
  where
    then : Rows
    then = put_in (put (holder_key k) w) rows

    after : Rows
    after = put_in (put (until_key k) e) then

    behind : Jobs
    behind = jobs_by (at m (Claim w a), Claimed k e) jobs

    plus_none : (n : ℕ) → n ≡ n + 0
    plus_none n = omega arith

    apart : (key : ℕ) → key ≢ holder_key k → key ≢ until_key k → number_at after key ≡ number_at rows key
    apart key x y = put_apart then (until_key k) e key y ∙ put_apart rows (holder_key k) w key x

    by_job : (j : ℕ) → j < 2 ^ 32 → (k ≡ j) ⊎ (k ≡ j → ⊥) → TellsJob after behind j
    by_job j small (inl same) =
        subst (λ x. TellsJob after behind x) same
        (is_held_now after behind k w e (put_here then (until_key k) e)
        (put_apart then (until_key k) e (holder_key k) (λ x. omega (arith, x)) ∙ put_here rows (holder_key k) w)
        (apart (state_key k) (λ x. omega (arith, x, few)) (λ x. omega (arith, x, few)) ∙ (t.job k few).done ∙ ap (λ b. cond b 1 0) (sym (or-false (jobs.done k))))
        (hold_here k (record { worker = w; until = e }) (jobs.hold k)))
    by_job j small (inr not) =
        stays rows after jobs behind j (t.job j small)
        (apart (until_key j) (λ x. omega (arith, x, small, few)) (λ x. not (omega (arith, x))))
        (apart (holder_key j) (λ x. not (omega (arith, x))) (λ x. omega (arith, x, small, few)))
        (apart (state_key j) (λ x. omega (arith, x, small, few)) (λ x. omega (arith, x, small, few)))
        (hold_apart j k (Some (record { worker = w; until = e })) (jobs.hold j) not) (or-false (jobs.done j))

pub extends_tell : (rows : Rows) (jobs : Jobs) (m w k e : ℕ) (a : Met) → Tells rows jobs → k < 2 ^ 32 → holds m w k jobs ≡ true
    → Tells (changed (one (put (until_key k) e)) rows) (jobs_by (at m (Extend w k a), Extended e) jobs)
extends_tell rows jobs m w k e a t few held = record {
  added = put_apart rows (until_key k) e count_key (λ x. omega (arith, x)) ∙ t.added ∙ plus_none jobs.added;
  few = omega (arith, t.few);
  job = λ j small. by_job j small (cases_eq k j);
}
  where
    after : Rows
    after = put_in (put (until_key k) e) rows

    behind : Jobs
    behind = jobs_by (at m (Extend w k a), Extended e) jobs

    plus_none : (n : ℕ) → n ≡ n + 0
    plus_none n = omega arith

    apart : (key : ℕ) → key ≢ until_key k → number_at after key ≡ number_at rows key
    apart key x = put_apart rows (until_key k) e key x

    holder : number_at rows (holder_key k) ≡ w
    holder = let some = held_some m w k jobs held in (t.job k few).holder some.0 some.1 ∙ some.2

    by_job : (j : ℕ) → j < 2 ^ 32 → (k ≡ j) ⊎ (k ≡ j → ⊥) → TellsJob after behind j
    by_job j small (inl same) =
        subst (λ x. TellsJob after behind x) same
        (is_held_now after behind k w e (put_here rows (until_key k) e)
        (apart (holder_key k) (λ x. omega (arith, x)) ∙ holder)
        (apart (state_key k) (λ x. omega (arith, x, few)) ∙ (t.job k few).done ∙ ap (λ b. cond b 1 0) (sym (or-false (jobs.done k))))
        (hold_here k (record { worker = w; until = e }) (jobs.hold k)))
    by_job j small (inr not) =
        stays rows after jobs behind j (t.job j small)
        (apart (until_key j) (λ x. not (omega (arith, x))))
        (apart (holder_key j) (λ x. omega (arith, x, small, few)))
        (apart (state_key j) (λ x. omega (arith, x, small, few)))
        (hold_apart j k (Some (record { worker = w; until = e })) (jobs.hold j) not) (or-false (jobs.done j))

-- a hold that is ended, and another that isn't
ended_here : (k : ℕ) (hold : Option Hold) → cond (k == k) None hold ≡ None
ended_here k hold = cond-true (k == k) None hold (eq-eqb k k refl)

ended_apart : (j k : ℕ) (hold : Option Hold) → k ≢ j → cond (k == j) None hold ≡ hold
ended_apart j k hold not = cond-false (k == j) None hold (ne_eqb k j not)

pub drops_tell : (rows : Rows) (jobs : Jobs) (m w k : ℕ) (a : Met) → Tells rows jobs → k < 2 ^ 32
    → Tells (changed (one (put (until_key k) 0)) rows) (jobs_by (at m (Drop w k a), Dropped) jobs)
drops_tell rows jobs m w k a t few = record {
  added = put_apart rows (until_key k) 0 count_key (λ x. omega (arith, x)) ∙ t.added ∙ plus_none jobs.added;
  few = omega (arith, t.few);
  job = λ j small. by_job j small (cases_eq k j);
}
  where
    after : Rows
    after = put_in (put (until_key k) 0) rows

    behind : Jobs
    behind = jobs_by (at m (Drop w k a), Dropped) jobs

    plus_none : (n : ℕ) → n ≡ n + 0
    plus_none n = omega arith

    apart : (key : ℕ) → key ≢ until_key k → number_at after key ≡ number_at rows key
    apart key x = put_apart rows (until_key k) 0 key x

    by_job : (j : ℕ) → j < 2 ^ 32 → (k ≡ j) ⊎ (k ≡ j → ⊥) → TellsJob after behind j
    by_job j small (inl same) =
        subst (λ x. TellsJob after behind x) same
        (is_free_now after behind k (put_here rows (until_key k) 0)
        (apart (state_key k) (λ x. omega (arith, x, few)) ∙ (t.job k few).done ∙ ap (λ b. cond b 1 0) (sym (or-false (jobs.done k))))
        (ended_here k (jobs.hold k)))
    by_job j small (inr not) =
        stays rows after jobs behind j (t.job j small)
        (apart (until_key j) (λ x. not (omega (arith, x))))
        (apart (holder_key j) (λ x. omega (arith, x, small, few)))
        (apart (state_key j) (λ x. omega (arith, x, small, few)))
        (ended_apart j k (jobs.hold j) not) (or-false (jobs.done j))

pub finishes_tell : (rows : Rows) (jobs : Jobs) (m w k : ℕ) (a : Met) → Tells rows jobs → k < 2 ^ 32
    → Tells (changed (two (put (state_key k) 1) (put (until_key k) 0)) rows) (jobs_by (at m (Finish w k a), Finished) jobs)
finishes_tell rows jobs m w k a t few = record {
  added = apart count_key (λ x. omega (arith, x)) (λ x. omega (arith, x)) ∙ t.added ∙ plus_none jobs.added;
  few = omega (arith, t.few);
  job = λ j small. by_job j small (cases_eq k j);
}
  where
    then : Rows
    then = put_in (put (state_key k) 1) rows

    after : Rows
    after = put_in (put (until_key k) 0) then

    behind : Jobs
    behind = jobs_by (at m (Finish w k a), Finished) jobs

    plus_none : (n : ℕ) → n ≡ n + 0
    plus_none n = omega arith

    apart : (key : ℕ) → key ≢ state_key k → key ≢ until_key k → number_at after key ≡ number_at rows key
    apart key x y = put_apart then (until_key k) 0 key y ∙ put_apart rows (state_key k) 1 key x

    by_job : (j : ℕ) → j < 2 ^ 32 → (k ≡ j) ⊎ (k ≡ j → ⊥) → TellsJob after behind j
    by_job j small (inl same) =
        subst (λ x. TellsJob after behind x) same
        (is_free_now after behind k (put_here then (until_key k) 0)
        (put_apart then (until_key k) 0 (state_key k) (λ x. omega (arith, x, few)) ∙ put_here rows (state_key k) 1 ∙ ap (λ b. cond b 1 0) (sym (or_right (jobs.done k) (k == k) (eq-eqb k k refl))))
        (ended_here k (jobs.hold k)))
    by_job j small (inr not) =
        stays rows after jobs behind j (t.job j small)
        (apart (until_key j) (λ x. omega (arith, x, small, few)) (λ x. not (omega (arith, x))))
        (apart (holder_key j) (λ x. omega (arith, x, small, few)) (λ x. omega (arith, x, small, few)))
        (apart (state_key j) (λ x. not (omega (arith, x))) (λ x. omega (arith, x, small, few)))
        (ended_apart j k (jobs.hold j) not)
        (ap (λ b. jobs.done j || b) (ne_eqb k j not) ∙ or-false (jobs.done j))
