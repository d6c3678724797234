-- An event that is carried out by its plan is answered by the rules, and the rows tell of the jobs behind it.
use Rattle.std.proofs.Common.{◌≡◌, ℕ, ◌+◌, ◌<◌, ◌≤◌, ◌^◌, Bool, true, false, cond, nat_lt, [], ◌∷◌, ◌++◌, length, count_by, Option, Some, None, refl, sym, subst, ◌∙◌, arith}
use Rattle.std.specs.List.{sum_by}
use Rattle.std.proofs.lemmas.List.Sums.{sum_by-append, count_by-le-length}
use Rattle.std.proofs.lemmas.Bool.{ltb-true}
use Rattle.sqlx_savepoints.specs.Rows.{Rows}
use Rattle.mem_store.specs.Store.{Store, Link}
use Rattle.sqlx_player.specs.Language.{Pairs}
use Rattle.sqlx_jobs_rules.specs.declared.event.Event.{Event}
use Rattle.sqlx_jobs_rules.specs.declared.event.Act.{Act}
use Rattle.sqlx_jobs_rules.specs.declared.event.Act.TheVariants.{Add, Claim, Extend, Finish, Drop, Count}
use Rattle.sqlx_jobs_rules.specs.declared.event.Met.{Met}
use Rattle.sqlx_jobs_rules.specs.declared.event.Met.TheVariants.{Accepted, WriteRefused, CommitRefused}
use Rattle.sqlx_jobs_rules.specs.declared.reply.Reply.{Reply}
use Rattle.sqlx_jobs_rules.specs.declared.reply.Reply.TheVariants.{Full, Fault, Job, Empty, NotHeld, Extended, Finished, Dropped, Counted}
use Rattle.sqlx_jobs_rules.specs.Grammar.{at}
use Rattle.sqlx_jobs_rules.specs.Jobs.{Jobs, jobs_of, first_of, is_ready, numbers, holds, counted, max_jobs, met_by, claim_reply, held_reply, reply_at}
use Rattle.sqlx_jobs_rules.proofs.Jobs.{jobs_by, jobs_of-push, quiet, fault_quiet}
use Rattle.sqlx_jobs.specs.declared.change.Change.{Change}
use Rattle.sqlx_jobs.specs.declared.plan.Plan.{Plan}
use Rattle.sqlx_jobs.specs.Kept.{Tells, AreCounted, count_key, state_key, until_key}
use Rattle.sqlx_jobs.specs.Level.{IsAtRest, changed, Ends}
use Rattle.sqlx_jobs.specs.Plan.{put, one, two, only, with, claim_plan, held_plan, plan_at, met_of, works, job_of}
use Rattle.sqlx_jobs.specs.Keeps.{writes, num_works, num_writes, Keeps}
use Rattle.sqlx_jobs.proofs.Numbers.{first-within}
use Rattle.sqlx_jobs.proofs.RowChanges.{adds_tell, claims_tell, extends_tell, drops_tell, finishes_tell}

-- ---- the reply

abbrev said_by : Option Change → Reply → Met → Reply
said_by None due met = due
said_by (Some change) due met = met_by met due

abbrev said : Plan → Met → Reply
said plan met = said_by plan.change plan.reply met

add_said : (b : Bool) (n : ℕ) (a : Met) → cond b (met_by a (Job (n + 1))) Full ≡ said (cond b (with (Job (n + 1)) (one (put count_key (n + 1)))) (only Full)) a
add_said true n a = refl
add_said false n a = refl

claim_said : (until w : ℕ) (a : Met) (o : Option ℕ) → claim_reply until a o ≡ said (claim_plan until w o) a
claim_said until w a None = refl
claim_said until w a (Some j) = refl

held_said : (held : Bool) (a : Met) (reply : Reply) (change : Change) → held_reply held a reply ≡ said (held_plan held reply change) a
held_said true a reply change = refl
held_said false a reply change = refl

reply_planned : (lease m : ℕ) (jobs : Jobs) (act : Act) → reply_at lease m jobs act ≡ said (plan_at lease m jobs act) (met_of act)
reply_planned lease m jobs (Add a) = add_said (nat_lt jobs.added max_jobs) jobs.added a
reply_planned lease m jobs (Claim w a) = claim_said (m + lease) w a (first_of (is_ready m jobs) (numbers jobs))
reply_planned lease m jobs (Extend w j a) = held_said (holds m w j jobs) a (Extended (m + lease)) (one (put (until_key j) (m + lease)))
reply_planned lease m jobs (Finish w j a) = held_said (holds m w j jobs) a Finished (two (put (state_key j) 1) (put (until_key j) 0))
reply_planned lease m jobs (Drop w j a) = held_said (holds m w j jobs) a Dropped (one (put (until_key j) 0))
reply_planned lease m jobs Count = refl

-- ---- the rows

-- what is known of a plan's change and its reply
abbrev Fits : Option Change → Reply → Event → Jobs → Rows → Type 0
Fits None due event jobs rows = (jobs_by (event, due) jobs ≡ jobs) × (writes due ≡ false)
Fits (Some change) due event jobs rows = Tells (changed change rows) (jobs_by (event, due) jobs)

add_fits : (m : ℕ) (jobs : Jobs) (rows : Rows) (a : Met) (b : Bool) → nat_lt jobs.added max_jobs ≡ b → Tells rows jobs
    → let plan : Plan = cond b (with (Job (jobs.added + 1)) (one (put count_key (jobs.added + 1)))) (only Full) in Fits plan.change plan.reply (at m (Add a)) jobs rows
add_fits m jobs rows a true is t = adds_tell rows jobs m a t (ltb-true jobs.added max_jobs is)
add_fits m jobs rows a false is t = (quiet (at m (Add a), Full) jobs refl (λ j. refl) (λ j. refl), refl)

claim_fits : (m until w : ℕ) (jobs : Jobs) (rows : Rows) (a : Met) (o : Option ℕ) → first_of (is_ready m jobs) (numbers jobs) ≡ o → Tells rows jobs
    → Fits (claim_plan until w o).change (claim_plan until w o).reply (at m (Claim w a)) jobs rows
claim_fits m until w jobs rows a None is t = (quiet (at m (Claim w a), Empty) jobs refl (λ j. refl) (λ j. refl), refl)
claim_fits m until w jobs rows a (Some k) is t =
    let within : k ≤ jobs.added = first-within (is_ready m jobs) jobs.added k is in
    claims_tell rows jobs m w k until a t (omega (arith, within, t.few))

extend_fits : (m until w k : ℕ) (jobs : Jobs) (rows : Rows) (a : Met) (b : Bool) → holds m w k jobs ≡ b → k < 2 ^ 32 → Tells rows jobs
    → let plan : Plan = held_plan b (Extended until) (one (put (until_key k) until)) in Fits plan.change plan.reply (at m (Extend w k a)) jobs rows
extend_fits m until w k jobs rows a true is small t = extends_tell rows jobs m w k until a t small is
extend_fits m until w k jobs rows a false is small t = (quiet (at m (Extend w k a), NotHeld) jobs refl (λ j. refl) (λ j. refl), refl)

finish_fits : (m w k : ℕ) (jobs : Jobs) (rows : Rows) (a : Met) (b : Bool) → k < 2 ^ 32 → Tells rows jobs
    → let plan : Plan = held_plan b Finished (two (put (state_key k) 1) (put (until_key k) 0)) in Fits plan.change plan.reply (at m (Finish w k a)) jobs rows
finish_fits m w k jobs rows a true small t = finishes_tell rows jobs m w k a t small
finish_fits m w k jobs rows a false small t = (quiet (at m (Finish w k a), NotHeld) jobs refl (λ j. refl) (λ j. refl), refl)

drop_fits : (m w k : ℕ) (jobs : Jobs) (rows : Rows) (a : Met) (b : Bool) → k < 2 ^ 32 → Tells rows jobs
    → let plan : Plan = held_plan b Dropped (one (put (until_key k) 0)) in Fits plan.change plan.reply (at m (Drop w k a)) jobs rows
drop_fits m w k jobs rows a true small t = drops_tell rows jobs m w k a t small
drop_fits m w k jobs rows a false small t = (quiet (at m (Drop w k a), NotHeld) jobs refl (λ j. refl) (λ j. refl), refl)

plan_fits : (lease m : ℕ) (jobs : Jobs) (rows : Rows) (act : Act) → job_of act < 2 ^ 32 → Tells rows jobs → Fits (plan_at lease m jobs act).change (plan_at lease m jobs act).reply (at m act) jobs rows
plan_fits lease m jobs rows (Add a) small t = add_fits m jobs rows a (nat_lt jobs.added max_jobs) refl t
plan_fits lease m jobs rows (Claim w a) small t = claim_fits m (m + lease) w jobs rows a (first_of (is_ready m jobs) (numbers jobs)) refl t
plan_fits lease m jobs rows (Extend w j a) small t = extend_fits m (m + lease) w j jobs rows a (holds m w j jobs) refl small t
plan_fits lease m jobs rows (Finish w j a) small t = finish_fits m w j jobs rows a (holds m w j jobs) small t
plan_fits lease m jobs rows (Drop w j a) small t = drop_fits m w j jobs rows a (holds m w j jobs) small t
plan_fits lease m jobs rows Count small t = (quiet (at m Count, counted m jobs) jobs refl (λ j. refl) (λ j. refl), refl)

-- ---- counts

counted-push : (p : Event × Reply → Bool) (xs : Pairs Event Reply) (x : Event × Reply) → count_by p (xs ++ x ∷ []) ≡ count_by p xs + cond (p x) 1 0
counted-push p xs x =
    let each = λ (pair : Event × Reply). cond (p pair) 1 0 in
    let last : sum_by each xs + sum_by each (x ∷ []) ≡ sum_by each xs + cond (p x) 1 0 = omega arith in
    sum_by-append each xs (x ∷ []) ∙ last

at_most_one : (b : Bool) → cond b 1 0 ≤ 1
at_most_one true = omega arith
at_most_one false = omega arith

lower : (store : Store) (link : Link) (n : ℕ) (rows : Rows) (b w b' w' : ℕ) → b' ≤ b → w' ≤ w → IsAtRest store link n rows b w → IsAtRest store link n rows b' w'
lower store link n rows b w b' w' less_b less_w h = record { sees = h.sees; alone = h.alone; rests = h.rests; levels = omega (arith, h.levels, less_b); puts = omega (arith, h.puts, less_w) }

-- ---- the answer

-- the store keeps a pair more
keeps_more : (n : ℕ) (pairs : Pairs Event Reply) (event : Event) (reply : Reply) (rows : Rows) (w : ℕ) (s : Store) (l : Link)
    → IsAtRest s l n rows (num_works pairs + cond (works event.act) 1 0) w → num_writes pairs + cond (writes reply) 1 0 ≤ w → Tells rows (jobs_by (event, reply) (jobs_of pairs)) → Keeps n (pairs ++ (event, reply) ∷ []) s l
keeps_more n pairs event reply rows w s l rests few tells =
    let levels : num_works (pairs ++ (event, reply) ∷ []) ≡ num_works pairs + cond (works event.act) 1 0 = counted-push (λ (pair : Event × Reply). works pair.0.act) pairs (event, reply) in
    let puts : num_writes (pairs ++ (event, reply) ∷ []) ≡ num_writes pairs + cond (writes reply) 1 0 = counted-push (λ (pair : Event × Reply). writes pair.1) pairs (event, reply) in
    record {
      rows = rows;
      rests = lower s l n rows (num_works pairs + cond (works event.act) 1 0) w (num_works (pairs ++ (event, reply) ∷ [])) (num_writes (pairs ++ (event, reply) ∷ [])) (omega (arith, levels)) (omega (arith, puts, few)) rests;
      tells = subst (λ (jobs : Jobs). Tells rows jobs) (sym (jobs_of-push pairs (event, reply))) tells;
    }

abbrev Done : ℕ → ℕ → Pairs Event Reply → Event → Store → Link → Reply → Type 0
Done lease n pairs event s l reply = (reply ≡ reply_at lease event.moment (jobs_of pairs) event.act) × Keeps n (pairs ++ (event, reply) ∷ []) s l

ends_well : (lease n : ℕ) (pairs : Pairs Event Reply) (event : Event) (rows : Rows) (s : Store) (l : Link) (change : Option Change) (due reply : Reply) (met : Met)
    → Tells rows (jobs_of pairs) → reply_at lease event.moment (jobs_of pairs) event.act ≡ said_by change due met → Fits change due event (jobs_of pairs) rows
    → Ends change due met n rows (num_works pairs + cond (works event.act) 1 0) (num_writes pairs) reply s l → Done lease n pairs event s l reply
ends_well lease n pairs event rows s l None due reply met t is fits ends =
    let few : num_writes pairs + cond (writes due) 1 0 ≤ num_writes pairs = subst (λ b. num_writes pairs + cond b 1 0 ≤ num_writes pairs) (sym fits.1) (omega arith) in
    subst (λ (r : Reply). Done lease n pairs event s l r) (sym ends.0)
    (sym is, keeps_more n pairs event due rows (num_writes pairs) s l ends.1 few (subst (λ (jobs : Jobs). Tells rows jobs) (sym fits.0) t))
ends_well lease n pairs event rows s l (Some change) due reply Accepted t is fits ends =
    let few : num_writes pairs + cond (writes due) 1 0 ≤ num_writes pairs + 1 = omega (arith, at_most_one (writes due)) in
    subst (λ (r : Reply). Done lease n pairs event s l r) (sym ends.0)
    (sym is, keeps_more n pairs event due (changed change rows) (num_writes pairs + 1) s l ends.1 few fits)
ends_well lease n pairs event rows s l (Some change) due reply WriteRefused t is fits ends =
    subst (λ (r : Reply). Done lease n pairs event s l r) (sym ends.0)
    (sym is, keeps_more n pairs event Fault rows (num_writes pairs) s l ends.1 (omega arith) (subst (λ (jobs : Jobs). Tells rows jobs) (sym (fault_quiet event (jobs_of pairs))) t))
ends_well lease n pairs event rows s l (Some change) due reply CommitRefused t is fits ends =
    subst (λ (r : Reply). Done lease n pairs event s l r) (sym ends.0)
    (sym is, keeps_more n pairs event Fault rows (num_writes pairs) s l ends.1 (omega arith) (subst (λ (jobs : Jobs). Tells rows jobs) (sym (fault_quiet event (jobs_of pairs))) t))

pub answered : (lease n : ℕ) (pairs : Pairs Event Reply) (event : Event) (rows : Rows) (s : Store) (l : Link) (plan : Plan) (reply : Reply) (met : Met)
    → Tells rows (jobs_of pairs) → plan ≡ plan_at lease event.moment (jobs_of pairs) event.act → met ≡ met_of event.act → works event.act ≡ true → job_of event.act < 2 ^ 32
    → Ends plan.change plan.reply met n rows (num_works pairs + 1) (num_writes pairs) reply s l → Done lease n pairs event s l reply
answered lease n pairs event rows s l plan reply met t is met_is levels small ends =
    let due = plan_at lease event.moment (jobs_of pairs) event.act in
    let planned = subst (λ (p : Plan). Ends p.change p.reply met n rows (num_works pairs + 1) (num_writes pairs) reply s l) is ends in
    let with_met = subst (λ (m : Met). Ends due.change due.reply m n rows (num_works pairs + 1) (num_writes pairs) reply s l) met_is planned in
    let counted = subst (λ b. Ends due.change due.reply (met_of event.act) n rows (num_works pairs + cond b 1 0) (num_writes pairs) reply s l) (sym levels) with_met in
    ends_well lease n pairs event rows s l due.change due.reply reply (met_of event.act) t (reply_planned lease event.moment (jobs_of pairs) event.act) (plan_fits lease event.moment (jobs_of pairs) rows event.act small t) counted

-- ---- a count

pub counts : (lease n m r h d : ℕ) (pairs : Pairs Event Reply) (s : Store) (l : Link) → Keeps n pairs s l → ((jobs : Jobs) → Tells s.rows jobs → AreCounted m jobs jobs.added r h d) → Done lease n pairs (at m Count) s l (Counted r h d)
counts lease n m r h d pairs s l k count =
    let told = count (jobs_of pairs) (subst (λ (rows : Rows). Tells rows (jobs_of pairs)) (sym k.rests.sees) k.tells) in
    let same : num_works pairs + 0 ≤ num_works pairs = omega arith in
    let few : num_writes pairs + 0 ≤ num_writes pairs = omega arith in (
      λ i. Counted (told.of_ready i) (told.of_held i) (told.of_done i),
      keeps_more n pairs (at m Count) (Counted r h d) k.rows (num_writes pairs) s l (lower s l n k.rows (num_works pairs) (num_writes pairs) (num_works pairs + 0) (num_writes pairs) same (omega arith) k.rests) few
          (subst (λ (jobs : Jobs). Tells k.rows jobs) (sym (quiet (at m Count, Counted r h d) (jobs_of pairs) refl (λ j. refl) (λ j. refl))) k.tells),
    )

-- the rows that a store has are those that it keeps
pub told : (n : ℕ) (pairs : Pairs Event Reply) (s : Store) (l : Link) → Keeps n pairs s l → Tells s.rows (jobs_of pairs)
told n pairs s l k = subst (λ (rows : Rows). Tells rows (jobs_of pairs)) (sym k.rests.sees) k.tells

pub num_works_few : (pairs : Pairs Event Reply) → num_works pairs ≤ length pairs
num_works_few pairs = count_by-le-length (λ (pair : Event × Reply). works pair.0.act) pairs

pub num_writes_few : (pairs : Pairs Event Reply) → num_writes pairs ≤ length pairs
num_writes_few pairs = count_by-le-length (λ (pair : Event × Reply). writes pair.1) pairs
