-- What one more event and its reply, and a fault among them, do to what events and replies come to.
use Rattle.std.proofs.Common.{◌≡◌, ℕ, ◌+◌, ◌||◌, false, cond, [], ◌∷◌, ◌++◌, Option, None, refl, sym, ap, ◌∙◌, arith}
use Rattle.std.specs.List.{list_any, sum_by}
use Rattle.std.proofs.lemmas.List.Folds.{list_any-append}
use Rattle.std.proofs.lemmas.List.Sums.{sum_by-append}
use Rattle.std.proofs.Math.Bool.{or-false}
use Rattle.sqlx_player.specs.Language.{Pairs}
use Rattle.sqlx_jobs_rules.specs.declared.event.Event.{Event}
use Rattle.sqlx_jobs_rules.specs.declared.event.Act.{Act}
use Rattle.sqlx_jobs_rules.specs.declared.event.Act.TheVariants.{Add, Claim, Extend, Finish, Drop, Count}
use Rattle.sqlx_jobs_rules.specs.declared.reply.Reply.{Reply}
use Rattle.sqlx_jobs_rules.specs.declared.reply.Reply.TheVariants.{Fault}
use Rattle.sqlx_jobs_rules.specs.Jobs.{Hold, finishes, adds, hold_by, hold_after, Jobs, jobs_of}

-- ---- behind one another

pub hold_after-append : (j : ℕ) (hold : Option Hold) (xs ys : Pairs Event Reply) → hold_after j hold (xs ++ ys) ≡ hold_after j (hold_after j hold xs) ys
unfolding hold_after
hold_after-append j hold [] ys = refl
hold_after-append j hold (x ∷ xs) ys = hold_after-append j (hold_by j hold x) xs ys

pub hold_after-one : (j : ℕ) (hold : Option Hold) (x : Event × Reply) (ys : Pairs Event Reply) → hold_after j hold (x ∷ ys) ≡ hold_after j (hold_by j hold x) ys
unfolding hold_after
hold_after-one j hold x ys = refl

pub hold_after-nil : (j : ℕ) (hold : Option Hold) → hold_after j hold [] ≡ hold
unfolding hold_after
hold_after-nil j hold = refl

pub hold_after-push : (j : ℕ) (hold : Option Hold) (xs : Pairs Event Reply) (x : Event × Reply) → hold_after j hold (xs ++ x ∷ []) ≡ hold_by j (hold_after j hold xs) x
unfolding hold_after
hold_after-push j hold [] x = refl
hold_after-push j hold (y ∷ xs) x = hold_after-push j (hold_by j hold y) xs x

-- whether a job is done after one more
pub done-push : (j : ℕ) (xs : Pairs Event Reply) (x : Event × Reply) → (jobs_of (xs ++ x ∷ [])).done j ≡ ((jobs_of xs).done j || finishes j x.0.act x.1)
done-push j xs x = list_any-append (λ (pair : Event × Reply). finishes j pair.0.act pair.1) xs (x ∷ []) ∙ ap (λ b. (jobs_of xs).done j || b) (or-false (finishes j x.0.act x.1))

-- ---- a fault

-- it gives no hold, ends none, and finishes no job
fault_by : (j : ℕ) (hold : Option Hold) (act : Act) (m : ℕ) → hold_by j hold (record { moment = m; act = act }, Fault) ≡ hold
fault_by j hold (Add a) m = refl
fault_by j hold (Claim w a) m = refl
fault_by j hold (Extend w k a) m = refl
fault_by j hold (Finish w k a) m = refl
fault_by j hold (Drop w k a) m = refl
fault_by j hold Count m = refl

fault_finishes : (j : ℕ) (act : Act) → finishes j act Fault ≡ false
fault_finishes j (Add a) = refl
fault_finishes j (Claim w a) = refl
fault_finishes j (Extend w k a) = refl
fault_finishes j (Finish w k a) = refl
fault_finishes j (Drop w k a) = refl
fault_finishes j Count = refl

fault_hold : (j : ℕ) (before after : Pairs Event Reply) (event : Event) → (jobs_of (before ++ (event, Fault) ∷ after)).hold j ≡ (jobs_of (before ++ after)).hold j
fault_hold j before after event =
    hold_after-append j None before ((event, Fault) ∷ after)
    ∙ hold_after-one j (hold_after j None before) (event, Fault) after
    ∙ ap (λ (h : Option Hold). hold_after j h after) (fault_by j (hold_after j None before) event.act event.moment)
    ∙ sym (hold_after-append j None before after)

fault_done : (j : ℕ) (before after : Pairs Event Reply) (event : Event) → (jobs_of (before ++ (event, Fault) ∷ after)).done j ≡ (jobs_of (before ++ after)).done j
fault_done j before after event =
    let test = λ (pair : Event × Reply). finishes j pair.0.act pair.1 in
    list_any-append test before ((event, Fault) ∷ after)
    ∙ ap (λ b. list_any test before || (b || list_any test after)) (fault_finishes j event.act)
    ∙ sym (list_any-append test before after)

fault_added : (before after : Pairs Event Reply) (event : Event) → (jobs_of (before ++ (event, Fault) ∷ after)).added ≡ (jobs_of (before ++ after)).added
fault_added before after event =
    let test = λ (pair : Event × Reply). adds pair.1 in
    let one = λ (pair : Event × Reply). cond (test pair) 1 0 in
    let none : sum_by one before + sum_by one ((event, Fault) ∷ after) ≡ sum_by one before + sum_by one after = omega arith in
    sum_by-append one before ((event, Fault) ∷ after) ∙ none ∙ sym (sum_by-append one before after)

-- events and replies come to the same with a fault among them and without
pub fault_leaves : (before after : Pairs Event Reply) (event : Event) → jobs_of (before ++ (event, Fault) ∷ after) ≡ jobs_of (before ++ after)
fault_leaves before after event = λ i. record { added = fault_added before after event i; hold = λ j. fault_hold j before after event i; done = λ j. fault_done j before after event i }

-- ---- one more

-- what jobs come to by one more event and its reply
abbrev pub jobs_by : Event × Reply → Jobs → Jobs
jobs_by pair jobs = record {
  added = jobs.added + cond (adds pair.1) 1 0;
  hold = λ j. hold_by j (jobs.hold j) pair;
  done = λ j. jobs.done j || finishes j pair.0.act pair.1;
}

added-push : (xs : Pairs Event Reply) (x : Event × Reply) → (jobs_of (xs ++ x ∷ [])).added ≡ (jobs_of xs).added + cond (adds x.1) 1 0
added-push xs x =
    let one = λ (pair : Event × Reply). cond (adds pair.1) 1 0 in
    let last : sum_by one xs + sum_by one (x ∷ []) ≡ sum_by one xs + cond (adds x.1) 1 0 = omega arith in
    sum_by-append one xs (x ∷ []) ∙ last

pub jobs_of-push : (xs : Pairs Event Reply) (x : Event × Reply) → jobs_of (xs ++ x ∷ []) ≡ jobs_by x (jobs_of xs)
jobs_of-push xs x = λ i. record { added = added-push xs x i; hold = λ j. hold_after-push j None xs x i; done = λ j. done-push j xs x i }

-- a pair that adds nothing, gives no hold, ends none and finishes nothing leaves all as it was
pub quiet : (pair : Event × Reply) (jobs : Jobs) → adds pair.1 ≡ false → ((j : ℕ) → hold_by j (jobs.hold j) pair ≡ jobs.hold j) → ((j : ℕ) → finishes j pair.0.act pair.1 ≡ false) → jobs_by pair jobs ≡ jobs
quiet pair jobs adds_none holds finishes_none =
    let none : jobs.added + cond (adds pair.1) 1 0 ≡ jobs.added = ap (λ b. jobs.added + cond b 1 0) adds_none ∙ plus_none jobs.added in
    λ i. record { added = none i; hold = λ j. holds j i; done = λ j. (ap (λ b. jobs.done j || b) (finishes_none j) ∙ or-false (jobs.done j)) i }
  where
    plus_none : (n : ℕ) → n + 0 ≡ n
    plus_none n = omega arith

-- so does a fault
pub fault_quiet : (event : Event) (jobs : Jobs) → jobs_by (event, Fault) jobs ≡ jobs
fault_quiet event jobs = quiet (event, Fault) jobs refl (λ j. fault_by j (jobs.hold j) event.act event.moment) (λ j. fault_finishes j event.act)
