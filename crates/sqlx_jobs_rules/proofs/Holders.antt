-- The laws of runs: a job is finished once, and has one holder.
use Rattle.std.proofs.Common.{◌≡◌, ◌⊎◌, inl, inr, ℕ, ◌+◌, ◌<◌, ◌≤◌, ◌&&◌, Bool, true, false, cond, nat_lt, nat_le, List, [], ◌∷◌, ◌++◌, count_by, Option, Some, None, refl, sym, ap, subst, ◌∙◌, arith}
use Rattle.std.specs.List.{list_any, sum_by}
use Rattle.std.proofs.lemmas.List.Sums.{sum_by-append}
use Rattle.std.proofs.lemmas.Bool.{lt-ltb, leb-true, eqb-true, and_parts, or_parts, or_left, or_right, or_from, both_ways, false≢true, cond-true, cond-false}
use Rattle.sqlx_player.specs.Language.{Pairs, events_of}
use Rattle.sqlx_jobs_rules.specs.declared.queue_line.QueueLine.{QueueLine}
use Rattle.sqlx_jobs_rules.specs.declared.event.Event.{Event}
use Rattle.sqlx_jobs_rules.specs.declared.event.Act.{Act}
use Rattle.sqlx_jobs_rules.specs.declared.event.Act.TheVariants.{Add, Claim, Extend, Finish, Drop, Count}
use Rattle.sqlx_jobs_rules.specs.declared.reply.Reply.{Reply}
use Rattle.sqlx_jobs_rules.specs.declared.reply.Reply.TheVariants.{Full, Fault, Job, Empty, Claimed, NotHeld, Extended, Finished, Dropped, Counted}
use Rattle.sqlx_jobs_rules.specs.Jobs.{Hold, granted, finishes, ends, hold_or, hold_by, Jobs, jobs_of, lasts, is_of, holds, is_held, reply_at}
use Rattle.sqlx_jobs_rules.specs.Laws.{never_falls, run_of, NoneFinishedTwice, NoTwoHolders}
use Rattle.sqlx_jobs_rules.proofs.Jobs.{hold_after-push, done-push}
use Rattle.sqlx_jobs_rules.proofs.Runs.{Answered, answered_behind, run_answered, run_events, Grants, grants, finished_held}

-- ---- finished once

-- where job j is done and nobody's, no reply gives it to anybody
none_given : (lease m : ℕ) (jobs : Jobs) (j : ℕ) (act : Act) (r : Reply) → r ≡ reply_at lease m jobs act → jobs.done j ≡ true → jobs.hold j ≡ None → granted j act r ≡ None
none_given lease m jobs j act r is done none = by_grant (granted j act r) refl
  where
    no_holder : (h : Hold) → holds m h.worker j jobs ≡ true → ⊥
    no_holder h held = false≢true (subst (λ (o : Option Hold). (is_of h.worker o && lasts m o) ≡ true) none held)

    by_grant : (o : Option Hold) → granted j act r ≡ o → granted j act r ≡ None
    by_grant None e = e
    by_grant (Some h) e = absurd (by_how (grants lease m jobs j act r h is e).how)
      where
        by_how : ((jobs.done j ≡ false) × (is_held m jobs j ≡ false)) ⊎ (holds m h.worker j jobs ≡ true) → ⊥
        by_how (inl f) = both_ways (jobs.done j) f.0 done
        by_how (inr held) = no_holder h held

-- nor does one say that it is finished
none_finished : (lease m : ℕ) (jobs : Jobs) (j : ℕ) (act : Act) (r : Reply) → r ≡ reply_at lease m jobs act → jobs.hold j ≡ None → finishes j act r ≡ false
none_finished lease m jobs j act r is none = by_test (finishes j act r) refl
  where
    by_test : (b : Bool) → finishes j act r ≡ b → finishes j act r ≡ false
    by_test false e = e
    by_test true e = absurd (false≢true (subst (λ (o : Option Hold). lasts m o ≡ true) none (finished_held lease m j jobs act r is e)))

hold_none : (j : ℕ) (hold : Option Hold) (pair : Event × Reply) → hold ≡ None → granted j pair.0.act pair.1 ≡ None → hold_by j hold pair ≡ None
hold_none j hold pair none given = by_end (ends j pair.0.act pair.1)
  where
    by_end : (b : Bool) → cond b None (hold_or (granted j pair.0.act pair.1) hold) ≡ None
    by_end true = refl
    by_end false = ap (λ (g : Option Hold). hold_or g hold) given ∙ none

-- what finishes a job ends its hold
finish_ends : (j : ℕ) (act : Act) (r : Reply) → finishes j act r ≡ true → ends j act r ≡ true
finish_ends j (Finish w k a) Finished e = e
finish_ends j (Finish w k a) Full e = cc
finish_ends j (Finish w k a) Fault e = cc
finish_ends j (Finish w k a) (Job i) e = cc
finish_ends j (Finish w k a) Empty e = cc
finish_ends j (Finish w k a) (Claimed i u) e = cc
finish_ends j (Finish w k a) NotHeld e = cc
finish_ends j (Finish w k a) (Extended u) e = cc
finish_ends j (Finish w k a) Dropped e = cc
finish_ends j (Finish w k a) (Counted x y z) e = cc
finish_ends j (Add a) r e = cc
finish_ends j (Claim w a) r e = cc
finish_ends j (Extend w k a) r e = cc
finish_ends j (Drop w k a) r e = cc
finish_ends j Count r e = cc

abbrev finishing : ℕ → Pairs Event Reply → ℕ
finishing j pairs = count_by (λ (pair : Event × Reply). finishes j pair.0.act pair.1) pairs

finishing-cons : (j : ℕ) (p : Event × Reply) (rest : Pairs Event Reply) → finishing j (p ∷ rest) ≡ cond (finishes j p.0.act p.1) 1 0 + finishing j rest
finishing-cons j p rest =
    let one = λ (pair : Event × Reply). cond (finishes j pair.0.act pair.1) 1 0 in
    let first : sum_by one (p ∷ []) + sum_by one rest ≡ cond (finishes j p.0.act p.1) 1 0 + sum_by one rest = omega arith in
    sum_by-append one (p ∷ []) rest ∙ first

none_more : (queue : QueueLine) (j : ℕ) (front rest : Pairs Event Reply) → Answered queue front rest → (jobs_of front).done j ≡ true → (jobs_of front).hold j ≡ None → finishing j rest ≡ 0
none_more queue j front [] a done none = refl
none_more queue j front (p ∷ rest) a done none =
    let not : finishes j p.0.act p.1 ≡ false = none_finished queue.lease p.0.moment (jobs_of front) j p.0.act p.1 a.0 none in
    let given : granted j p.0.act p.1 ≡ None = none_given queue.lease p.0.moment (jobs_of front) j p.0.act p.1 a.0 done none in
    let next_done : (jobs_of (front ++ p ∷ [])).done j ≡ true = done-push j front p ∙ or_left _ _ done in
    let next_none : (jobs_of (front ++ p ∷ [])).hold j ≡ None = hold_after-push j None front p ∙ hold_none j ((jobs_of front).hold j) p none given in
    let later : finishing j rest ≡ 0 = none_more queue j (front ++ p ∷ []) rest a.1 next_done next_none in
    let none : 0 + finishing j rest ≡ 0 = omega (arith, later) in
    finishing-cons j p rest ∙ ap (λ b. cond b 1 0 + finishing j rest) not ∙ none

at_most_one : (queue : QueueLine) (j : ℕ) (front rest : Pairs Event Reply) → Answered queue front rest → (jobs_of front).done j ≡ false → finishing j rest ≤ 1
at_most_one queue j front [] a not = omega arith
at_most_one queue j front (p ∷ rest) a not = subst (λ n. n ≤ 1) (sym (finishing-cons j p rest)) (by_test (at_most_one queue j (front ++ p ∷ []) rest a.1) (finishes j p.0.act p.1) refl)
  where
    by_test : ((jobs_of (front ++ p ∷ [])).done j ≡ false → finishing j rest ≤ 1) → (b : Bool) → finishes j p.0.act p.1 ≡ b → cond (finishes j p.0.act p.1) 1 0 + finishing j rest ≤ 1
    by_test again true e =
        let next_done : (jobs_of (front ++ p ∷ [])).done j ≡ true = done-push j front p ∙ or_right _ _ e in
        let next_none : (jobs_of (front ++ p ∷ [])).hold j ≡ None = hold_after-push j None front p ∙ cond-true (ends j p.0.act p.1) None (hold_or (granted j p.0.act p.1) ((jobs_of front).hold j)) (finish_ends j p.0.act p.1 e) in
        let later : finishing j rest ≡ 0 = none_more queue j (front ++ p ∷ []) rest a.1 next_done next_none in
        let total : 1 + finishing j rest ≤ 1 = omega (arith, later) in
        subst (λ c. cond c 1 0 + finishing j rest ≤ 1) (sym e) total
    by_test again false e =
        let later : finishing j rest ≤ 1 = again (done-push j front p ∙ or_from _ _ not e) in
        let total : 0 + finishing j rest ≤ 1 = omega (arith, later) in
        subst (λ c. cond c 1 0 + finishing j rest ≤ 1) (sym e) total

pub none_finished_twice : NoneFinishedTwice
none_finished_twice queue events j = at_most_one queue j [] (run_of queue events) (run_answered queue events) refl

-- ---- one holder

rises_to : (last : ℕ) (ps : Pairs Event Reply) (two : Event × Reply) (after : Pairs Event Reply) → never_falls last (events_of (ps ++ two ∷ after)) ≡ true → last ≤ two.0.moment
rises_to last [] two after h = leb-true last two.0.moment (and_parts (nat_le last two.0.moment) _ h).0
rises_to last (p ∷ ps) two after h =
    let parts = and_parts (nat_le last p.0.moment) (never_falls p.0.moment (events_of (ps ++ two ∷ after))) h in
    let here : last ≤ p.0.moment = leb-true last p.0.moment parts.0 in
    let later : p.0.moment ≤ two.0.moment = rises_to p.0.moment ps two after parts.1 in
    omega (arith, here, later)

rises_behind : (last : ℕ) (ps : Pairs Event Reply) (one : Event × Reply) (after : Pairs Event Reply) → never_falls last (events_of (ps ++ one ∷ after)) ≡ true → never_falls one.0.moment (events_of after) ≡ true
rises_behind last [] one after h = (and_parts (nat_le last one.0.moment) _ h).1
rises_behind last (p ∷ ps) one after h = rises_behind p.0.moment ps one after (and_parts (nat_le last p.0.moment) (never_falls p.0.moment (events_of (ps ++ one ∷ after))) h).1

-- a reply that gives a job ends no hold of it
given_stays : (j : ℕ) (act : Act) (r : Reply) (hold : Hold) → granted j act r ≡ Some hold → ends j act r ≡ false
given_stays j (Add a) r hold g = refl
given_stays j (Claim w a) r hold g = refl
given_stays j (Extend w k a) r hold g = refl
given_stays j (Finish w k a) r hold g = cc
given_stays j (Drop w k a) r hold g = cc
given_stays j Count r hold g = refl

-- the hold that a reply gives is the hold behind it
given_hold : (j : ℕ) (front : Pairs Event Reply) (p : Event × Reply) (hold : Hold) → granted j p.0.act p.1 ≡ Some hold → (jobs_of (front ++ p ∷ [])).hold j ≡ Some hold
given_hold j front p hold g =
    hold_after-push j None front p
    ∙ cond-false (ends j p.0.act p.1) None (hold_or (granted j p.0.act p.1) ((jobs_of front).hold j)) (given_stays j p.0.act p.1 hold g)
    ∙ ap (λ (o : Option Hold). hold_or o ((jobs_of front).hold j)) g

-- where no reply gives or ends it, the hold stays
kept_hold : (j : ℕ) (front : Pairs Event Reply) (p : Event × Reply) (hold : Hold) → (jobs_of front).hold j ≡ Some hold → granted j p.0.act p.1 ≡ None → ends j p.0.act p.1 ≡ false → (jobs_of (front ++ p ∷ [])).hold j ≡ Some hold
kept_hold j front p hold is g e =
    hold_after-push j None front p
    ∙ cond-false (ends j p.0.act p.1) None (hold_or (granted j p.0.act p.1) ((jobs_of front).hold j)) e
    ∙ ap (λ (o : Option Hold). hold_or o ((jobs_of front).hold j)) g
    ∙ is

-- who is given a job while a hold of it lasts is its holder
same_worker : (lease m : ℕ) (jobs : Jobs) (j : ℕ) (hold given : Hold) → jobs.hold j ≡ Some hold → m < hold.until → Grants lease m jobs j given → hold.worker ≡ given.worker
same_worker lease m jobs j hold given is lasting g = by_how g.how
  where
    by_how : ((jobs.done j ≡ false) × (is_held m jobs j ≡ false)) ⊎ (holds m given.worker j jobs ≡ true) → hold.worker ≡ given.worker
    by_how (inl f) = absurd (both_ways (nat_lt m hold.until) (subst (λ (o : Option Hold). lasts m o ≡ false) is f.1) (lt-ltb m hold.until lasting))
    by_how (inr held) = eqb-true hold.worker given.worker (and_parts (is_of given.worker (Some hold)) (lasts m (Some hold)) (subst (λ (o : Option Hold). (is_of given.worker o && lasts m o) ≡ true) is held)).0

abbrev ends_any : ℕ → Pairs Event Reply → Bool
ends_any j pairs = list_any (λ (pair : Event × Reply). ends j pair.0.act pair.1) pairs

still_held : (queue : QueueLine) (j : ℕ) (front between : Pairs Event Reply) (two : Event × Reply) (after : Pairs Event Reply) (w u last : ℕ) (hold second : Hold)
    → Answered queue front (between ++ two ∷ after) → never_falls last (events_of (between ++ two ∷ after)) ≡ true
    → (jobs_of front).hold j ≡ Some hold → hold.worker ≡ w → u ≤ hold.until → u ≤ last + queue.lease → two.0.moment < u
    → ends_any j between ≡ false → granted j two.0.act two.1 ≡ Some second → w ≡ second.worker
still_held queue j front [] two after w u last hold second a rises is worker until least early none given =
    let lasting : two.0.moment < hold.until = omega (arith, until, early) in
    sym worker ∙ same_worker queue.lease two.0.moment (jobs_of front) j hold second is lasting (grants queue.lease two.0.moment (jobs_of front) j two.0.act two.1 second a.0 given)
still_held queue j front (p ∷ ps) two after w u last hold second a rises is worker until least early none given = by_grant (λ next here (kept : u ≤ next.until) (its : next.worker ≡ w). still_held queue j (front ++ p ∷ []) ps two after w u p.0.moment next second a.1 parts.1 here its kept (omega (arith, least, behind)) early stays.1 given) (granted j p.0.act p.1) refl
  where
    parts : (nat_le last p.0.moment ≡ true) × (never_falls p.0.moment (events_of (ps ++ two ∷ after)) ≡ true)
    parts = and_parts (nat_le last p.0.moment) (never_falls p.0.moment (events_of (ps ++ two ∷ after))) rises

    behind : last ≤ p.0.moment
    behind = leb-true last p.0.moment parts.0

    before : p.0.moment ≤ two.0.moment
    before = rises_to p.0.moment ps two after parts.1

    stays : (ends j p.0.act p.1 ≡ false) × (ends_any j ps ≡ false)
    stays = or_parts (ends j p.0.act p.1) (ends_any j ps) none

    by_grant : ((next : Hold) → (jobs_of (front ++ p ∷ [])).hold j ≡ Some next → u ≤ next.until → next.worker ≡ w → w ≡ second.worker) → (o : Option Hold) → granted j p.0.act p.1 ≡ o → w ≡ second.worker
    by_grant again None e = again hold (kept_hold j front p hold is e stays.0) until worker
    by_grant again (Some next) e =
        let lasting : p.0.moment < hold.until = omega (arith, before, early, until) in
        let g = grants queue.lease p.0.moment (jobs_of front) j p.0.act p.1 next a.0 e in
        let same : hold.worker ≡ next.worker = same_worker queue.lease p.0.moment (jobs_of front) j hold next is lasting g in
        let later : u ≤ next.until = omega (arith, least, behind, g.until) in
        again next (given_hold j front p next e) later (sym same ∙ worker)

pub no_two_holders : NoTwoHolders
no_two_holders queue es rises j before between after one two first second is given_one given_two early = by_end (ends_any j between) refl
  where
    all : Answered queue [] (before ++ one ∷ (between ++ two ∷ after))
    all = subst (Answered queue []) is (run_answered queue es)

    here : Answered queue before (one ∷ (between ++ two ∷ after))
    here = answered_behind queue [] before (one ∷ (between ++ two ∷ after)) all

    rising : never_falls 0 (events_of (before ++ one ∷ (between ++ two ∷ after))) ≡ true
    rising = subst (λ (xs : List Event). never_falls 0 xs ≡ true) (sym (run_events queue es) ∙ ap events_of is) rises

    until : first.until ≡ one.0.moment + queue.lease
    until = (grants queue.lease one.0.moment (jobs_of before) j one.0.act one.1 first here.0 given_one).until

    by_end : (b : Bool) → ends_any j between ≡ b → (first.worker ≡ second.worker) ⊎ (ends_any j between ≡ true)
    by_end true e = inr e
    by_end false e = inl (still_held queue j (before ++ one ∷ []) between two after first.worker first.until one.0.moment first second here.1
        (rises_behind 0 before one (between ++ two ∷ after) rising) (given_hold j before one first given_one) refl (omega arith) (omega (arith, until)) early e given_two)
