-- Runs: lists of events, each with its answer.
use Rattle.std.proofs.Common.{◌≡◌, ◌⊎◌, inl, inr, ℕ, ◌+◌, ◌==◌, Bool, true, false, not, cond, List, [], ◌∷◌, ◌++◌, map, Option, Some, None, refl, sym, ap, subst, ◌∙◌, append_assoc, append-nil}
use Rattle.std.proofs.lemmas.Bool.{eqb-true, and_parts, not-true, false≢true}
use Rattle.sqlx_player.specs.Language.{Pairs}
use Rattle.sqlx_player.specs.Output.{pairs_after}
use Rattle.sqlx_player.proofs.scripts.Pairs.{pairs_after-nil, pairs_after-cons}
use Rattle.sqlx_jobs_rules.specs.declared.queue_line.QueueLine.{QueueLine}
use Rattle.sqlx_jobs_rules.specs.declared.event.Event.{Event}
use Rattle.sqlx_jobs_rules.specs.declared.event.Act.{Act}
use Rattle.sqlx_jobs_rules.specs.declared.event.Act.TheVariants.{Add, Claim, Extend, Finish, Drop, Count}
use Rattle.sqlx_jobs_rules.specs.declared.event.Met.{Met}
use Rattle.sqlx_jobs_rules.specs.declared.event.Met.TheVariants.{Accepted, WriteRefused, CommitRefused}
use Rattle.sqlx_jobs_rules.specs.declared.reply.Reply.{Reply}
use Rattle.sqlx_jobs_rules.specs.declared.reply.Reply.TheVariants.{Fault, Empty, Claimed, NotHeld, Extended, Finished}
use Rattle.sqlx_jobs_rules.specs.Jobs.{Hold, granted, finishes, Jobs, lasts, is_of, holds, is_held, is_ready, first_of, numbers, met_by, claim_reply, held_reply, reply_at, answer, jobs_rules}
use Rattle.sqlx_jobs_rules.specs.Laws.{run_of}

-- ---- answered pairs

-- Behind the pairs in front, each of these has the answer for its reply.
abbrev pub Answered : QueueLine → Pairs Event Reply → Pairs Event Reply → Type 0
Answered queue front [] = Unit {0}
Answered queue front (pair ∷ pairs) = (pair.1 ≡ answer queue front pair.0) × Answered queue (front ++ pair ∷ []) pairs

-- those behind some of them are answered behind these
pub answered_behind : (queue : QueueLine) (front xs ys : Pairs Event Reply) → Answered queue front (xs ++ ys) → Answered queue (front ++ xs) ys
answered_behind queue front [] ys a = subst (λ (f : Pairs Event Reply). Answered queue f ys) (sym (append-nil front)) a
answered_behind queue front (x ∷ xs) ys a = subst (λ (f : Pairs Event Reply). Answered queue f ys) (append_assoc front (x ∷ []) xs) (answered_behind queue (front ++ x ∷ []) xs ys a.1)

-- those in front are answered without the others
pub answered_front : (queue : QueueLine) (front xs ys : Pairs Event Reply) → Answered queue front (xs ++ ys) → Answered queue front xs
answered_front queue front [] ys a = tt
answered_front queue front (x ∷ xs) ys a = (a.0, answered_front queue (front ++ x ∷ []) xs ys a.1)

-- some, and others behind them
pub answered-append : (queue : QueueLine) (front xs ys : Pairs Event Reply) → Answered queue front xs → Answered queue (front ++ xs) ys → Answered queue front (xs ++ ys)
answered-append queue front [] ys a b = subst (λ (f : Pairs Event Reply). Answered queue f ys) (append-nil front) b
answered-append queue front (x ∷ xs) ys a b = (a.0, answered-append queue (front ++ x ∷ []) xs ys a.1 (subst (λ (f : Pairs Event Reply). Answered queue f ys) (sym (append_assoc front (x ∷ []) xs)) b))

-- The pairs of events behind others are these and then answered ones.
pub run_follows : (queue : QueueLine) (front : Pairs Event Reply) (events : List Event) → (more : Pairs Event Reply)
    × (pairs_after jobs_rules queue front events ≡ front ++ more) × Answered queue front more × (map (λ (p : Event × Reply). p.0) more ≡ events)
run_follows queue front [] = ([], pairs_after-nil jobs_rules queue front ∙ sym (append-nil front), tt, refl)
run_follows queue front (event ∷ events) =
    let pair : Event × Reply = (event, answer queue front event) in
    let rest = run_follows queue (front ++ pair ∷ []) events in
    let joined : (front ++ pair ∷ []) ++ rest.0 ≡ front ++ pair ∷ rest.0 = append_assoc front (pair ∷ []) rest.0 in
    (pair ∷ rest.0, pairs_after-cons jobs_rules queue front event events ∙ rest.1 ∙ joined, (refl, rest.2), ap (λ es. event ∷ es) rest.3)

-- a run's pairs are answered
pub run_answered : (queue : QueueLine) (events : List Event) → Answered queue [] (run_of queue events)
run_answered queue events = let all = run_follows queue [] events in subst (Answered queue []) (sym all.1) all.2

pub run_events : (queue : QueueLine) (events : List Event) → map (λ (p : Event × Reply). p.0) (run_of queue events) ≡ events
run_events queue events = let all = run_follows queue [] events in ap (map (λ (p : Event × Reply). p.0)) all.1 ∙ all.3

-- ---- what a reply says of the pairs in front

cond_is : {A : Type 0} (b : Bool) (x y z : A) → cond b x y ≡ z → ((b ≡ true) × (x ≡ z)) ⊎ ((b ≡ false) × (y ≡ z))
cond_is true x y z h = inl (refl, h)
cond_is false x y z h = inr (refl, h)

-- the first that passes the test passes it
first_passes : (test : ℕ → Bool) (js : List ℕ) (j : ℕ) → first_of test js ≡ Some j → test j ≡ true
first_passes test [] j h = cc
first_passes test (k ∷ ks) j h = elim (cond_is (test k) (Some k) (first_of test ks) (Some j) h) [
  | inl e ↦ let same : k ≡ j = cc in subst (λ x. test x ≡ true) same e.0
  | inr e ↦ first_passes test ks j e.1
]

-- what is known where a reply to an act gives job j to somebody: it had no holder, and is not done; or it was that worker's already
pub record Grants (lease m : ℕ) (jobs : Jobs) (j : ℕ) (hold : Hold) : Type 0 where
  pub until : hold.until ≡ m + lease
  pub how : ((jobs.done j ≡ false) × (is_held m jobs j ≡ false)) ⊎ (holds m hold.worker j jobs ≡ true)

met_is : (a : Met) (reply r : Reply) → met_by a reply ≡ r → (r ≡ reply) ⊎ (r ≡ Fault)
met_is Accepted reply r h = inl (sym h)
met_is WriteRefused reply r h = inr (sym h)
met_is CommitRefused reply r h = inr (sym h)

held_is : (held : Bool) (a : Met) (reply r : Reply) → held_reply held a reply ≡ r → ((held ≡ true) × (r ≡ reply)) ⊎ ((r ≡ Fault) ⊎ (r ≡ NotHeld))
held_is true a reply r h = elim (met_is a reply r h) [ inl e ↦ inl (refl, e) | inr e ↦ inr (inl e) ]
held_is false a reply r h = inr (inr (sym h))

-- the hold that a claimed reply says
claim_grants : (lease m : ℕ) (jobs : Jobs) (j w : ℕ) (a : Met) (r : Reply) (hold : Hold) (o : Option ℕ) → first_of (is_ready m jobs) (numbers jobs) ≡ o → claim_reply (m + lease) a o ≡ r → granted j (Claim w a) r ≡ Some hold → Grants lease m jobs j hold
claim_grants lease m jobs j w a r hold None is h g = absurd (by_reply r h g)
  where
    by_reply : (r : Reply) → Empty ≡ r → granted j (Claim w a) r ≡ Some hold → ⊥
    by_reply r h g = let g' : granted j (Claim w a) Empty ≡ Some hold = subst (λ (x : Reply). granted j (Claim w a) x ≡ Some hold) (sym h) g in cc
claim_grants lease m jobs j w a r hold (Some k) is h g = elim (met_is a (Claimed k (m + lease)) r h) [
  | inl e ↦ by_job (k == j) refl (subst (λ (x : Reply). granted j (Claim w a) x ≡ Some hold) e g)
  | inr e ↦ absurd (no_fault (subst (λ (x : Reply). granted j (Claim w a) x ≡ Some hold) e g))
]
  where
    no_fault : None ≡ Some hold → ⊥
    no_fault g = cc

    by_job : (b : Bool) → (k == j) ≡ b → cond b (Some (record { worker = w; until = m + lease })) None ≡ Some hold → Grants lease m jobs j hold
    by_job false same g = absurd (no_fault g)
    by_job true same g =
        let this : record { worker = w; until = m + lease } ≡ hold = cc in
        let ready : is_ready m jobs k ≡ true = first_passes (is_ready m jobs) (numbers jobs) k is in
        let parts = and_parts (not (jobs.done k)) (not (is_held m jobs k)) ready in
        let at : k ≡ j = eqb-true k j same in
        record {
          until = sym (ap (λ (x : Hold). x.until) this);
          how = inl (subst (λ x. jobs.done x ≡ false) at (not-true _ parts.0), subst (λ x. is_held m jobs x ≡ false) at (not-true _ parts.1));
        }

extend_grants : (lease m : ℕ) (jobs : Jobs) (j w k : ℕ) (a : Met) (r : Reply) (hold : Hold) → held_reply (holds m w k jobs) a (Extended (m + lease)) ≡ r → granted j (Extend w k a) r ≡ Some hold → Grants lease m jobs j hold
extend_grants lease m jobs j w k a r hold h g = elim (held_is (holds m w k jobs) a (Extended (m + lease)) r h) [
  | inl e ↦ by_job (k == j) refl e.0 (subst (λ (x : Reply). granted j (Extend w k a) x ≡ Some hold) e.1 g)
  | inr e ↦ elim e [
    | inl f ↦ absurd (no_hold (subst (λ (x : Reply). granted j (Extend w k a) x ≡ Some hold) f g))
    | inr f ↦ absurd (no_hold (subst (λ (x : Reply). granted j (Extend w k a) x ≡ Some hold) f g))
  ]
]
  where
    no_hold : None ≡ Some hold → ⊥
    no_hold g = cc

    by_job : (b : Bool) → (k == j) ≡ b → holds m w k jobs ≡ true → cond b (Some (record { worker = w; until = m + lease })) None ≡ Some hold → Grants lease m jobs j hold
    by_job false same held g = absurd (no_hold g)
    by_job true same held g =
        let this : record { worker = w; until = m + lease } ≡ hold = cc in
        record {
          until = sym (ap (λ (x : Hold). x.until) this);
          how = inr (subst (λ (x : Hold). holds m x.worker j jobs ≡ true) this (subst (λ x. holds m w x jobs ≡ true) (eqb-true k j same) held));
        }

pub grants : (lease m : ℕ) (jobs : Jobs) (j : ℕ) (act : Act) (r : Reply) (hold : Hold) → r ≡ reply_at lease m jobs act → granted j act r ≡ Some hold → Grants lease m jobs j hold
grants lease m jobs j (Claim w a) r hold is g = claim_grants lease m jobs j w a r hold (first_of (is_ready m jobs) (numbers jobs)) refl (sym is) g
grants lease m jobs j (Extend w k a) r hold is g = extend_grants lease m jobs j w k a r hold (sym is) g
grants lease m jobs j (Add a) r hold is g = cc
grants lease m jobs j (Finish w k a) r hold is g = cc
grants lease m jobs j (Drop w k a) r hold is g = cc
grants lease m jobs j Count r hold is g = cc

-- what is known where a reply to an act finishes job j: somebody held it
finish_held : (m w j k : ℕ) (jobs : Jobs) (a : Met) (r : Reply) → held_reply (holds m w k jobs) a Finished ≡ r → finishes j (Finish w k a) r ≡ true → is_held m jobs j ≡ true
finish_held m w j k jobs a r h f = elim (held_is (holds m w k jobs) a Finished r h) [
  | inl e ↦ let same : k ≡ j = eqb-true k j (subst (λ (x : Reply). finishes j (Finish w k a) x ≡ true) e.1 f) in
      subst (λ x. is_held m jobs x ≡ true) same (and_parts (is_of w (jobs.hold k)) (lasts m (jobs.hold k)) e.0).1
  | inr e ↦ elim e [
    | inl g ↦ absurd (false≢true (subst (λ (x : Reply). finishes j (Finish w k a) x ≡ true) g f))
    | inr g ↦ absurd (false≢true (subst (λ (x : Reply). finishes j (Finish w k a) x ≡ true) g f))
  ]
]

pub finished_held : (lease m j : ℕ) (jobs : Jobs) (act : Act) (r : Reply) → r ≡ reply_at lease m jobs act → finishes j act r ≡ true → is_held m jobs j ≡ true
finished_held lease m j jobs (Finish w k a) r is f = finish_held m w j k jobs a r (sym is) f
finished_held lease m j jobs (Claim w a) r is f = cc
finished_held lease m j jobs (Extend w k a) r is f = cc
finished_held lease m j jobs (Add a) r is f = cc
finished_held lease m j jobs (Drop w k a) r is f = cc
finished_held lease m j jobs Count r is f = cc
