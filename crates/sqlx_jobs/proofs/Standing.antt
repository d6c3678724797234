-- What a queue stands for at first, and behind one more event.
use Rattle.std.proofs.Common.{◌≡◌, ℕ, ◌+◌, ◌<◌, ◌≤◌, ◌^◌, ℤ, pos, List, [], ◌∷◌, ◌++◌, Option, Some, None, Result, Ok, Err, IfOk, refl, sym, ap, subst, ◌∙◌, arith}
use Rattle.std.specs.FinMap.{empty, get-empty}
use Rattle.std.specs.Ordering.{int_cmp}
use Rattle.sqlx_pool_lists.specs.Core.{Core}
use Rattle.sqlx_single.specs.Single.{Rests}
use Rattle.mem_store.specs.Store.{Store, Link, new_store, new_link, connected}
use Rattle.sqlx_player.specs.Language.{Pairs, events_of}
use Rattle.sqlx_player.specs.Responds.{IsDue}
use Rattle.sqlx_jobs_rules.specs.declared.queue_line.QueueLine.{QueueLine}
use Rattle.sqlx_jobs_rules.specs.declared.event.Event.{Event}
use Rattle.sqlx_jobs_rules.specs.declared.event.Act.{Act}
use Rattle.sqlx_jobs_rules.specs.declared.event.Act.TheVariants.{Count}
use Rattle.sqlx_jobs_rules.specs.declared.reply.Reply.{Reply}
use Rattle.sqlx_lines.specs.Rows.{with_behind}
use Rattle.sqlx_jobs_rules.specs.Grammar.{at, last_moment, opening_of}
use Rattle.sqlx_jobs_rules.specs.Jobs.{Hold, jobs_of, jobs_language, reply_at}
use Rattle.sqlx_jobs_rules.proofs.Jobs.{hold_after-nil}
use Rattle.sqlx_jobs_rules.proofs.Moments.{last_moment-push}
use Rattle.sqlx_jobs_rules.proofs.Small.{event_small, opening_small}
use Rattle.sqlx_jobs.specs.Kept.{number_of, number_at, until_key, state_key, until_of, Tells}
use Rattle.sqlx_jobs.specs.Keeps.{Keeps}
use Rattle.sqlx_jobs.specs.Stands.{Holds, Stands}

-- ---- at first

no_row : (key : ℕ) → number_at empty key ≡ 0
no_row key = ap number_of (get-empty {X = ℤ} int_cmp (pos key))

no_hold : (j : ℕ) (h : Hold) → (jobs_of []).hold j ≡ Some h → ⊥
no_hold j h is = none_some (sym (hold_after-nil j None) ∙ is)
  where
    none_some : None ≡ Some h → ⊥
    none_some e = cc

no_until : (j : ℕ) → number_at empty (until_key j) ≡ until_of ((jobs_of []).hold j)
no_until j = no_row (until_key j) ∙ ap until_of (sym (hold_after-nil j None))

no_jobs : Tells empty (jobs_of [])
no_jobs = record {
  added = no_row 0;
  few = omega arith;
  job = λ j small. record {
    until = no_until j;
    holder = λ h is. absurd (no_hold j h is);
    done = no_row (state_key j);
  };
}

pub new_keeps : (store : Store) (link : Link) → store ≡ connected (new_store.given + 1) new_store → link ≡ new_link (new_store.given + 1) → Keeps 1 [] store link
new_keeps store link is_store is_link = record {
  rows = empty;
  rests = record {
    sees = ap (λ (s : Store). s.rows) is_store;
    alone = ap (λ (s : Store). s.open_links) is_store;
    rests = is_link;
    levels = omega arith;
    puts = omega arith;
  };
  tells = no_jobs;
}

pub new_stands : (core : Core Link) (store : Store) (link : Link) (first : QueueLine) → first.lease < 2 ^ 40 → Rests link core → store ≡ connected (new_store.given + 1) new_store → link ≡ new_link (new_store.given + 1) → Stands core store first.lease 0 first []
new_stands core store link first small rests is_store is_link = record {
  holds = record { link = link; number = 1; rests = rests; keeps = new_keeps store link is_store is_link };
  set_up = refl;
  small = small;
  moment = refl;
}

-- ---- one more

events-push : (pairs : Pairs Event Reply) (pair : Event × Reply) → events_of (pairs ++ pair ∷ []) ≡ events_of pairs ++ pair.0 ∷ []
events-push [] pair = refl
events-push (p ∷ pairs) pair = ap (λ es. p.0 ∷ es) (events-push pairs pair)

pub stands_more : (core core' : Core Link) (store store' : Store) (lease last : ℕ) (first : QueueLine) (pairs : Pairs Event Reply) (event : Event) (reply : Reply)
    → Stands core store lease last first pairs → Holds core' store' (pairs ++ (event, reply) ∷ []) → Stands core' store' lease event.moment first (pairs ++ (event, reply) ∷ [])
stands_more core core' store store' lease last first pairs event reply s holds = record {
  holds = holds;
  set_up = s.set_up;
  small = s.small;
  moment = sym (ap last_moment (events-push pairs (event, reply)) ∙ last_moment-push (events_of pairs) event);
}

-- ---- an event that is due

abbrev Due : Core Link → Store → ℕ → ℕ → Event → Type 0
Due core store lease last event = IsDue jobs_language (Stands core store lease last) event

pub due_short : (core : Core Link) (store : Store) (lease last : ℕ) (event : Event) → Due core store lease last event → event.moment + lease < 2 ^ 63
due_short core store lease last event due =
    let moment : event.moment < 2 ^ 40 = event_small (last_moment (events_of due.pairs)) due.line event due.says in
    omega (arith, moment, due.stands.set_up, due.stands.small)

-- what was told of a first line is what it says
abbrev said_or : QueueLine → Option (QueueLine × List ℕ) → QueueLine
said_or other (Some pair) = pair.0
said_or other None = other

pub told_line : (b behind : List ℕ) (line : List ℕ) (says : QueueLine) → Some (says, behind) ≡ with_behind b (opening_of line) → (1 ≤ says.max) × (says.max < 65) × (says.lease < 2 ^ 40)
told_line b behind line says h = opening_small line says (by_says (opening_of line) h)
  where
    by_says : (o : Option QueueLine) → Some (says, behind) ≡ with_behind b o → o ≡ Some says
    by_says (Some x) e = ap (λ (q : QueueLine). Some q) (sym (ap (said_or says) e))
    by_says None e = cc

-- ---- a call that answers

pub if_ok : {T E : Type 0} (r : Result T E) (P Q : T → Type 0) → ((x : T) → P x → Q x) → IfOk r P → IfOk r Q
if_ok (Ok x) P Q h p = h x p
if_ok (Err e) P Q h p = tt

-- the connection that was lent keeps the pairs
pub keeps_on : (n : ℕ) (pairs : Pairs Event Reply) (store : Store) (link lent : Link) → lent ≡ link → Keeps n pairs store link → Keeps n pairs store lent
keeps_on n pairs store link lent is k = subst (λ (l : Link). Keeps n pairs store l) (sym is) k

-- behind a count, which is the event
pub counted_on : (core : Core Link) (store : Store) (lease : ℕ) (pairs : Pairs Event Reply) (event : Event) (reply : Reply) → event.act ≡ Count → (h : Holds core store pairs)
    → (reply ≡ reply_at lease event.moment (jobs_of pairs) Count) × Keeps h.number (pairs ++ (at event.moment Count, reply) ∷ []) store h.link
    → (reply ≡ reply_at lease event.moment (jobs_of pairs) event.act) × Holds core store (pairs ++ (event, reply) ∷ [])
counted_on core store lease pairs event reply is h done = subst
    (λ (act : Act). (reply ≡ reply_at lease event.moment (jobs_of pairs) act) × Holds core store (pairs ++ (at event.moment act, reply) ∷ []))
    (sym is) (done.0, record { link = h.link; number = h.number; rests = h.rests; keeps = done.1 })
