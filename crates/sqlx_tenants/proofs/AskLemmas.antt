-- A family goes on keeping its book after an ask.
use Rattle.std.proofs.Common.{◌≡◌, ℕ, ◌<◌, ◌≤◌, ◌+◌, ◌||◌, List, [], ◌∷◌, Bool, true, false, cond, length, sym, ap, refl, ◌∙◌, subst, arith}
use Rattle.std.specs.Prelude.{slice_set}
use Rattle.std.proofs.lemmas.List.{get_or-set_same}
use Rattle.sqlx_pool_marks.specs.declared.mark.Mark.{Mark}
use Rattle.sqlx_pool_marks.specs.declared.mark.Mark.TheVariants.{Asked}
use Rattle.sqlx_pool_marks.specs.Marks.{next_ticket, next_conn}
use Rattle.sqlx_pool_marks.proofs.ListFacts.{count_by-push}
use Rattle.sqlx_pool_marks.proofs.Pushed.{shut-push, next_ticket-push, next_conn-push}
use Rattle.sqlx_pool_lists.specs.Core.{Core, has_gone}
use Rattle.sqlx_pool_lists.specs.Edits.{asked, at_moment}
use Rattle.sqlx_pool_lists.specs.PollSteps.{asked_marks}
use Rattle.sqlx_family.specs.Pools.{entry_of, pool_in, with_pool, counts_as_closed}
use Rattle.sqlx_family.specs.Permits as permits
use Rattle.sqlx_family.specs.FamilyLogs.{FamilyLogs}
use Rattle.sqlx_family.specs.NoPool.{no_pool}
use Rattle.sqlx_lines.specs.Numbers.{nanos}
use Rattle.sqlx_tenants_rules.specs.declared.event.Opening.{Opening}
use Rattle.sqlx_tenants_rules.specs.declared.reply.Reply.{Reply}
use Rattle.sqlx_tenants_rules.specs.declared.reply.Reply.TheVariants as reply
use Rattle.sqlx_tenants_rules.specs.Book.{Book, account, is_retired, stepped, ticket_due}
use Rattle.sqlx_tenants_rules.specs.Rules.{ask_reply, after_ask}
use Rattle.sqlx_tenants.specs.Keeps.{IsPool, Keeps, logs_of}
use Rattle.sqlx_tenants.proofs.Alike.{Family, Entry}
use Rattle.sqlx_tenants.proofs.Reading.{is, named, closed-is}
use Rattle.sqlx_tenants.proofs.Lives.{live-behind}
use Rattle.sqlx_tenants.proofs.Stepping.{keeps-stepped, logged-kept, logged-raised}

-- a pool that isn't retired keeps what is free
pub unretired : (q : ℕ) (g : Family) → (entry_of q g).retired ≡ false → g ≡ permits.settled q g
unretired q g e = by (entry_of q g).retired e
  where
    by : (b : Bool) → b ≡ false → g ≡ permits.settled_if b q g
    by false e = refl
    by true e = absurd cc

pub moment-later : (first : Opening) (f : Family) (book : Book) (m later : ℕ) → Keeps first f book m → m ≤ later → Keeps first f book later
moment-later first f book m later k le = record {
  alike = k.alike;
  some = k.some;
  few = k.few;
  logs = k.logs;
  root = k.root;
  limit = k.limit;
  tickets = k.tickets;
  conns = k.conns;
  reached = let e = k.reached in omega (arith, e, le);
  lives = k.lives;
}

module _ (first : Opening) (f new : Family) (book : Book) (m now client q : ℕ) (k : Keeps first f book m) (le : m ≤ nanos now) (child : 1 ≤ q) (lt : q < length f.pools) where
  here : q < length book
  here = named first f book m k q lt

  pool : IsPool (nanos first.timeout) (entry_of q f) (account q book)
  pool = is first f book m k q lt

  abbrev deadline : ℕ
  deadline = nanos now + nanos first.timeout

  abbrev core : Core (Unit {0})
  core = at_moment (nanos now) (asked client deadline (pool_in q f))

  asks : (retired : Bool) → is_retired (account q book) ≡ false → FamilyLogs f q (Asked f.shared.next_ticket client deadline ∷ []) new → new ≡ with_pool q core f
      → Keeps first new (stepped q (Asked f.shared.next_ticket client deadline ∷ []) book) (nanos now)
  asks retired open_is logs becomes =
      keeps-stepped first f (with_pool q core f) book m (nanos now) q core false made k child here
      (record { pools = ap (λ (b : Bool). slice_set f.pools q (record { core = core; retired = b })) (pool.retired ∙ open_is); shared = refl })
      (record {
        options = refl;
        permits = refl;
        rests = record {
          places = pool.rests.places;
          leaked = pool.rests.leaked;
          gone = count_by-push has_gone (entry_of q f).core.tickets _ ∙ ap (λ n. n + 0) pool.rests.gone;
          covered = pool.rests.covered;
        };
        empty = λ e. absurd (let no : false ≡ true = e in cc);
        retired = sym (shut-push marks _ ∙ ap (λ (b : Bool). b || false) open_is);
        tickets = ap (λ n. n + 1) k.tickets ∙ sym (logged-raised q made book here next_ticket (next_ticket-push marks _ ∙ ap (λ n. n + 1) k.tickets));
        conns = k.conns ∙ sym (logged-kept q made book here next_conn (next_conn-push marks _));
        last = omega arith;
        lives = let e = live-behind marks made in omega (arith, e);
      }) new (becomes ∙ unretired q (with_pool q core f) (ap (λ (e : Entry). e.retired) (get_or-set_same f.pools q _ no_pool lt) ∙ pool.retired ∙ open_is))
      ((logs (logs_of book) k.logs).stand)
    where
      marks : List Mark
      marks = (account q book).marks

      made : List Mark
      made = Asked f.shared.next_ticket client deadline ∷ []

  -- an ask that gets a ticket
  pub asked-keeps : (ticket mo : ℕ) → counts_as_closed q f ≡ false → ticket ≡ f.shared.next_ticket → mo ≡ nanos now
      → FamilyLogs f q (asked_marks (pool_in q f) client mo ticket) new
      → new ≡ with_pool q (at_moment mo (asked client (mo + (pool_in q f).options.acquire_timeout) (pool_in q f))) f
      → (reply.Ticket ticket ≡ ask_reply q book) × Keeps first new (after_ask first.timeout now client q (ask_reply q book) book) (nanos now)
  asked-keeps ticket mo open_is numbered at logs becomes = (
    answer,
    subst (λ (r : Reply). Keeps first new (after_ask first.timeout now client q r book) (nanos now)) answer
        (subst (λ n. Keeps first new (stepped q (Asked n client deadline ∷ []) book) (nanos now)) (sym numbered)
        (asks false retired
        (subst (λ n. FamilyLogs f q (Asked n client deadline ∷ []) new) numbered (subst (λ d. FamilyLogs f q (Asked ticket client d ∷ []) new) due logs))
        (becomes ∙ (λ i. with_pool q (at_moment (at i) (asked client (due i) (pool_in q f))) f)))),
  )
    where
      retired : is_retired (account q book) ≡ false
      retired = sym (closed-is first f book m k q lt) ∙ open_is

      due : mo + (pool_in q f).options.acquire_timeout ≡ deadline
      due = let o = ap (λ o. o.acquire_timeout) pool.options in omega (arith, o, at)

      answer : reply.Ticket ticket ≡ ask_reply q book
      answer = ap reply.Ticket (numbered ∙ k.tickets) ∙ sym (ap (λ (b : Bool). cond b reply.PoolClosed (reply.Ticket (ticket_due book))) retired)

  -- an ask of a retired tenant
  pub asked-closed : counts_as_closed q f ≡ true → new ≡ f → (reply.PoolClosed ≡ ask_reply q book) × Keeps first new (after_ask first.timeout now client q (ask_reply q book) book) (nanos now)
  asked-closed shut stays =
      let answer : reply.PoolClosed ≡ ask_reply q book = sym (ap (λ (b : Bool). cond b reply.PoolClosed (reply.Ticket (ticket_due book))) (sym (closed-is first f book m k q lt) ∙ shut)) in (
        answer,
        subst (λ (r : Reply). Keeps first new (after_ask first.timeout now client q r book) (nanos now)) answer
            (subst (λ (h : Family). Keeps first h book (nanos now)) (sym stays) (moment-later first f book m (nanos now) k le)),
      )
