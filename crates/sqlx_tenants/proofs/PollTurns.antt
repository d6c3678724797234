-- What the start of a poll comes to by the book, and the calls after which nothing is lent.
use Rattle.std.proofs.Common.{◌≡◌, ℕ, ◌<◌, ◌≤◌, ◌^◌, ◌||◌, ◌&&◌, List, [], ◌∷◌, Bool, true, false, not, cond, length, nat_lt, nat_le, sym, ap, refl, ◌∙◌, subst, arith, Option, Some, option_map, append-nil}
use Rattle.std.specs.Prelude.{slice_set}
use Rattle.std.specs.List.{list_any}
use Rattle.std.proofs.lemmas.Bool.{le-ltb}
use Rattle.std.proofs.lemmas.List.{set-get_or}
use Rattle.sqlx_pool_marks.specs.declared.mark.Mark.{Mark}
use Rattle.sqlx_pool_marks.specs.declared.mark.Mark.TheVariants.{Ended}
use Rattle.sqlx_pool_marks.specs.declared.turn.Turn.{Turn}
use Rattle.sqlx_pool_marks.specs.declared.turn.Turn.TheVariants as turn
use Rattle.sqlx_pool_marks.specs.Marks.{PendingTicket, tickets_of, idle_of, is_shut, next_ticket, next_conn}
use Rattle.sqlx_pool_marks.specs.Counts.{asked_in, is_asked_by}
use Rattle.sqlx_pool_marks.specs.PollTable.{turn_at_rest, first_idle}
use Rattle.sqlx_pool_marks.proofs.ListFacts.{or-false, find-map}
use Rattle.sqlx_pool_marks.proofs.Pushed.{shut-push, next_ticket-push, next_conn-push}
use Rattle.sqlx_pool_lists.specs.declared.ticket.Ticket.{Ticket}
use Rattle.sqlx_pool_lists.specs.declared.ticket.Phase.{Phase}
use Rattle.sqlx_pool_lists.specs.declared.ticket.Phase.TheVariants as phase
use Rattle.sqlx_pool_lists.specs.Core.{Core, asking, is_out, ticket_of}
use Rattle.sqlx_pool_lists.specs.CoreTurn.{turn_of}
use Rattle.sqlx_pool_lists.specs.PollTable.{is_at_rest, backs_off_until}
use Rattle.sqlx_pool_lists.specs.Edits.{core_without_ticket, at_moment}
use Rattle.sqlx_pool_lists.specs.Shared.{is_in_time, waits_in_time}
use Rattle.sqlx_pool_core.proofs.Known.{ticket-number, gone-ended_le}
use Rattle.sqlx_family.specs.Pools.{entry_of, pool_in, with_pool}
use Rattle.sqlx_family.specs.RootLine as line
use Rattle.sqlx_family.specs.Permits as permits
use Rattle.sqlx_family.specs.FamilyLogs.{FamilyLogs}
use Rattle.sqlx_lines.specs.Numbers.{nanos}
use Rattle.sqlx_tenants_rules.specs.declared.event.Opening.{Opening}
use Rattle.sqlx_tenants_rules.specs.declared.reply.Reply.TheVariants as reply
use Rattle.sqlx_tenants_rules.specs.Book.{Book, nobody, account, is_retired, moved, settled, stepped, own_rule, root_rule, conn_due, free as free_book}
use Rattle.sqlx_tenants_rules.specs.Rules.{poll_reply, poll_if, served}
use Rattle.sqlx_tenants.specs.Keeps.{IsPool, Keeps, logs_of}
use Rattle.sqlx_tenants.specs.Answers.{HasNumbers}
use Rattle.sqlx_tenants.proofs.Alike.{Family}
use Rattle.sqlx_tenants.proofs.Reading.{is, stands, named, closed-is}
use Rattle.sqlx_tenants.proofs.Lives.{live-behind}
use Rattle.sqlx_tenants.proofs.Stepping.{keeps-stepped, logged-kept}
use Rattle.sqlx_tenants.proofs.Entitled.{alone-is, by_root-is, entitled-is}

-- the first that applies to a waiting ticket: the pool is closed, the deadline came, it is entitled
abbrev pub turn_by : {X : Type 0} → Bool → Bool → Bool → List X → Turn
turn_by shut late entitled idle = cond shut turn.Closed (cond late turn.TimedOut (cond entitled (first_idle idle) turn.Waiting))

-- whether a waiting ticket takes a permit from the root
abbrev pub takes_by : Bool → Bool → Bool → Bool → Bool
takes_by own root shut late = cond shut false (cond late false (not own && root))

takes-cases : (own root shut late : Bool) → (not own && (root && (not shut && (true && not late)))) ≡ takes_by own root shut late
takes-cases true true true true = refl
takes-cases true true true false = refl
takes-cases true true false true = refl
takes-cases true true false false = refl
takes-cases true false true true = refl
takes-cases true false true false = refl
takes-cases true false false true = refl
takes-cases true false false false = refl
takes-cases false true true true = refl
takes-cases false true true false = refl
takes-cases false true false true = refl
takes-cases false true false false = refl
takes-cases false false true true = refl
takes-cases false false true false = refl
takes-cases false false false true = refl
takes-cases false false false false = refl

module _ (first : Opening) (f : Family) (book : Book) (m now client t q : ℕ) (opens : Bool) (k : Keeps first f book m) (le : m ≤ nanos now) (child : 1 ≤ q) (lt : q < length f.pools) where
  here : q < length book
  here = named first f book m k q lt

  pool : IsPool (nanos first.timeout) (entry_of q f) (account q book)
  pool = is first f book m k q lt

  abbrev marks : List Mark
  marks = (account q book).marks

  module _ (x : Ticket) (found : ticket_of client t (pool_in q f).tickets ≡ Some x) (waits : x.phase ≡ phase.Waiting) (few : HasNumbers book) where
    asked-is : asked_in client t (tickets_of marks) ≡ Some (asking x)
    asked-is = ap (asked_in client t) (sym (stands first f book m k q lt).tickets) ∙ find-map asking (is_asked_by client t) (pool_in q f).tickets ∙ ap (option_map asking) found

    number-is : x.number ≡ t
    number-is = sym (ticket-number client t (pool_in q f).tickets x found)

    abbrev shut : Bool
    shut = is_retired (account q book)

    abbrev late : Bool
    late = nat_le x.deadline (nanos now)

    abbrev entitled : Bool
    entitled = own_rule q t book || root_rule q t book

    -- the reply by the book
    pub reply-by : poll_reply now client q t opens book ≡ cond shut reply.PoolClosed (cond late reply.PoolTimedOut (cond entitled (served opens (conn_due book) (idle_of marks)) reply.Waiting))
    reply-by =
        ap (λ (o : Option PendingTicket). poll_if now q opens o book) asked-is
        ∙ ap (λ n. cond shut reply.PoolClosed (cond late reply.PoolTimedOut (cond (own_rule q n book || root_rule q n book) (served opens (conn_due book) (idle_of marks)) reply.Waiting))) number-is

    -- what the pool's start comes to
    pub turn-by : turn_of (line.is_entitled q t f) (pool_in q f).closed (nanos now) (pool_in q f) (ticket_of client t (pool_in q f).tickets) ≡ turn_by shut late entitled (pool_in q f).idle
    turn-by =
        ap (turn_of (line.is_entitled q t f) (pool_in q f).closed (nanos now) (pool_in q f)) found
        ∙ ap (λ (p : Phase). cond (is_at_rest p) (turn_at_rest (nanos now) (line.is_entitled q t f) (pool_in q f).closed (pool_in q f).next_conn (pool_in q f).idle x.deadline (is_out p) (backs_off_until p)) turn.NotHeld) waits
        ∙ (λ i. cond (closed-is first f book m k q lt i) turn.Closed (cond late turn.TimedOut (cond (entitled-is first f book m q t k child lt i) (cond (numbers i) turn.Exhausted (first_idle (pool_in q f).idle)) turn.Waiting)))
      where
        numbers : nat_lt (2 ^ 63) (pool_in q f).next_conn ≡ false
        numbers = le-ltb (2 ^ 63) f.shared.next_conn (let e = k.conns in let n = few.1 in omega (arith, e, n))

    pub takes-by : line.takes_permit q client t (nanos now) f ≡ takes_by (own_rule q t book) (root_rule q t book) shut late
    takes-by =
        (λ i. not (alone-is first f book m q t k child lt i) && (by_root-is first f book m q t k child lt i && (not (closed-is first f book m k q lt i) && in-time i)))
        ∙ takes-cases (own_rule q t book) (root_rule q t book) shut late
      where
        in-time : waits_in_time client t (nanos now) (entry_of q f).core ≡ (true && not late)
        in-time = ap (is_in_time (nanos now)) found ∙ ap (λ (p : Phase). not (is_out p) && not late) waits

  -- a ticket that ends without a loan
  pub ended-keeps : (new : Family) → FamilyLogs f q (Ended t ∷ []) new → new ≡ permits.stepped q (at_moment (nanos now) (core_without_ticket t (pool_in q f))) f
      → Keeps first new (stepped q (Ended t ∷ []) book) (nanos now)
  ended-keeps new logs becomes =
      keeps-stepped first f (with_pool q core f) book m (nanos now) q core (entry_of q f).retired (Ended t ∷ []) k child here (record { pools = refl; shared = refl })
      (record {
        options = refl;
        permits = refl;
        rests = record {
          places = pool.rests.places;
          leaked = pool.rests.leaked;
          gone = let e = gone-ended_le t (entry_of q f).core.tickets in let g = pool.rests.gone in omega (arith, e, g);
          covered = pool.rests.covered;
        };
        empty = pool.empty;
        retired = pool.retired ∙ sym (or-false (is_retired (account q book))) ∙ sym (shut-push marks (Ended t));
        tickets = k.tickets ∙ sym (logged-kept q (Ended t ∷ []) book here next_ticket (next_ticket-push marks (Ended t)));
        conns = k.conns ∙ sym (logged-kept q (Ended t ∷ []) book here next_conn (next_conn-push marks (Ended t)));
        last = omega arith;
        lives = let e = live-behind marks (Ended t ∷ []) in omega (arith, e);
      }) new becomes ((logs (logs_of book) k.logs).stand)
    where
      core : Core (Unit {0})
      core = at_moment (nanos now) (core_without_ticket t (pool_in q f))

  still : stepped q [] book ≡ settled q book
  still = ap (settled q) (ap (λ (l : List Mark). slice_set book q (record (account q book) { marks = l })) (append-nil marks) ∙ set-get_or book q nobody)

  settled-open : is_retired (account q book) ≡ false → settled q book ≡ book
  settled-open open_is = ap (λ (b : Bool). cond b (moved q 0 (free_book (account q book)) book) book) open_is

  -- a ticket that goes on waiting in an open pool
  pub waiting-keeps : (new : Family) → is_retired (account q book) ≡ false → FamilyLogs f q [] new → new ≡ permits.stepped q (pool_in q f) f → Keeps first new book (nanos now)
  waiting-keeps new open_is logs becomes =
      subst (λ (b : Book). Keeps first new b (nanos now)) (still ∙ settled-open open_is)
      (keeps-stepped first f (with_pool q core f) book m (nanos now) q core (entry_of q f).retired [] k child here (record { pools = refl; shared = refl })
      (record {
        options = refl;
        permits = refl;
        rests = record { places = pool.rests.places; leaked = pool.rests.leaked; gone = pool.rests.gone; covered = pool.rests.covered };
        empty = pool.empty;
        retired = pool.retired ∙ sym (ap (list_any is_shut) (append-nil marks));
        tickets = k.tickets ∙ sym (logged-kept q [] book here next_ticket (ap next_ticket (append-nil marks)));
        conns = k.conns ∙ sym (logged-kept q [] book here next_conn (ap next_conn (append-nil marks)));
        last = let e = k.reached in omega (arith, e, le);
        lives = let e = live-behind marks [] in omega (arith, e);
      }) new becomes ((logs (logs_of book) k.logs).stand))
    where
      core : Core (Unit {0})
      core = pool_in q f
