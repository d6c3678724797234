-- A ticket that left the line is served: what the second call of a poll answers, and the book that the family keeps then.
use Rattle.std.proofs.Common.{◌≡◌, ℕ, ◌<◌, ◌≤◌, ◌+◌, ◌||◌, List, [], ◌∷◌, ◌++◌, Bool, true, false, cond, length, drop, sym, ap, refl, ◌∙◌, subst, arith, Some, None, option_map}
use Rattle.std.specs.Prelude.{slice_set}
use Rattle.std.specs.List.{list_any}
use Rattle.std.proofs.lemmas.List.{get_or-set_same, get_or-set_other, set-set}
use Rattle.std.proofs.lemmas.List.Folds.{list_any-append}
use Rattle.sqlx_pool_marks.specs.declared.mark.Mark.{Mark}
use Rattle.sqlx_pool_marks.specs.declared.mark.Mark.TheVariants.{Left, Taken, Opened, Lent, Ended}
use Rattle.sqlx_pool_marks.specs.Marks.{is_shut, next_ticket, next_conn, asked_number, opened_number}
use Rattle.sqlx_pool_marks.proofs.ListFacts.{length-push, same_number}
use Rattle.sqlx_pool_lists.specs.declared.ticket.Ticket.{Ticket}
use Rattle.sqlx_pool_lists.specs.declared.ticket.Phase.{Phase}
use Rattle.sqlx_pool_lists.specs.declared.ticket.Phase.TheVariants as phase
use Rattle.sqlx_pool_lists.specs.declared.steps.Lent.{Lent as LentValue}
use Rattle.sqlx_pool_lists.specs.declared.steps.Idle.{Idle}
use Rattle.sqlx_pool_lists.specs.declared.steps.Start.TheVariants as start
use Rattle.sqlx_pool_lists.specs.declared.steps.Verdict.TheVariants as verdict
use Rattle.sqlx_pool_lists.specs.declared.steps.AfterTest.{AfterTest}
use Rattle.sqlx_pool_lists.specs.declared.steps.AfterTest.TheVariants as tested
use Rattle.sqlx_pool_lists.specs.declared.steps.Tried.{Tried}
use Rattle.sqlx_pool_lists.specs.declared.steps.Tried.TheVariants as tried
use Rattle.sqlx_pool_lists.specs.declared.steps.AfterConnect.{AfterConnect}
use Rattle.sqlx_pool_lists.specs.declared.steps.AfterConnect.TheVariants as connected
use Rattle.sqlx_pool_lists.specs.Core.{Core, free, gone, ticket_of}
use Rattle.sqlx_pool_lists.specs.Edits.{with_ticket, without_ticket, to_test, to_try, to_try_at}
use Rattle.sqlx_pool_lists.specs.PollSteps.{phase_for, started, tested_at, verdict_answer, test_answer, test_marks, after_test, lent_since, may_test_next, connect_answer, connect_marks, after_connect, try_answer_at}
use Rattle.sqlx_pool_lists.specs.Shared.{told, shared_of}
use Rattle.sqlx_pool_core.proofs.Known.{gone-changed, gone-ended_le, KeepsNumber}
use Rattle.sqlx_pool_core.proofs.WholePoll.{ticket-with}
use Rattle.sqlx_family.specs.NoPool.{no_pool}
use Rattle.sqlx_family.specs.Pools.{entry_of, pool_in, with_pool, counts_as_closed}
use Rattle.sqlx_family.specs.Permits as permits
use Rattle.sqlx_family.specs.FamilyLogs.{FamilyLogs, StandTogether, with_marks}
use Rattle.sqlx_lines.specs.Numbers.{nanos}
use Rattle.sqlx_tenants_rules.specs.declared.event.Opening.{Opening}
use Rattle.sqlx_tenants_rules.specs.Book.{Book, account, is_retired, stepped}
use Rattle.sqlx_tenants.specs.Keeps.{IsPool, Keeps, logs_of}
use Rattle.sqlx_tenants.proofs.Alike.{Family, Entry}
use Rattle.sqlx_tenants.proofs.Reading.{is, named, root-open, shut-is}
use Rattle.sqlx_tenants.proofs.Lives.{live-behind}
use Rattle.sqlx_tenants.proofs.Stepping.{Changes, keeps-stepped, logged-kept, logged-raised}
use Rattle.sqlx_tenants.proofs.RetireLemmas.{number-append}
use Rattle.sqlx_tenants.proofs.Serving.{stand-joined}

number_try : (m : ℕ) (p : Phase) (x : Ticket) → (to_try_at m p x).number ≡ x.number
number_try m phase.Waiting x = refl
number_try m (phase.Testing c created before) x = refl
number_try m phase.Connecting x = refl
number_try m (phase.Backoff until) x = refl

client_try : (m : ℕ) (p : Phase) (x : Ticket) → (to_try_at m p x).client ≡ x.client
client_try m phase.Waiting x = refl
client_try m (phase.Testing c created before) x = refl
client_try m phase.Connecting x = refl
client_try m (phase.Backoff until) x = refl

phase_try : (m : ℕ) (p : Phase) (x : Ticket) → (to_try_at m p x).phase ≡ phase.Connecting
phase_try m phase.Waiting x = refl
phase_try m (phase.Testing c created before) x = refl
phase_try m phase.Connecting x = refl
phase_try m (phase.Backoff until) x = refl

module _ (first : Opening) (f : Family) (book : Book) (m now client t q : ℕ) (k : Keeps first f book m) (child : 1 ≤ q) (lt : q < length f.pools) (open_is : is_retired (account q book) ≡ false) (x : Ticket) (found : ticket_of client t (pool_in q f).tickets ≡ Some x) where
  here : q < length book
  here = named first f book m k q lt

  pool : IsPool (nanos first.timeout) (entry_of q f) (account q book)
  pool = is first f book m k q lt

  abbrev marks : List Mark
  marks = (account q book).marks

  abbrev core : Core (Unit {0})
  core = pool_in q f

  -- ---- between the two calls

  module _ (one : Core (Unit {0})) (shut_one : one.shut ≡ core.shut) where
    abbrev p : Entry
    p = record { core = one; retired = (entry_of q f).retired }

    entry-one : entry_of q (with_pool q one f) ≡ p
    entry-one = get_or-set_same f.pools q p no_pool lt

    closed-one : counts_as_closed q (with_pool q one f) ≡ false
    closed-one =
        (λ i. (ap (λ (e : Entry). e.core.shut) entry-one ∙ shut_one ∙ shut-is first f book m k q lt ∙ open_is) i
        || (ap (λ (e : Entry). e.core.shut) (get_or-set_other f.pools q 0 p no_pool (omega (arith, child))) ∙ root-open first f book m k q lt) i)

    -- the pool between the two calls
    pool-one : pool_in q (with_pool q one f) ≡ told false (shared_of one) one
    pool-one = (λ i. told (closed-one i) (shared_of one) (entry-one i).core)

    changes : (two : Core (Unit {0})) → Changes f q two false (with_pool q two (with_pool q one f))
    changes two = record {
      pools = set-set f.pools q p (record (entry_of q (with_pool q one f)) { core = two })
          ∙ ap (λ (b : Bool). slice_set f.pools q (record { core = two; retired = b })) (ap (λ (e : Entry). e.retired) entry-one ∙ pool.retired ∙ open_is);
      shared = refl;
    }

  -- no Shut is among these
  still-open : (made : List Mark) → list_any is_shut made ≡ false → false ≡ list_any is_shut (marks ++ made)
  still-open made none = sym (list_any-append is_shut marks made ∙ (λ i. open_is i || none i))

  gone-none : (change : Ticket → Ticket) → KeepsNumber change → gone (without_ticket t (with_ticket t change (entry_of q f).core.tickets)) ≡ 0
  gone-none change keeps =
      let e = ap gone (gone-changed t change (entry_of q f).core.tickets keeps) in
      let l = gone-ended_le t (entry_of q f).core.tickets in
      let g = pool.rests.gone in
      omega (arith, e, l, g)

  -- ---- an idle connection

  module _ (i : Idle (Unit {0})) (rest : List (Idle (Unit {0}))) (idle : core.idle ≡ i ∷ rest) where
    abbrev c : ℕ
    c = i.lent.id

    abbrev one : Core (Unit {0})
    one = started t (nanos now) (start.Test i) core

    abbrev mid : Core (Unit {0})
    mid = told false (shared_of one) one

    abbrev lent : LentValue (Unit {0})
    lent = lent_since i.lent.created i.lent

    abbrev two : Core (Unit {0})
    two = after_test client t (tested.Ready lent) mid

    abbrev made : List Mark
    made = Left t ∷ Taken c ∷ Lent client c ∷ Ended t ∷ []

    phase-is : phase_for client t mid.tickets ≡ Some (phase.Testing c i.lent.created 0)
    phase-is = ap (option_map (λ (y : Ticket). y.phase)) (ticket-with client t (to_test (nanos now) i) core.tickets (λ y. refl) (λ y. refl) ∙ ap (option_map (to_test (nanos now) i)) found)

    tested-is : tested_at c (phase_for client t mid.tickets) ≡ Some i.lent.created
    tested-is = ap (tested_at c) phase-is ∙ ap (λ (b : Bool). cond b (Some i.lent.created) None) (same_number c)

    answer-is : verdict_answer client t mid.closed mid (verdict.Accepted i.lent) ≡ tested.Ready lent
    answer-is = ap (λ o. test_answer o false (may_test_next core.options.idle_tries (phase_for client t mid.tickets)) mid.idle (verdict.Accepted i.lent)) tested-is

    pub tested-serves : (f1 new : Family) (r : AfterTest (Unit {0})) → f1 ≡ with_pool q one f → StandTogether f1 (with_marks q (Left t ∷ Taken c ∷ []) (logs_of book))
        → r ≡ verdict_answer client t (pool_in q f1).closed (pool_in q f1) (verdict.Accepted i.lent)
        → FamilyLogs f1 q (test_marks client t c r) new → new ≡ permits.stepped q (after_test client t r (pool_in q f1)) f1
        → (r ≡ tested.Ready lent) × Keeps first new (stepped q made book) (nanos now)
    tested-serves f1 new r is1 stand answer logs becomes =
        let seen : pool_in q f1 ≡ mid = ap (pool_in q) is1 ∙ pool-one one refl in
        let ready : r ≡ tested.Ready lent = answer ∙ ap (λ (y : Core (Unit {0})). verdict_answer client t y.closed y (verdict.Accepted i.lent)) seen ∙ answer-is in (
          ready,
          keeps-stepped first f (with_pool q two (with_pool q one f)) book m (nanos now) q two false made k child here (changes one refl two)
              (record {
                options = refl;
                permits = refl;
                rests = record {
                  places = pool.rests.places;
                  leaked = pool.rests.leaked;
                  gone = gone-none (to_test (nanos now) i) (λ y. refl);
                  covered =
                      let a = ap length idle in
                      let b = ap (λ l. length (drop 1 l)) idle in
                      let h = length-push (entry_of q f).core.held (record { conn = c; client = client; created = i.lent.created }) in
                      let e = pool.rests.covered in
                      omega (arith, a, b, h, e);
                };
                empty = λ e. absurd (let no : false ≡ true = e in cc);
                retired = still-open made refl;
                tickets = k.tickets ∙ sym (logged-kept q made book here next_ticket (number-append asked_number 1 marks made));
                conns = k.conns ∙ sym (logged-kept q made book here next_conn (number-append opened_number 1 marks made));
                last = omega arith;
                lives =
                    let l = live-behind marks made in
                    let a = ap length idle in
                    let b = ap (λ l. length (drop 1 l)) idle in
                    let h = length-push (entry_of q f).core.held (record { conn = c; client = client; created = i.lent.created }) in
                    omega (arith, l, a, b, h);
              }) new
              (becomes ∙ (λ j. permits.stepped q (after_test client t (ready j) (seen j)) (is1 j)))
              (stand-joined f f1 new q (Left t ∷ Taken c ∷ []) (Lent client c ∷ Ended t ∷ []) (logs_of book) stand (subst (λ (y : AfterTest (Unit {0})). FamilyLogs f1 q (test_marks client t c y) new) ready logs)),
        )

  -- ---- none idle

  module _ (none : core.idle ≡ []) (some : 0 < free (entry_of q f).core) (waits : x.phase ≡ phase.Waiting) where
    abbrev away : Core (Unit {0})
    away = started t (nanos now) start.Connect core

    abbrev trying : Core (Unit {0})
    trying = told false (shared_of away) away

    abbrev n : ℕ
    n = core.next_conn

    abbrev fresh : LentValue (Unit {0})
    fresh = record { id = n; created = record { 0 = nanos now }; raw = tt }

    ticket-is : ticket_of client t trying.tickets ≡ Some (to_try (nanos now) x)
    ticket-is = ticket-with client t (to_try (nanos now)) core.tickets (λ y. number_try (nanos now) y.phase y) (λ y. client_try (nanos now) y.phase y) ∙ ap (option_map (to_try (nanos now))) found

    answer-by : (o : Tried (Unit {0})) → connect_answer (ticket_of client t trying.tickets) false n (nanos now) o ≡ try_answer_at phase.Connecting (to_try (nanos now) x) false n (nanos now) o
    answer-by o =
        ap (λ y. connect_answer y false n (nanos now) o) ticket-is
        ∙ ap (λ (p : Phase). try_answer_at p (to_try (nanos now) x) false n (nanos now) o) (phase_try (nanos now) x.phase x)

    keeps-number : KeepsNumber (to_try (nanos now))
    keeps-number y = number_try (nanos now) y.phase y

    abbrev opened_marks : List Mark
    opened_marks = Left t ∷ Opened n (nanos now) ∷ Lent client n ∷ Ended t ∷ []

    abbrev refused_marks : List Mark
    refused_marks = Left t ∷ Ended t ∷ []

    pub opened-serves : (f1 new : Family) (mo : ℕ) (r : AfterConnect (Unit {0})) → f1 ≡ with_pool q away f → StandTogether f1 (with_marks q (Left t ∷ []) (logs_of book)) → mo ≡ nanos now
        → r ≡ connect_answer (ticket_of client t (pool_in q f1).tickets) (pool_in q f1).closed (pool_in q f1).next_conn mo (tried.Opened tt)
        → FamilyLogs f1 q (connect_marks client t mo r) new → new ≡ permits.stepped q (after_connect client t mo r (pool_in q f1)) f1
        → (r ≡ connected.Ready fresh) × Keeps first new (stepped q opened_marks book) (nanos now)
    opened-serves f1 new mo r is1 stand at answer logs becomes =
        let seen : pool_in q f1 ≡ trying = ap (pool_in q) is1 ∙ pool-one away refl in
        let ready : r ≡ connected.Ready fresh = answer ∙ (λ j. connect_answer (ticket_of client t (seen j).tickets) (seen j).closed (seen j).next_conn (at j) (tried.Opened tt)) ∙ answer-by (tried.Opened tt) in
        let two = after_connect client t (nanos now) (connected.Ready fresh) trying in (
          ready,
          keeps-stepped first f (with_pool q two (with_pool q away f)) book m (nanos now) q two false opened_marks k child here (changes away refl two)
              (record {
                options = refl;
                permits = refl;
                rests = record {
                  places = pool.rests.places;
                  leaked = pool.rests.leaked;
                  gone = gone-none (to_try (nanos now)) keeps-number;
                  covered =
                      let a = ap length none in
                      let h = length-push (entry_of q f).core.held (record { conn = n; client = client; created = record { 0 = nanos now } }) in
                      omega (arith, a, h, some);
                };
                empty = λ e. absurd (let no : false ≡ true = e in cc);
                retired = still-open opened_marks refl;
                tickets = k.tickets ∙ sym (logged-kept q opened_marks book here next_ticket (number-append asked_number 1 marks opened_marks));
                conns = ap (λ c. c + 1) k.conns ∙ sym (logged-raised q opened_marks book here next_conn (number-append opened_number 1 marks opened_marks ∙ ap (λ c. c + 1) k.conns));
                last = omega arith;
                lives =
                    let l = live-behind marks opened_marks in
                    let h = length-push (entry_of q f).core.held (record { conn = n; client = client; created = record { 0 = nanos now } }) in
                    omega (arith, l, h);
              }) new
              (becomes ∙ (λ j. permits.stepped q (after_connect client t (at j) (ready j) (seen j)) (is1 j)))
              (stand-joined f f1 new q (Left t ∷ []) (Opened n (nanos now) ∷ Lent client n ∷ Ended t ∷ []) (logs_of book) stand
              (subst (λ (y : AfterConnect (Unit {0})). FamilyLogs f1 q (connect_marks client t (nanos now) y) new) ready (subst (λ a. FamilyLogs f1 q (connect_marks client t a r) new) at logs))),
        )

    pub refused-serves : (f1 new : Family) (mo : ℕ) (r : AfterConnect (Unit {0})) → f1 ≡ with_pool q away f → StandTogether f1 (with_marks q (Left t ∷ []) (logs_of book)) → mo ≡ nanos now
        → r ≡ connect_answer (ticket_of client t (pool_in q f1).tickets) (pool_in q f1).closed (pool_in q f1).next_conn mo tried.Fatal
        → FamilyLogs f1 q (connect_marks client t mo r) new → new ≡ permits.stepped q (after_connect client t mo r (pool_in q f1)) f1
        → (r ≡ connected.Ended) × Keeps first new (stepped q refused_marks book) (nanos now)
    refused-serves f1 new mo r is1 stand at answer logs becomes =
        let seen : pool_in q f1 ≡ trying = ap (pool_in q) is1 ∙ pool-one away refl in
        let over : r ≡ connected.Ended = answer ∙ (λ j. connect_answer (ticket_of client t (seen j).tickets) (seen j).closed (seen j).next_conn (at j) tried.Fatal) ∙ answer-by tried.Fatal in
        let two = after_connect client t (nanos now) connected.Ended trying in (
          over,
          keeps-stepped first f (with_pool q two (with_pool q away f)) book m (nanos now) q two false refused_marks k child here (changes away refl two)
              (record {
                options = refl;
                permits = refl;
                rests = record {
                  places = pool.rests.places;
                  leaked = pool.rests.leaked;
                  gone = gone-none (to_try (nanos now)) keeps-number;
                  covered = pool.rests.covered;
                };
                empty = λ e. absurd (let no : false ≡ true = e in cc);
                retired = still-open refused_marks refl;
                tickets = k.tickets ∙ sym (logged-kept q refused_marks book here next_ticket (number-append asked_number 1 marks refused_marks));
                conns = k.conns ∙ sym (logged-kept q refused_marks book here next_conn (number-append opened_number 1 marks refused_marks));
                last = omega arith;
                lives = let l = live-behind marks refused_marks in omega (arith, l);
              }) new
              (becomes ∙ (λ j. permits.stepped q (after_connect client t (at j) (over j) (seen j)) (is1 j)))
              (stand-joined f f1 new q (Left t ∷ []) (Ended t ∷ []) (logs_of book) stand
              (subst (λ (y : AfterConnect (Unit {0})). FamilyLogs f1 q (connect_marks client t (nanos now) y) new) over (subst (λ a. FamilyLogs f1 q (connect_marks client t a r) new) at logs))),
        )
