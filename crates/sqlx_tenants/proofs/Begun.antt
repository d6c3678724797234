-- A whole poll by the book: what its first call comes to, and what is left for the second.
use Rattle.std.proofs.Common.{◌≡◌, ℕ, ◌<◌, ◌≤◌, ◌+◌, ◌-◌, ◌||◌, ◌&&◌, ◌==◌, List, [], ◌∷◌, ◌++◌, Bool, true, false, not, cond, length, map, max, nat_lt, nat_le, sym, ap, refl, ◌∙◌, subst, arith, Some, option_map}
use Rattle.std.specs.List.{list_any}
use Rattle.std.proofs.lemmas.Bool.{ltb-true, and_parts}
use Rattle.std.proofs.lemmas.List.{get_or-set_same, get_or-set_other, length-set}
use Rattle.sqlx_pool_marks.specs.declared.mark.Mark.{Mark}
use Rattle.sqlx_pool_marks.specs.declared.mark.Mark.TheVariants.{Left, Taken, Opened, Lent, Ended}
use Rattle.sqlx_pool_marks.specs.Marks.{IdleEntry, idle_of, is_shut, tickets_of}
use Rattle.sqlx_pool_lists.specs.StandsFor.{StandsIn}
use Rattle.sqlx_pool_marks.specs.Counts.{before_in}
use Rattle.sqlx_pool_marks.specs.PollTable.{first_idle}
use Rattle.sqlx_pool_marks.proofs.ListFacts.{same_number}
use Rattle.sqlx_pool_lists.specs.declared.ticket.Ticket.{Ticket}
use Rattle.sqlx_pool_lists.specs.declared.ticket.Phase.TheVariants as phase
use Rattle.sqlx_pool_lists.specs.declared.steps.Idle.{Idle}
use Rattle.sqlx_pool_lists.specs.declared.steps.Start.{Start}
use Rattle.sqlx_pool_lists.specs.declared.steps.Start.TheVariants as start
use Rattle.sqlx_pool_lists.specs.declared.steps.Verdict.TheVariants as verdict
use Rattle.sqlx_pool_lists.specs.declared.steps.AfterTest.{AfterTest}
use Rattle.sqlx_pool_lists.specs.declared.steps.AfterConnect.{AfterConnect}
use Rattle.sqlx_pool_lists.specs.Core.{Core, free, resting, ticket_of}
use Rattle.sqlx_pool_lists.specs.CoreTurn.{turn_of}
use Rattle.sqlx_pool_lists.specs.PollSteps.{phase_for, start_answer, start_marks, started, verdict_answer, test_marks, after_test, connect_answer, connect_marks, after_connect}
use Rattle.sqlx_pool_lists.specs.Shared.{with_permits}
use Rattle.sqlx_family.specs.NoPool.{no_pool}
use Rattle.sqlx_family.specs.Pools.{entry_of, pool_in, with_pool}
use Rattle.sqlx_family.specs.RootLine as line
use Rattle.sqlx_family.specs.Permits as permits
use Rattle.sqlx_family.specs.FamilyLogs.{FamilyLogs, StandTogether, with_marks}
use Rattle.sqlx_family.proofs.PollLemmas.{pool-granted}
use Rattle.sqlx_lines.specs.Numbers.{nanos}
use Rattle.sqlx_tenants_rules.specs.declared.event.Opening.{Opening}
use Rattle.sqlx_tenants_rules.specs.declared.reply.Reply.{Reply}
use Rattle.sqlx_tenants_rules.specs.declared.reply.Reply.TheVariants as reply
use Rattle.sqlx_tenants_rules.specs.Book.{Account, Book, nobody, account, is_retired, moved, owning, stepped, own_rule, root_rule, ahead, taking, conn_due}
use Rattle.sqlx_tenants_rules.specs.Book as book_of
use Rattle.sqlx_tenants_rules.specs.Rules.{poll_reply, served, after_poll, had, is_rest_of, ready_marks}
use Rattle.sqlx_tenants.specs.Keeps.{Keeps, logs_of}
use Rattle.sqlx_tenants.specs.Answers.{HasNumbers, tested_reply, connected_reply, opening}
use Rattle.sqlx_tenants.proofs.Alike.{Family, Entry}
use Rattle.sqlx_tenants.proofs.Books.{SameLogs, same-moved, same-as-it-is}
use Rattle.sqlx_tenants.proofs.Reading.{is, stands, named}
use Rattle.sqlx_tenants.proofs.Entitled.{free-is}
use Rattle.sqlx_tenants.proofs.AskLemmas.{unretired}
use Rattle.sqlx_tenants.proofs.Serving.{moved-keeps}
use Rattle.sqlx_tenants.proofs.Served.{tested-serves, opened-serves, refused-serves}
use Rattle.sqlx_tenants.proofs.PollTurns.{turn_by, takes_by, reply-by, turn-by, takes-by, ended-keeps, waiting-keeps}

module _ (first : Opening) (f : Family) (book : Book) (m now client t q : ℕ) (opens : Bool) (k : Keeps first f book m) (le : m ≤ nanos now) (child : 1 ≤ q) (lt : q < length f.pools) (x : Ticket) (found : ticket_of client t (pool_in q f).tickets ≡ Some x) (waits : x.phase ≡ phase.Waiting) (few : HasNumbers book) where
  abbrev marks : List Mark
  marks = (account q book).marks

  abbrev pub due : Reply
  due = poll_reply now client q t opens book

  -- the reply is this, and the family keeps the book after it
  abbrev pub Ends : Reply → Family → Type 0
  Ends word g = (word ≡ due) × Keeps first g (after_poll now client q t due book) (nanos now)

  -- what is known behind the first call, by what it came to
  abbrev pub Began : Family → Start (Unit {0}) → Type 0
  Began f1 start.Closed = Ends reply.PoolClosed f1
  Began f1 start.TimedOut = Ends reply.PoolTimedOut f1
  Began f1 start.Waiting = Ends reply.Waiting f1
  Began f1 (start.Test i) = (new : Family) (r : AfterTest (Unit {0})) → r ≡ verdict_answer client t (pool_in q f1).closed (pool_in q f1) (verdict.Accepted i.lent)
      → FamilyLogs f1 q (test_marks client t i.lent.id r) new → new ≡ permits.stepped q (after_test client t r (pool_in q f1)) f1 → Ends (tested_reply r) new
  Began f1 start.Connect = (new : Family) (mo : ℕ) (r : AfterConnect (Unit {0})) → mo ≡ max f1.shared.last.0 (nanos now) → r ≡ connect_answer (ticket_of client t (pool_in q f1).tickets) (pool_in q f1).closed (pool_in q f1).next_conn mo (opening opens)
      → FamilyLogs f1 q (connect_marks client t mo r) new → new ≡ permits.stepped q (after_connect client t mo r (pool_in q f1)) f1 → Ends (connected_reply r) new
  Began f1 other = ⊥

  ends-by : (word : Reply) (g : Family) → due ≡ word → Keeps first g (after_poll now client q t word book) (nanos now) → Ends word g
  ends-by word g e keeps = (sym e, subst (λ (w : Reply). Keeps first g (after_poll now client q t w book) (nanos now)) (sym e) keeps)

  -- ---- a ticket that is served

  module _ (f0 : Family) (book0 : Book) (k0 : Keeps first f0 book0 m) (same : SameLogs book0 book) (names : length f0.pools ≡ length f.pools) (p : ℕ) (alike : pool_in q f0 ≡ with_permits p (pool_in q f)) (taken : taking q t book ≡ book0)
      (open_is : is_retired (account q book) ≡ false) (some : (pool_in q f).idle ≡ [] → 0 < free (entry_of q f0).core) (replies : due ≡ served opens (conn_due book) (idle_of marks)) where
    lt0 : q < length f0.pools
    lt0 = omega (arith, names, lt)

    open0 : is_retired (account q book0) ≡ false
    open0 = ap (list_any is_shut) (same.marks q) ∙ open_is

    found0 : ticket_of client t (pool_in q f0).tickets ≡ Some x
    found0 = ap (λ (c : Core (Unit {0})). ticket_of client t c.tickets) alike ∙ found

    retired0 : (entry_of q f0).retired ≡ false
    retired0 = (is first f0 book0 m k0 q lt0).retired ∙ open0

    left-it : (r : Start (Unit {0})) (f1 : Family) → f1 ≡ permits.stepped q (started t (nanos now) r (pool_in q f0)) f0 → f1 ≡ with_pool q (started t (nanos now) r (pool_in q f0)) f0
    left-it r f1 becomes = becomes ∙ sym (unretired q (with_pool q (started t (nanos now) r (pool_in q f0)) f0) (ap (λ (e : Entry). e.retired) (get_or-set_same f0.pools q (record { core = started t (nanos now) r (pool_in q f0); retired = (entry_of q f0).retired }) no_pool lt0) ∙ retired0))

    stand0 : (made : List Mark) (f1 : Family) → FamilyLogs f q made f1 → StandTogether f1 (with_marks q made (logs_of book0))
    stand0 made f1 logs r below = subst (λ (l : List Mark). StandsIn (pool_in r f1) (cond (r == q) (l ++ made) l)) (sym (same.marks r)) ((logs (logs_of book) k.logs).stand r below)

    tests : (i : Idle (Unit {0})) (rest : List (Idle (Unit {0}))) (f1 : Family) → (pool_in q f).idle ≡ i ∷ rest → FamilyLogs f q (Left t ∷ Taken i.lent.id ∷ []) f1
        → f1 ≡ permits.stepped q (started t (nanos now) (start.Test i) (pool_in q f0)) f0 → Began f1 (start.Test i)
    tests i rest f1 idle logs becomes new r answer logs2 becomes2 =
        let all = tested-serves first f0 book0 m now client t q k0 child lt0 open0 x found0 i rest (ap (λ (c : Core (Unit {0})). c.idle) alike ∙ idle) f1 new r (left-it (start.Test i) f1 becomes) (stand0 (Left t ∷ Taken i.lent.id ∷ []) f1 logs) answer logs2 becomes2 in
        let resting_is : idle_of marks ≡ resting i ∷ map resting rest = sym (stands first f book m k q lt).idle ∙ ap (map resting) idle in
        let was_idle : had now i.lent.id (account q book) ≡ Taken i.lent.id =
        ap (λ (l : List IdleEntry). cond (list_any (is_rest_of i.lent.id) l) (Taken i.lent.id) (Opened i.lent.id (nanos now))) resting_is
        ∙ ap (λ (b : Bool). cond (b || list_any (is_rest_of i.lent.id) (map resting rest)) (Taken i.lent.id) (Opened i.lent.id (nanos now))) (same_number i.lent.id) in
        let e = ends-by (reply.Ready i.lent.id) new (replies ∙ ap (served opens (conn_due book)) resting_is)
        (subst (λ (b : Book). Keeps first new (stepped q (ready_marks now client t i.lent.id (account q book)) b) (nanos now)) (sym taken)
        (subst (λ (h : Mark). Keeps first new (stepped q (Left t ∷ h ∷ Lent client i.lent.id ∷ Ended t ∷ []) book0) (nanos now)) (sym was_idle) all.1)) in
        (ap tested_reply all.0 ∙ e.0, e.1)

    -- the reply where none is idle
    none-idle : (pool_in q f).idle ≡ [] → idle_of marks ≡ []
    none-idle idle = sym (stands first f book m k q lt).idle ∙ ap (map resting) idle

    number-is : (pool_in q f0).next_conn ≡ conn_due book
    number-is = ap (λ (c : Core (Unit {0})). c.next_conn) alike ∙ k.conns

    back : conn_due book ≡ (pool_in q f0).next_conn
    back = sym number-is

    moment-is : (f1 : Family) (mo : ℕ) → f1 ≡ with_pool q (started t (nanos now) start.Connect (pool_in q f0)) f0 → mo ≡ max f1.shared.last.0 (nanos now) → mo ≡ nanos now
    moment-is f1 mo is1 at = at ∙ ap (λ (g : Family). max g.shared.last.0 (nanos now)) is1 ∙ omega arith

    connects : (o : Bool) → opens ≡ o → (f1 : Family) → (pool_in q f).idle ≡ [] → FamilyLogs f q (Left t ∷ []) f1
        → f1 ≡ permits.stepped q (started t (nanos now) start.Connect (pool_in q f0)) f0 → Began f1 start.Connect
    connects true is_o f1 idle logs becomes new mo r at answer logs2 becomes2 =
        let all = opened-serves first f0 book0 m now client t q k0 child lt0 open0 x found0 (ap (λ (c : Core (Unit {0})). c.idle) alike ∙ idle) (some idle) waits f1 new mo r (left-it start.Connect f1 becomes) (stand0 (Left t ∷ []) f1 logs) (moment-is f1 mo (left-it start.Connect f1 becomes) at)
        (answer ∙ ap (λ (b : Bool). connect_answer (ticket_of client t (pool_in q f1).tickets) (pool_in q f1).closed (pool_in q f1).next_conn mo (opening b)) is_o) logs2 becomes2 in
        let was_new : had now (pool_in q f0).next_conn (account q book) ≡ Opened (pool_in q f0).next_conn (nanos now) =
        ap (λ (l : List IdleEntry). cond (list_any (is_rest_of (pool_in q f0).next_conn) l) (Taken (pool_in q f0).next_conn) (Opened (pool_in q f0).next_conn (nanos now))) (none-idle idle) in
        let e = ends-by (reply.Ready (pool_in q f0).next_conn) new (replies ∙ (λ j. served (is_o j) (back j) (none-idle idle j)))
        (subst (λ (b : Book). Keeps first new (stepped q (ready_marks now client t (pool_in q f0).next_conn (account q book)) b) (nanos now)) (sym taken)
        (subst (λ (h : Mark). Keeps first new (stepped q (Left t ∷ h ∷ Lent client (pool_in q f0).next_conn ∷ Ended t ∷ []) book0) (nanos now)) (sym was_new) all.1)) in
        (ap connected_reply all.0 ∙ e.0, e.1)
    connects false is_o f1 idle logs becomes new mo r at answer logs2 becomes2 =
        let all = refused-serves first f0 book0 m now client t q k0 child lt0 open0 x found0 (ap (λ (c : Core (Unit {0})). c.idle) alike ∙ idle) (some idle) waits f1 new mo r (left-it start.Connect f1 becomes) (stand0 (Left t ∷ []) f1 logs) (moment-is f1 mo (left-it start.Connect f1 becomes) at)
        (answer ∙ ap (λ (b : Bool). connect_answer (ticket_of client t (pool_in q f1).tickets) (pool_in q f1).closed (pool_in q f1).next_conn mo (opening b)) is_o) logs2 becomes2 in
        let e = ends-by reply.Io new (replies ∙ (λ j. served (is_o j) (conn_due book) (none-idle idle j)))
        (subst (λ (b : Book). Keeps first new (stepped q (Left t ∷ Ended t ∷ []) b) (nanos now)) (sym taken) all.1) in
        (ap connected_reply all.0 ∙ e.0, e.1)

    phase-is : phase_for client t (pool_in q f).tickets ≡ Some phase.Waiting
    phase-is = ap (option_map (λ (y : Ticket). y.phase)) found ∙ ap Some waits

    serves : (idle : List (Idle (Unit {0}))) → (pool_in q f).idle ≡ idle → (r : Start (Unit {0})) (f1 : Family) → r ≡ start_answer (first_idle idle) idle
        → FamilyLogs f q (start_marks t (phase_for client t (pool_in q f).tickets) r) f1 → f1 ≡ permits.stepped q (started t (nanos now) r (pool_in q f0)) f0 → Began f1 r
    serves [] idle r f1 e logs becomes =
        subst (λ (s : Start (Unit {0})). Began f1 s) (sym e)
        (connects opens refl f1 idle (subst (λ (l : List Mark). FamilyLogs f q l f1) (λ j. start_marks t (phase-is j) (e j)) logs)
        (becomes ∙ ap (λ (s : Start (Unit {0})). permits.stepped q (started t (nanos now) s (pool_in q f0)) f0) e))
    serves (i ∷ rest) idle r f1 e logs becomes =
        subst (λ (s : Start (Unit {0})). Began f1 s) (sym e)
        (tests i rest f1 idle (subst (λ (l : List Mark). FamilyLogs f q l f1) (λ j. start_marks t (phase-is j) (e j)) logs)
        (becomes ∙ ap (λ (s : Start (Unit {0})). permits.stepped q (started t (nanos now) s (pool_in q f0)) f0) e))

  -- ---- all of it

  abbrev shut : Bool
  shut = is_retired (account q book)

  abbrev late : Bool
  late = nat_le x.deadline (nanos now)

  here : q < length book
  here = named first f book m k q lt

  abbrev granted : Bool → Family
  granted b = permits.granted b q f

  free-alone : own_rule q t book ≡ true → 0 < free (entry_of q f).core
  free-alone own = let e = ltb-true (before_in t (tickets_of marks)) (book_of.free (account q book)) own in let n = free-is first f book m k q lt in omega (arith, e, n)

  free-root : root_rule q t book ≡ true → 0 < free (entry_of 0 f).core
  free-root by_root =
      let both = and_parts (nat_lt (account q book).owned (account q book).budget) (nat_lt (ahead t book) (book_of.free (account 0 book))) by_root in
      let e = ltb-true (ahead t book) (book_of.free (account 0 book)) both.1 in
      let n = free-is first f book m k 0 (omega (arith, lt)) in
      omega (arith, e, n)

  module _ (by_root : root_rule q t book ≡ true) where
    abbrev f2 : Family
    f2 = permits.moved 0 q 1 f

    abbrev book2 : Book
    book2 = moved 0 q 1 book

    k2 : Keeps first f2 book2 m
    k2 = moved-keeps first f book m q k lt (free-root by_root)

    same2 : SameLogs book2 book
    same2 = same-moved 0 q 1 book (omega (arith, here)) here

    names2 : length f2.pools ≡ length f.pools
    names2 = k2.alike.names ∙ same2.names ∙ sym k.alike.names

    -- the tenant has one permit more
    owned2 : (account q book2).owned ≡ (account q book).owned + 1
    owned2 =
        ap (λ (a : Account). a.owned) (get_or-set_same less q (record (account q less) { owned = (account q less).owned + 1 }) nobody (omega (arith, inside, here)))
        ∙ ap (λ (a : Account). a.owned + 1) (get_or-set_other book 0 q (record (account 0 book) { owned = (account 0 book).owned - 1 }) nobody (omega (arith, child)))
      where
        less : Book
        less = owning 0 ((account 0 book).owned - 1) book

        inside : length less ≡ length book
        inside = length-set book 0 (record (account 0 book) { owned = (account 0 book).owned - 1 })

    free2 : (p : ℕ) → pool_in q f2 ≡ with_permits p (pool_in q f) → (pool_in q f).idle ≡ [] → 0 < free (entry_of q f2).core
    free2 p alike idle =
        let a = is first f2 book2 m k2 q (omega (arith, names2, lt)) in
        let held = ap (λ (c : Core (Unit {0})). length c.held) alike in
        let b = is first f book m k q lt in
        let o = a.owned in
        let w = b.owned in
        let c = b.rests.covered in
        let places = a.rests.places in
        let leaked = a.rests.leaked in
        let gone = a.rests.gone in
        let own = owned2 in
        omega (arith, held, o, w, c, places, leaked, gone, own)

  abbrev r-by : Bool → Bool → Bool → Start (Unit {0})
  r-by s l e = start_answer (turn_by s l e (pool_in q f).idle) (pool_in q f).idle

  module _ (r : Start (Unit {0})) (f1 : Family) (logs : FamilyLogs f q (start_marks t (phase_for client t (pool_in q f).tickets) r) f1) where
    abbrev Becomes : Bool → Type 0
    Becomes takes = f1 ≡ permits.stepped q (started t (nanos now) r (pool_in q (granted takes))) (granted takes)

    began-shut : shut ≡ true → r ≡ start.Closed → Becomes false → Began f1 r
    began-shut s e becomes =
        subst (λ (y : Start (Unit {0})). Began f1 y) (sym e)
        (ends-by reply.PoolClosed f1 (reply-by first f book m now client t q opens k le child lt x found waits few ∙ ap (λ (b : Bool). cond b reply.PoolClosed (cond late reply.PoolTimedOut (cond (own_rule q t book || root_rule q t book) (served opens (conn_due book) (idle_of marks)) reply.Waiting))) s)
        (ended-keeps first f book m now client t q opens k le child lt f1 (subst (λ (y : Start (Unit {0})). FamilyLogs f q (start_marks t (phase_for client t (pool_in q f).tickets) y) f1) e logs)
        (becomes ∙ ap (λ (y : Start (Unit {0})). permits.stepped q (started t (nanos now) y (pool_in q f)) f) e)))

    due-open : (b : Bool) → shut ≡ false → late ≡ b → due ≡ cond b reply.PoolTimedOut (cond (own_rule q t book || root_rule q t book) (served opens (conn_due book) (idle_of marks)) reply.Waiting)
    due-open b s l = reply-by first f book m now client t q opens k le child lt x found waits few ∙ (λ j. cond (s j) reply.PoolClosed (cond (l j) reply.PoolTimedOut (cond (own_rule q t book || root_rule q t book) (served opens (conn_due book) (idle_of marks)) reply.Waiting)))

    began-late : shut ≡ false → late ≡ true → r ≡ start.TimedOut → Becomes false → Began f1 r
    began-late s l e becomes =
        subst (λ (y : Start (Unit {0})). Began f1 y) (sym e)
        (ends-by reply.PoolTimedOut f1 (due-open true s l)
        (ended-keeps first f book m now client t q opens k le child lt f1 (subst (λ (y : Start (Unit {0})). FamilyLogs f q (start_marks t (phase_for client t (pool_in q f).tickets) y) f1) e logs)
        (becomes ∙ ap (λ (y : Start (Unit {0})). permits.stepped q (started t (nanos now) y (pool_in q f)) f) e)))

    due-in-time : (b : Bool) → shut ≡ false → late ≡ false → (own_rule q t book || root_rule q t book) ≡ b → due ≡ cond b (served opens (conn_due book) (idle_of marks)) reply.Waiting
    due-in-time b s l e = due-open false s l ∙ ap (λ (c : Bool). cond c (served opens (conn_due book) (idle_of marks)) reply.Waiting) e

    began-waiting : shut ≡ false → late ≡ false → (own_rule q t book || root_rule q t book) ≡ false → r ≡ start.Waiting → Becomes false → Began f1 r
    began-waiting s l none e becomes =
        subst (λ (y : Start (Unit {0})). Began f1 y) (sym e)
        (ends-by reply.Waiting f1 (due-in-time false s l none)
        (waiting-keeps first f book m now client t q opens k le child lt f1 s (subst (λ (y : Start (Unit {0})). FamilyLogs f q (start_marks t (phase_for client t (pool_in q f).tickets) y) f1) e logs)
        (becomes ∙ ap (λ (y : Start (Unit {0})). permits.stepped q (started t (nanos now) y (pool_in q f)) f) e)))

    began-alone : shut ≡ false → late ≡ false → own_rule q t book ≡ true → r ≡ start_answer (first_idle (pool_in q f).idle) (pool_in q f).idle → Becomes false → Began f1 r
    began-alone s l own e becomes =
        serves f book k (same-as-it-is book) refl (pool_in q f).permits refl (ap (λ (b : Bool). cond b book (moved 0 q 1 book)) own) s (λ idle. free-alone own)
        (due-in-time true s l (ap (λ (b : Bool). b || root_rule q t book) own)) (pool_in q f).idle refl r f1 e logs becomes

    began-by_root : shut ≡ false → late ≡ false → own_rule q t book ≡ false → root_rule q t book ≡ true → r ≡ start_answer (first_idle (pool_in q f).idle) (pool_in q f).idle → Becomes true → Began f1 r
    began-by_root s l own by_root e becomes =
        let alike = pool-granted true q f lt in
        serves (permits.moved 0 q 1 f) (moved 0 q 1 book) (k2 by_root) (same2 by_root) (names2 by_root) alike.0 alike.1 (ap (λ (b : Bool). cond b book (moved 0 q 1 book)) own) s (free2 by_root alike.0 alike.1)
        (due-in-time true s l (λ j. own j || by_root j)) (pool_in q f).idle refl r f1 e logs becomes

    in-time : shut ≡ false → late ≡ false → (own by_root : Bool) → own_rule q t book ≡ own → root_rule q t book ≡ by_root → r ≡ r-by false false (own || by_root) → Becomes (not own && by_root) → Began f1 r
    in-time s l true by_root is_own is_root e becomes = began-alone s l is_own e becomes
    in-time s l false true is_own is_root e becomes = began-by_root s l is_own is_root e becomes
    in-time s l false false is_own is_root e becomes = began-waiting s l (λ j. is_own j || is_root j) e becomes

    by-cases : (s l : Bool) → shut ≡ s → late ≡ l → r ≡ r-by s l (own_rule q t book || root_rule q t book) → Becomes (takes_by (own_rule q t book) (root_rule q t book) s l) → Began f1 r
    by-cases true l is_s is_l e becomes = began-shut is_s e becomes
    by-cases false true is_s is_l e becomes = began-late is_s is_l e becomes
    by-cases false false is_s is_l e becomes = in-time is_s is_l (own_rule q t book) (root_rule q t book) refl refl e becomes

    -- the first call of a poll
    pub began : (mo : ℕ) → mo ≡ nanos now → r ≡ start_answer (turn_of (line.is_entitled q t f) (pool_in q f).closed mo (pool_in q f) (ticket_of client t (pool_in q f).tickets)) (pool_in q f).idle
        → f1 ≡ permits.stepped q (started t mo r (pool_in q (line.granting q client t mo f))) (line.granting q client t mo f) → Began f1 r
    began mo at answer becomes =
        by-cases shut late refl refl
        (answer ∙ (λ j. start_answer (turn_of (line.is_entitled q t f) (pool_in q f).closed (at j) (pool_in q f) (ticket_of client t (pool_in q f).tickets)) (pool_in q f).idle)
        ∙ ap (λ y. start_answer y (pool_in q f).idle) (turn-by first f book m now client t q opens k le child lt x found waits few))
        (becomes ∙ (λ j. permits.stepped q (started t (at j) r (pool_in q (line.granting q client t (at j) f))) (line.granting q client t (at j) f))
        ∙ ap (λ (b : Bool). permits.stepped q (started t (nanos now) r (pool_in q (granted b))) (granted b)) (takes-by first f book m now client t q opens k le child lt x found waits few))
