-- What the code of a poll's last steps writes is what the steps make of the core.
use Rattle.std.proofs.Common.{◌≡◌, ℕ, ◌+◌, ◌<◌, ◌==◌, List, [], ◌∷◌, ◌++◌, drop, length, refl, ap, ◌∙◌, subst, arith, Bool, true, false, Option, Some, None, inl, inr, if◌then◌else◌, cond}
use Rattle.std.proofs.lemmas.Bool.Decides.{eqb_tells}
use Rattle.sqlx_text.specs.declared.Moment.{Moment}
use Rattle.sqlx_pool_lists.specs.declared.ticket.Ticket.{Ticket}
use Rattle.sqlx_pool_lists.specs.declared.ticket.OwnedConn.{OwnedConn}
use Rattle.sqlx_pool_lists.specs.declared.ticket.Phase.{Phase}
use Rattle.sqlx_pool_lists.specs.declared.ticket.Phase.TheVariants as phase
use Rattle.sqlx_pool_lists.specs.Core.{Core, ticket_of, is_out, has_gone}
use Rattle.sqlx_pool_lists.specs.Sound.{IsSound, is_tested}
use Rattle.sqlx_pool_lists.specs.declared.steps.Idle.{Idle}
use Rattle.sqlx_pool_lists.specs.declared.steps.AfterTest.TheVariants as tested
use Rattle.sqlx_pool_lists.specs.Edits.{with_ticket, without_ticket, to_next, to_back_off}
use Rattle.sqlx_pool_lists.specs.Place.{IsAmong}
use Rattle.sqlx_pool_lists.specs.PollSteps.{tested_at, after_test, wait_of}
use Rattle.sqlx_pool_core.proofs.PollCode.{among, changed-const}
use Rattle.sqlx_pool_marks.proofs.Counting.{one}
use Rattle.sqlx_pool_lists.proofs.Counting.{count-ended}
use Rattle.sqlx_pool_core.proofs.Soundness.{sound-served_tested, sound-served_new, sound-goes_on, sound-to_next}

tested_here : (c d n : ℕ) (kept created : Moment) → (b : Bool) → (c == d) ≡ b → c ≡ d → (if b then Some kept else None) ≡ Some created → phase.Testing d kept n ≡ phase.Testing c created n
tested_here c d n kept created true e is t = let k : kept ≡ created = cc in cc
tested_here c d n kept created false e is t = absurd cc

-- a connection that is under test for a ticket
pub tested-phase : (c : ℕ) (p : Phase) (created : Moment) → tested_at c (Some p) ≡ Some created → (before : ℕ) × (p ≡ phase.Testing c created before)
tested-phase c phase.Waiting created t = absurd cc
tested-phase c phase.Connecting created t = absurd cc
tested-phase c (phase.Backoff until) created t = absurd cc
tested-phase c (phase.Testing d kept n) created t = elim (eqb_tells c d) [
  | inl is ↦ (n, tested_here c d n kept created (c == d) refl is.1 t)
  | inr is ↦ absurd (let n : ◌≡◌ {A = Option Moment} None (Some created) = rw is.0 at t in cc)
]

-- owned connections and tickets that have left are together below the maximum
pub room-to-lend : {C : Type 0} (core : Core C) (t : ℕ) (x : Ticket) → IsSound core → IsAmong t x core.tickets → is_out x.phase ≡ true → length core.held < core.options.max_connections
room-to-lend core t x s is out =
    let e = count-ended has_gone t x core.tickets is in
    let was : one has_gone x ≡ 1 = ap (λ (b : Bool). cond b 1 0) out in
    let w = s.within in
    omega (arith, e, was, w)

-- ---- by the core before the step

lends_room : {C : Type 0} (core : Core C) (x : Ticket) (c : ℕ) (created : Moment) → IsSound core → tested_at c (Some x.phase) ≡ Some created → ticket_of x.client x.number core.tickets ≡ Some x → length core.held < core.options.max_connections
lends_room core x c created s t found =
    room-to-lend core x.number x s (among core x.client x.number x s found) (ap is_out (tested-phase c x.phase created t).1)

pub lending-room : {C : Type 0} (core now : Core C) (x : Ticket) (c : ℕ) (created : Moment) → core ≡ now → IsSound core → tested_at c (Some x.phase) ≡ Some created → ticket_of x.client x.number now.tickets ≡ Some x → length core.held < core.options.max_connections
lending-room {C} core now x c created view s t = subst (λ (n : Core C). ticket_of x.client x.number n.tickets ≡ Some x → length core.held < core.options.max_connections) view (lends_room core x c created s t)

lends_sound : {C : Type 0} (core : Core C) (x : Ticket) (h : OwnedConn) (tickets : List Ticket) (held : List OwnedConn) → IsSound core → tested_at h.conn (Some x.phase) ≡ Some h.created
    → tickets ≡ without_ticket x.number core.tickets → held ≡ core.held ++ h ∷ []
    → ticket_of x.client x.number core.tickets ≡ Some x → IsSound (record core { tickets = tickets; held = held })
lends_sound core x h tickets held s t e f found =
    let p = (tested-phase h.conn x.phase h.created t).1 in
    rw (e, f) (sound-served_tested core x.number x h core.last s (among core x.client x.number x s found) (ap is_out p) (λ c. ap (is_tested c) p))

pub lending-sound : {C : Type 0} (core now : Core C) (x : Ticket) (h : OwnedConn) (tickets : List Ticket) (held : List OwnedConn) → core ≡ now → IsSound core → tested_at h.conn (Some x.phase) ≡ Some h.created
    → tickets ≡ without_ticket x.number core.tickets → held ≡ core.held ++ h ∷ []
    → ticket_of x.client x.number now.tickets ≡ Some x → IsSound (record core { tickets = tickets; held = held })
lending-sound {C} core now x h tickets held view s t e f =
    subst (λ (n : Core C). ticket_of x.client x.number n.tickets ≡ Some x → IsSound (record core { tickets = tickets; held = held })) view (lends_sound core x h tickets held s t e f)

goes_on : {C : Type 0} (core : Core C) (x y : Ticket) (f : Ticket → Ticket) (m : ℕ) (tickets : List Ticket) → IsSound core → is_out x.phase ≡ true
    → y ≡ f x → (f x).number ≡ x.number → ((c : ℕ) → is_tested c (f x).phase ≡ false) → tickets ≡ with_ticket y.number (λ _. y) core.tickets
    → ticket_of x.client x.number core.tickets ≡ Some x
    → IsSound (record core { tickets = tickets; last = m }) × (record core { tickets = tickets; last = m } ≡ record core { tickets = with_ticket x.number f core.tickets; last = m })
goes_on core x y f m tickets s out is same none put found =
    let at_place = among core x.client x.number x s found in
    let n : y.number ≡ x.number = ap (λ (z : Ticket). z.number) is ∙ same in
    let e : tickets ≡ with_ticket x.number f core.tickets = put ∙ ap (λ (k : ℕ). with_ticket k (λ _. y) core.tickets) n ∙ changed-const x.number x y core.tickets f at_place is in
    (rw e (sound-goes_on core x.number x f m s at_place same out none), rw e refl)

-- a ticket that has left the line goes on to another phase
pub going-on : {C : Type 0} (core now : Core C) (x y : Ticket) (f : Ticket → Ticket) (m : ℕ) (tickets : List Ticket) → core ≡ now → IsSound core → is_out x.phase ≡ true
    → y ≡ f x → (f x).number ≡ x.number → ((c : ℕ) → is_tested c (f x).phase ≡ false) → tickets ≡ with_ticket y.number (λ _. y) core.tickets
    → ticket_of x.client x.number now.tickets ≡ Some x
    → IsSound (record core { tickets = tickets; last = m }) × (record core { tickets = tickets; last = m } ≡ record now { tickets = with_ticket x.number f now.tickets; last = m })
going-on {C} core now x y f m tickets view s out is same none put =
    subst (λ (n : Core C). ticket_of x.client x.number n.tickets ≡ Some x
    → IsSound (record core { tickets = tickets; last = m }) × (record core { tickets = tickets; last = m } ≡ record n { tickets = with_ticket x.number f n.tickets; last = m })) view
    (goes_on core x y f m tickets s out is same none put)

-- the same where the last moment stays
pub going-on-still : {C : Type 0} (core now : Core C) (x y : Ticket) (f : Ticket → Ticket) (tickets : List Ticket) → core ≡ now → IsSound core → is_out x.phase ≡ true
    → y ≡ f x → (f x).number ≡ x.number → ((c : ℕ) → is_tested c (f x).phase ≡ false) → tickets ≡ with_ticket y.number (λ _. y) core.tickets
    → ticket_of x.client x.number now.tickets ≡ Some x
    → IsSound (record core { tickets = tickets }) × (record core { tickets = tickets } ≡ record now { tickets = with_ticket x.number f now.tickets })
going-on-still {C} core now x y f tickets view s out is same none put =
    subst (λ (n : Core C). ticket_of x.client x.number n.tickets ≡ Some x
    → IsSound (record core { tickets = tickets }) × (record core { tickets = tickets } ≡ record n { tickets = with_ticket x.number f n.tickets })) view
    (goes_on core x y f core.last tickets s out is same none put)

-- ---- a connect

out-connecting : (p : Phase) → p ≡ phase.Connecting → is_out p ≡ true
out-connecting p e = ap is_out e

connects_room : {C : Type 0} (core : Core C) (x : Ticket) → IsSound core → x.phase ≡ phase.Connecting → ticket_of x.client x.number core.tickets ≡ Some x → length core.held < core.options.max_connections
connects_room core x s e found = room-to-lend core x.number x s (among core x.client x.number x s found) (out-connecting x.phase e)

pub connecting-room : {C : Type 0} (core now : Core C) (x : Ticket) → core ≡ now → IsSound core → x.phase ≡ phase.Connecting → ticket_of x.client x.number now.tickets ≡ Some x → length core.held < core.options.max_connections
connecting-room {C} core now x view s e = subst (λ (n : Core C). ticket_of x.client x.number n.tickets ≡ Some x → length core.held < core.options.max_connections) view (connects_room core x s e)

connects_sound : {C : Type 0} (core : Core C) (x : Ticket) (h : OwnedConn) (m : ℕ) (tickets : List Ticket) (held : List OwnedConn) → IsSound core → x.phase ≡ phase.Connecting → h.conn ≡ core.next_conn
    → tickets ≡ without_ticket x.number core.tickets → held ≡ core.held ++ h ∷ []
    → ticket_of x.client x.number core.tickets ≡ Some x → IsSound (record core { tickets = tickets; held = held; next_conn = core.next_conn + 1; last = m })
connects_sound core x h m tickets held s p new e f found =
    rw (e, f) (sound-served_new core x.number x h m s (among core x.client x.number x s found) (out-connecting x.phase p) new)

pub connecting-sound : {C : Type 0} (core now : Core C) (x : Ticket) (h : OwnedConn) (m : ℕ) (tickets : List Ticket) (held : List OwnedConn) → core ≡ now → IsSound core → x.phase ≡ phase.Connecting → h.conn ≡ core.next_conn
    → tickets ≡ without_ticket x.number core.tickets → held ≡ core.held ++ h ∷ []
    → ticket_of x.client x.number now.tickets ≡ Some x → IsSound (record core { tickets = tickets; held = held; next_conn = core.next_conn + 1; last = m })
connecting-sound {C} core now x h m tickets held view s p new e f =
    subst (λ (n : Core C). ticket_of x.client x.number n.tickets ≡ Some x → IsSound (record core { tickets = tickets; held = held; next_conn = core.next_conn + 1; last = m })) view (connects_sound core x h m tickets held s p new e f)

-- the ticket backs off
pub backing-off : {C : Type 0} (core now : Core C) (x y : Ticket) (wait until m : ℕ) (tickets : List Ticket) → core ≡ now → IsSound core → x.phase ≡ phase.Connecting
    → wait ≡ wait_of x → y ≡ to_back_off wait until x → tickets ≡ with_ticket y.number (λ _. y) core.tickets
    → ticket_of x.client x.number now.tickets ≡ Some x
    → IsSound (record core { tickets = tickets; last = m }) × (record core { tickets = tickets; last = m } ≡ record now { tickets = with_ticket x.number (λ z. to_back_off (wait_of z) until z) now.tickets; last = m })
backing-off core now x y wait until m tickets view s p w is put =
    going-on core now x y (λ z. to_back_off (wait_of z) until z) m tickets view s (out-connecting x.phase p) (is ∙ ap (λ (n : ℕ). to_back_off n until x) w) refl (λ c. refl) put

-- ---- the next test

tests_next : {C : Type 0} (core : Core C) (x y : Ticket) (i : Idle C) (rest : List (Idle C)) (tickets : List Ticket) → IsSound core → core.idle ≡ i ∷ rest → is_out x.phase ≡ true → y ≡ to_next i x
    → tickets ≡ with_ticket y.number (λ _. y) core.tickets → ticket_of x.client x.number core.tickets ≡ Some x
    → IsSound (record core { tickets = tickets; idle = rest }) × (record core { tickets = tickets; idle = rest } ≡ after_test x.client x.number (tested.Test i) core)
tests_next {C} core x y i rest tickets s first out is put found =
    let at_place = among core x.client x.number x s found in
    let n : y.number ≡ x.number = ap (λ (z : Ticket). z.number) is in
    let e : tickets ≡ with_ticket x.number (to_next i) core.tickets = put ∙ ap (λ (k : ℕ). with_ticket k (λ _. y) core.tickets) n ∙ changed-const x.number x y core.tickets (to_next i) at_place is in
    let r : drop 1 core.idle ≡ rest = ap (λ (l : List (Idle C)). drop 1 l) first in
    (rw e (sound-to_next core x.number x i rest core.last s at_place first out), rw (e, r) refl)

pub testing-next : {C : Type 0} (core now : Core C) (x y : Ticket) (i : Idle C) (rest : List (Idle C)) (tickets : List Ticket) → core ≡ now → IsSound core → core.idle ≡ i ∷ rest → is_out x.phase ≡ true → y ≡ to_next i x
    → tickets ≡ with_ticket y.number (λ _. y) core.tickets → ticket_of x.client x.number now.tickets ≡ Some x
    → IsSound (record core { tickets = tickets; idle = rest }) × (record core { tickets = tickets; idle = rest } ≡ after_test x.client x.number (tested.Test i) now)
testing-next {C} core now x y i rest tickets view s first out is put =
    subst (λ (n : Core C). ticket_of x.client x.number n.tickets ≡ Some x
    → IsSound (record core { tickets = tickets; idle = rest }) × (record core { tickets = tickets; idle = rest } ≡ after_test x.client x.number (tested.Test i) n)) view (tests_next core x y i rest tickets s first out is put)
