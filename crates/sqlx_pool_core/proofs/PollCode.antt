-- What the code of a poll's first step writes is what the step makes of the core.
use Rattle.std.proofs.Common.{◌≡◌, ℕ, ◌<◌, List, ◌∷◌, ◌++◌, refl, ap, sym, ◌∙◌, subst, drop, Bool, true, false, Option, Some, None, IfSome, inl, inr, ◌&&◌, ◌==◌}
use Rattle.std.proofs.lemmas.Bool.Decides.{eqb_tells}
use Rattle.sqlx_pool_lists.specs.declared.ticket.Ticket.{Ticket}
use Rattle.sqlx_pool_lists.specs.declared.ticket.Phase.{Phase}
use Rattle.sqlx_pool_lists.specs.declared.ticket.Phase.TheVariants as phase
use Rattle.sqlx_pool_marks.specs.declared.turn.Turn.TheVariants as turn
use Rattle.sqlx_pool_lists.specs.declared.steps.Idle.{Idle}
use Rattle.sqlx_pool_lists.specs.declared.steps.Start.TheVariants as start
use Rattle.sqlx_pool_lists.specs.Core.{Core, ticket_of, free}
use Rattle.sqlx_pool_lists.specs.Sound.{IsSound, number_of}
use Rattle.sqlx_pool_lists.specs.CoreTurn.{turn_of}
use Rattle.sqlx_pool_lists.specs.Edits.{with_ticket, to_test, to_try, to_try_at}
use Rattle.sqlx_pool_lists.specs.Place.{IsAmong}
use Rattle.sqlx_pool_lists.specs.PollSteps.{started}
use Rattle.sqlx_pool_core.proofs.Found.{found-among, found-is}
use Rattle.sqlx_pool_core.proofs.TurnCases.{turn-test, turn-connect}
use Rattle.sqlx_pool_core.proofs.Soundness.{sound-to_test, sound-to_try_first, sound-to_try_again}

-- the one ticket of its number is changed, whatever the change makes of others
pub changed-const : (t : ℕ) (x y : Ticket) (tickets : List Ticket) (f : Ticket → Ticket) → IsAmong t x tickets → y ≡ f x → with_ticket t (λ _. y) tickets ≡ with_ticket t f tickets
changed-const t x y tickets f is e = is.changed (λ _. y) ∙ ap (λ (z : Ticket). is.front ++ z ∷ is.back) e ∙ sym (is.changed f)

-- the client's ticket of its own number, in a sound core
pub among : {C : Type 0} (core : Core C) (k t : ℕ) (x : Ticket) → IsSound core → ticket_of k t core.tickets ≡ Some x → IsAmong t x core.tickets
among core k t x s found = found-among k t x 1 core.tickets core.next_ticket s.rising found

begins_test : {C : Type 0} (q : Bool) (core : Core C) (x : Ticket) (m : ℕ) (i : Idle C) (rest : List (Idle C)) (tickets : List Ticket)
    → IsSound core → core.idle ≡ i ∷ rest → tickets ≡ with_ticket x.number (λ _. to_test m i x) core.tickets
    → turn_of q core.closed m core (Some x) ≡ turn.Test → (q ≡ true → 0 < free core) → ticket_of x.client x.number core.tickets ≡ Some x
    → IsSound (record core { tickets = tickets; idle = rest; last = m }) × (record core { tickets = tickets; idle = rest; last = m } ≡ started x.number m (start.Test i) core)
begins_test {C} q core x m i rest tickets s first put t permit found =
    let is = among core x.client x.number x s found in
    let e : tickets ≡ with_ticket x.number (to_test m i) core.tickets = put ∙ changed-const x.number x (to_test m i x) core.tickets (to_test m i) is refl in
    let at_test = turn-test q core.closed core m x t in
    let r : drop 1 core.idle ≡ rest = ap (λ (l : List (Idle C)). drop 1 l) first in
    (rw e (sound-to_test core x.number x i rest m s is first (permit at_test.leaves.entitled)), rw (e, r) refl)

pub begun-test : {C : Type 0} (q : Bool) (core now : Core C) (x : Ticket) (m : ℕ) (i : Idle C) (rest : List (Idle C)) (tickets : List Ticket)
    → core ≡ now → IsSound core → core.idle ≡ i ∷ rest → tickets ≡ with_ticket x.number (λ _. to_test m i x) core.tickets
    → turn_of q now.closed m now (Some x) ≡ turn.Test → (q ≡ true → 0 < free now) → ticket_of x.client x.number now.tickets ≡ Some x
    → IsSound (record core { tickets = tickets; idle = rest; last = m }) × (record core { tickets = tickets; idle = rest; last = m } ≡ started x.number m (start.Test i) now)
begun-test {C} q core now x m i rest tickets view s first put =
    subst (λ (n : Core C). turn_of q n.closed m n (Some x) ≡ turn.Test → (q ≡ true → 0 < free n) → ticket_of x.client x.number n.tickets ≡ Some x
    → IsSound (record core { tickets = tickets; idle = rest; last = m }) × (record core { tickets = tickets; idle = rest; last = m } ≡ started x.number m (start.Test i) n)) view (begins_test q core x m i rest tickets s first put)

number-to_try : (m : ℕ) (x : Ticket) (p : Phase) → (to_try_at m p x).number ≡ x.number
number-to_try m x phase.Waiting = refl
number-to_try m x (phase.Testing c created before) = refl
number-to_try m x phase.Connecting = refl
number-to_try m x (phase.Backoff until) = refl

begins_connect : {C : Type 0} (q : Bool) (core : Core C) (x y : Ticket) (m : ℕ) (tickets : List Ticket)
    → IsSound core → y ≡ to_try m x → tickets ≡ with_ticket y.number (λ _. y) core.tickets
    → turn_of q core.closed m core (Some x) ≡ turn.Connect → (q ≡ true → 0 < free core) → ticket_of x.client x.number core.tickets ≡ Some x
    → IsSound (record core { tickets = tickets; last = m }) × (record core { tickets = tickets; last = m } ≡ started x.number m start.Connect core)
begins_connect {C} q core x y m tickets s tries put t permit found =
    let is = among core x.client x.number x s found in
    let same : y.number ≡ x.number = ap number_of tries ∙ number-to_try m x x.phase in
    let e : tickets ≡ with_ticket x.number (to_try m) core.tickets = put ∙ ap (λ (n : ℕ). with_ticket n (λ _. y) core.tickets) same ∙ changed-const x.number x y core.tickets (to_try m) is tries in
    let sound : IsSound (record core { tickets = with_ticket x.number (to_try m) core.tickets; last = m }) = elim (turn-connect q core.closed core m x t) [
      | inl first ↦ sound-to_try_first core x.number x m s is first.leaves.waits (permit first.leaves.entitled) first.none
      | inr again ↦ sound-to_try_again core x.number x m again.until s is again.backs_off
    ] in
    (rw e sound, rw e refl)

pub begun-connect : {C : Type 0} (q : Bool) (core now : Core C) (x y : Ticket) (m : ℕ) (tickets : List Ticket)
    → core ≡ now → IsSound core → y ≡ to_try m x → tickets ≡ with_ticket y.number (λ _. y) core.tickets
    → turn_of q now.closed m now (Some x) ≡ turn.Connect → (q ≡ true → 0 < free now) → ticket_of x.client x.number now.tickets ≡ Some x
    → IsSound (record core { tickets = tickets; last = m }) × (record core { tickets = tickets; last = m } ≡ started x.number m start.Connect now)
begun-connect {C} q core now x y m tickets view s tries put =
    subst (λ (n : Core C). turn_of q n.closed m n (Some x) ≡ turn.Connect → (q ≡ true → 0 < free n) → ticket_of x.client x.number n.tickets ≡ Some x
    → IsSound (record core { tickets = tickets; last = m }) × (record core { tickets = tickets; last = m } ≡ started x.number m start.Connect n)) view (begins_connect q core x y m tickets s tries put)

-- ---- the ticket that a look-up finds

both_true : (a b : Bool) → (a && b) ≡ true → (a ≡ true) × (b ≡ true)
both_true true true e = (refl, refl)
both_true true false e = absurd cc
both_true false b e = absurd cc

pub found-number : (k t : ℕ) (x : Ticket) (tickets : List Ticket) → ticket_of k t tickets ≡ Some x → t ≡ x.number
found-number k t x tickets found = let e = (both_true (t == x.number) (k == x.client) (found-is k t x tickets found)).0 in elim (eqb_tells t x.number) [ inl is ↦ is.1 | inr is ↦ absurd (let f : true ≡ false = sym e ∙ is.0 in cc) ]

pub found-client : (k t : ℕ) (x : Ticket) (tickets : List Ticket) → ticket_of k t tickets ≡ Some x → k ≡ x.client
found-client k t x tickets found = let e = (both_true (t == x.number) (k == x.client) (found-is k t x tickets found)).1 in elim (eqb_tells k x.client) [ inl is ↦ is.1 | inr is ↦ absurd (let f : true ≡ false = sym e ∙ is.0 in cc) ]

-- it is its client's ticket of its number
pub found-own : (k t : ℕ) (x : Ticket) (tickets : List Ticket) → ticket_of k t tickets ≡ Some x → ticket_of x.client x.number tickets ≡ Some x
found-own k t x tickets found =
    ap (λ (n : ℕ). ticket_of x.client n tickets) (sym (found-number k t x tickets found)) ∙ ap (λ (n : ℕ). ticket_of n t tickets) (sym (found-client k t x tickets found)) ∙ found

-- what a look-up tells of the ticket that it finds
pub own-if : (k t : ℕ) (tickets : List Ticket) (o : Option Ticket) → o ≡ ticket_of k t tickets → IfSome o (λ x. ticket_of x.client x.number tickets ≡ Some x)
own-if k t tickets None e = tt
own-if k t tickets (Some x) e = found-own k t x tickets (sym e)

pub number-if : (k t : ℕ) (tickets : List Ticket) (o : Option Ticket) → o ≡ ticket_of k t tickets → IfSome o (λ x. x.number ≡ t)
number-if k t tickets None e = tt
number-if k t tickets (Some x) e = sym (found-number k t x tickets (sym e))

pub client-if : (k t : ℕ) (tickets : List Ticket) (o : Option Ticket) → o ≡ ticket_of k t tickets → IfSome o (λ x. x.client ≡ k)
client-if k t tickets None e = tt
client-if k t tickets (Some x) e = sym (found-client k t x tickets (sym e))
