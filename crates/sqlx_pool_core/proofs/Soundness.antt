-- What holds of every core's value holds after each step of a poll.
use Rattle.std.proofs.Common.{◌≡◌, ℕ, ◌+◌, ◌<◌, ◌≤◌, ◌==◌, List, [], ◌∷◌, ◌++◌, length, refl, ap, sym, ◌∙◌, subst, arith, Bool, true, false, cond, count_by, inl, inr, length-append}
use Rattle.std.proofs.lemmas.Bool.Decides.{eqb_tells}
use Rattle.sqlx_pool_lists.specs.declared.ticket.Ticket.{Ticket}
use Rattle.sqlx_pool_lists.specs.declared.ticket.OwnedConn.{OwnedConn}
use Rattle.sqlx_pool_lists.specs.declared.ticket.Phase.{Phase}
use Rattle.sqlx_pool_lists.specs.declared.ticket.Phase.TheVariants as phase
use Rattle.sqlx_pool_lists.specs.declared.steps.Idle.{Idle}
use Rattle.sqlx_pool_lists.specs.Core.{Core, has_gone, size, taken, is_out, free}
use Rattle.sqlx_pool_lists.specs.Sound.{IsSound, IsNumbered, IsRising, number_of, tests, holds, rests, places_of, is_tested}
use Rattle.sqlx_pool_lists.specs.Edits.{with_ticket, without_ticket, is_another_ticket, core_without_ticket, at_moment, to_test, to_next, to_try, to_try_at, to_connect}
use Rattle.sqlx_pool_lists.specs.Place.{IsAmong}
use Rattle.sqlx_pool_marks.proofs.Counting.{one, count-filter, count-push, count-cons}
use Rattle.sqlx_pool_lists.proofs.Counting.{count-changed, count-ended, numbers-changed, rising-filter}

pub sound-ended : {C : Type 0} (t m : ℕ) (core : Core C) → IsSound core → IsSound (at_moment m (core_without_ticket t core))
sound-ended t m core s = record {
  some = s.some;
  few = s.few;
  tries = s.tries;
  few_tries = s.few_tries;
  rising = rising-filter 1 (is_another_ticket t) core.tickets core.next_ticket s.rising;
  within = let h = count-filter has_gone (is_another_ticket t) core.tickets in let w = s.within in omega (arith, h, w);
  paid = let h = count-filter has_gone (is_another_ticket t) core.tickets in let w = s.paid in omega (arith, h, w);
  owns = s.owns;
  own = s.own;
  few_tickets = s.few_tickets;
  numbers = s.numbers;
  once = λ c. let h = count-filter (tests c) (is_another_ticket t) core.tickets in let w = s.once c in omega (arith, h, w);
  opened = λ c n. let h = count-filter (tests c) (is_another_ticket t) core.tickets in let w = s.opened c n in omega (arith, h, w);
}

-- A ticket changed, and the idle list with it.
abbrev changed : {C : Type 0} → Core C → ℕ → (Ticket → Ticket) → List (Idle C) → ℕ → Core C
changed core t f idle m = record core { tickets = with_ticket t f core.tickets; idle = idle; last = m }

-- The ticket and the idle list together have no connection more, the pool stays below its maximum, and the numbers suffice.
pub sound-changed : {C : Type 0} (core : Core C) (t : ℕ) (x : Ticket) (f : Ticket → Ticket) (idle : List (Idle C)) (m : ℕ)
    → IsSound core → IsAmong t x core.tickets → (f x).number ≡ x.number
    → length idle + one has_gone (f x) + size core ≤ core.options.max_connections + length core.idle + one has_gone x
    → taken core + one has_gone (f x) ≤ core.permits + one has_gone x
    → ((c : ℕ) → one (tests c) (f x) + count_by (rests c) idle ≤ one (tests c) x + count_by (rests c) core.idle)
    → IsSound (changed core t f idle m)
sound-changed core t x f idle m s is same fits fits_paid places = record {
  some = s.some;
  few = s.few;
  tries = s.tries;
  few_tries = s.few_tries;
  rising = let e = numbers-changed t x core.tickets f is same in subst (λ (ns : List ℕ). IsRising 1 ns core.next_ticket) (sym e) s.rising;
  within = let h = count-changed has_gone t x core.tickets f is in omega (arith, h, fits);
  paid = let h = count-changed has_gone t x core.tickets f is in omega (arith, h, fits_paid);
  owns = s.owns;
  own = s.own;
  few_tickets = s.few_tickets;
  numbers = s.numbers;
  once = λ c. let h = count-changed (tests c) t x core.tickets f is in let w = s.once c in let p = places c in omega (arith, h, w, p);
  opened = λ c n. let h = count-changed (tests c) t x core.tickets f is in let w = s.opened c n in let p = places c in omega (arith, h, w, p);
}

-- ---- what a phase counts

pub one-le : {X : Type 0} (p : X → Bool) (x : X) → one p x ≤ 1
one-le p x = le_at (p x) where
  le_at : (b : Bool) → cond b 1 0 ≤ 1
  le_at true = omega arith
  le_at false = omega arith

-- to a test of the first idle connection
pub sound-to_test : {C : Type 0} (core : Core C) (t : ℕ) (x : Ticket) (i : Idle C) (rest : List (Idle C)) (m : ℕ)
    → IsSound core → IsAmong t x core.tickets → core.idle ≡ i ∷ rest → 0 < free core → IsSound (changed core t (to_test m i) rest m)
sound-to_test core t x i rest m s is first permit =
    let n : length core.idle ≡ length (i ∷ rest) = ap length first in
    let w = s.within in
    sound-changed core t x (to_test m i) rest m s is refl (omega (arith, n, w)) (omega (arith, permit))
    (λ c. let e = ap (count_by (rests c)) first ∙ count-cons (rests c) i rest in omega (arith, e))

-- a ticket that waited connects, where a permit is free and no connection is idle
pub sound-to_try_first : {C : Type 0} (core : Core C) (t : ℕ) (x : Ticket) (m : ℕ)
    → IsSound core → IsAmong t x core.tickets → x.phase ≡ phase.Waiting → 0 < free core → core.idle ≡ [] → IsSound (changed core t (to_try m) core.idle m)
sound-to_try_first core t x m s is waits permit none =
    let e : to_try m x ≡ to_try_at m phase.Waiting x = ap (λ (p : Phase). to_try_at m p x) waits in
    let n : length core.idle ≡ 0 = ap length none in
    let w = s.owns in
    let out : one has_gone (to_try m x) ≡ 1 = ap (one has_gone) e in
    sound-changed core t x (to_try m) core.idle m s is (ap number_of e) (omega (arith, n, w, permit, out)) (omega (arith, permit, out))
    (λ c. let k : one (tests c) (to_try m x) ≡ 0 = ap (one (tests c)) e in omega (arith, k))

-- a ticket whose backoff is due connects
pub sound-to_try_again : {C : Type 0} (core : Core C) (t : ℕ) (x : Ticket) (m until : ℕ)
    → IsSound core → IsAmong t x core.tickets → x.phase ≡ phase.Backoff until → IsSound (changed core t (to_try m) core.idle m)
sound-to_try_again core t x m until s is waits =
    let e : to_try m x ≡ to_connect x = ap (λ (p : Phase). to_try_at m p x) waits in
    let w = s.within in
    let f = s.paid in
    let out : one has_gone (to_try m x) ≡ 1 = ap (one has_gone) e in
    let was : one has_gone x ≡ 1 = ap (λ (p : Phase). cond (is_out p) 1 0) waits in
    sound-changed core t x (to_try m) core.idle m s is (ap number_of e) (omega (arith, w, out, was)) (omega (arith, f, out, was))
    (λ c. let k : one (tests c) (to_try m x) ≡ 0 = ap (one (tests c)) e in omega (arith, k))

-- a ticket that has left the line goes on to a phase that tests nothing
pub sound-goes_on : {C : Type 0} (core : Core C) (t : ℕ) (x : Ticket) (f : Ticket → Ticket) (m : ℕ)
    → IsSound core → IsAmong t x core.tickets → (f x).number ≡ x.number → is_out x.phase ≡ true → ((c : ℕ) → is_tested c (f x).phase ≡ false) → IsSound (changed core t f core.idle m)
sound-goes_on core t x f m s is same out none =
    let w = s.within in
    let n = s.paid in
    let was : one has_gone x ≡ 1 = ap (λ (b : Bool). cond b 1 0) out in
    let now = one-le has_gone (f x) in
    sound-changed core t x f core.idle m s is same (omega (arith, w, was, now)) (omega (arith, n, was, now))
    (λ c. let k : one (tests c) (f x) ≡ 0 = ap (λ (b : Bool). cond b 1 0) (none c) in omega (arith, k))

-- ---- loans

-- Whatever ends the ticket, the owned connections have one more, which was under test or is new.
abbrev served : {C : Type 0} → Core C → ℕ → OwnedConn → ℕ → ℕ → Core C
served core t h next m = record core { tickets = without_ticket t core.tickets; held = core.held ++ h ∷ []; next_conn = next; last = m }

-- the connection under test is lent
pub sound-served_tested : {C : Type 0} (core : Core C) (t : ℕ) (x : Ticket) (h : OwnedConn) (m : ℕ)
    → IsSound core → IsAmong t x core.tickets → is_out x.phase ≡ true → ((c : ℕ) → is_tested c x.phase ≡ (c == h.conn)) → IsSound (served core t h core.next_conn m)
sound-served_tested core t x h m s is out tested =
    let was : one has_gone x ≡ 1 = ap (λ (b : Bool). cond b 1 0) out in
    let g = count-ended has_gone t x core.tickets is in
    let l : length (core.held ++ h ∷ []) ≡ length core.held + 1 = length-append core.held (h ∷ []) in
    let place : (c : ℕ) → places_of c (without_ticket t core.tickets) (core.held ++ h ∷ []) core.idle ≡ places_of c core.tickets core.held core.idle = λ c.
    let e = count-ended (tests c) t x core.tickets is in
    let p = count-push (holds c) core.held h in
    let k : one (tests c) x ≡ one (holds c) h = ap (λ (b : Bool). cond b 1 0) (tested c) in
    omega (arith, e, p, k) in
    record {
      some = s.some;
      few = s.few;
      tries = s.tries;
      few_tries = s.few_tries;
      rising = rising-filter 1 (is_another_ticket t) core.tickets core.next_ticket s.rising;
      within = let w = s.within in omega (arith, w, g, l, was);
      paid = let w = s.paid in omega (arith, w, g, l, was);
      owns = s.owns;
      own = s.own;
      few_tickets = s.few_tickets;
      numbers = s.numbers;
      once = λ c. let w = s.once c in let p = place c in omega (arith, w, p);
      opened = λ c n. let w = s.opened c n in let p = place c in omega (arith, w, p);
    }

-- a new connection is lent
pub sound-served_new : {C : Type 0} (core : Core C) (t : ℕ) (x : Ticket) (h : OwnedConn) (m : ℕ)
    → IsSound core → IsAmong t x core.tickets → is_out x.phase ≡ true → h.conn ≡ core.next_conn → IsSound (served core t h (core.next_conn + 1) m)
sound-served_new core t x h m s is out new =
    let was : one has_gone x ≡ 1 = ap (λ (b : Bool). cond b 1 0) out in
    let g = count-ended has_gone t x core.tickets is in
    let l : length (core.held ++ h ∷ []) ≡ length core.held + 1 = length-append core.held (h ∷ []) in
    let place : (c : ℕ) → places_of c (without_ticket t core.tickets) (core.held ++ h ∷ []) core.idle ≤ places_of c core.tickets core.held core.idle + one (holds c) h = λ c.
    let e = count-ended (tests c) t x core.tickets is in
    let p = count-push (holds c) core.held h in
    omega (arith, e, p) in
    record {
      some = s.some;
      few = s.few;
      tries = s.tries;
      few_tries = s.few_tries;
      rising = rising-filter 1 (is_another_ticket t) core.tickets core.next_ticket s.rising;
      within = let w = s.within in omega (arith, w, g, l, was);
      paid = let w = s.paid in omega (arith, w, g, l, was);
      owns = s.owns;
      own = s.own;
      few_tickets = s.few_tickets;
      numbers = omega arith;
      once = λ c. let w = s.once c in let p = place c in
          elim (eqb_tells c h.conn) [
            | inl is ↦ let z = s.opened c (omega (arith, is.1, new)) in let o = one-le (holds c) h in omega (arith, z, p, o)
            | inr is ↦ let o : one (holds c) h ≡ 0 = ap (λ (b : Bool). cond b 1 0) is.0 in omega (arith, w, p, o)
          ];
      opened = λ c n. let z = s.opened c (omega (arith, n)) in let p = place c in
          elim (eqb_tells c h.conn) [
            | inl is ↦ absurd (omega (arith, is.1, new, n))
            | inr is ↦ let o : one (holds c) h ≡ 0 = ap (λ (b : Bool). cond b 1 0) is.0 in omega (arith, z, p, o)
          ];
    }

-- to a test of the next idle connection
pub sound-to_next : {C : Type 0} (core : Core C) (t : ℕ) (x : Ticket) (i : Idle C) (rest : List (Idle C)) (m : ℕ)
    → IsSound core → IsAmong t x core.tickets → core.idle ≡ i ∷ rest → is_out x.phase ≡ true → IsSound (changed core t (to_next i) rest m)
sound-to_next core t x i rest m s is first out =
    let n : length core.idle ≡ length (i ∷ rest) = ap length first in
    let w = s.within in
    let p = s.paid in
    let was : one has_gone x ≡ 1 = ap (λ (b : Bool). cond b 1 0) out in
    sound-changed core t x (to_next i) rest m s is refl (omega (arith, n, w, was)) (omega (arith, p, was))
    (λ c. let e = ap (count_by (rests c)) first ∙ count-cons (rests c) i rest in omega (arith, e))

-- what callers know of the numbers
pub numbered : {C : Type 0} {core : Core C} → IsSound core → IsNumbered core
numbered sound = record { rising = sound.rising; once = sound.once; opened = sound.opened; tries = sound.tries }
