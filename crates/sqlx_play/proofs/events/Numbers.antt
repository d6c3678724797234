-- What is found in a core, by what callers know of its numbers: a ticket is the only one of its number, and a connection is at one place.
use Rattle.std.proofs.Common.{◌≡◌, ℕ, ◌≤◌, ◌<◌, ◌⊎◌, ◌==◌, Some, count_by, inl, inr, arith}
use Rattle.std.proofs.lemmas.Bool.{eqb-true, and_parts, cases_lt}
use Rattle.sqlx_pool_lists.specs.declared.ticket.Ticket.{Ticket}
use Rattle.sqlx_pool_lists.specs.declared.ticket.OwnedConn.{OwnedConn}
use Rattle.sqlx_pool_lists.specs.Core.{Core, is_of, ticket_of, is_held_by, loan_of}
use Rattle.sqlx_pool_lists.specs.Sound.{IsNumbered, tests, holds, rests, places_of}
use Rattle.sqlx_pool_core.proofs.Known.{IsOnly, ticket-number, ticket-only, rising_below}
use Rattle.sqlx_pool_marks.proofs.ListFacts.{found_passes, found_All, found_counts}

module _ {C : Type 0} (core : Core C) (sound : IsNumbered core) where
  pub ticket-below : (k t : ℕ) (x : Ticket) → ticket_of k t core.tickets ≡ Some x → t < core.next_ticket
  ticket-below k t x e =
      let lt : x.number < core.next_ticket = found_All (is_of k t) (λ (y : Ticket). y.number < core.next_ticket) core.tickets x e (rising_below 1 core.tickets core.next_ticket sound.rising) in
      let same : t ≡ x.number = ticket-number k t core.tickets x e in
      omega arith

  pub ticket-is_only : (k t : ℕ) (x : Ticket) → ticket_of k t core.tickets ≡ Some x → IsOnly t x core.tickets
  ticket-is_only k t x e = ticket-only 1 core.next_ticket k t core.tickets x sound.rising e

  -- a connection that is somewhere has a number below the next
  conn-below : (c : ℕ) → 1 ≤ places_of c core.tickets core.held core.idle → c < core.next_conn
  conn-below c some = below (cases_lt c core.next_conn)
    where
      below : (c < core.next_conn) ⊎ (core.next_conn ≤ c) → c < core.next_conn
      below (inl lt) = lt
      below (inr le) = let none = sound.opened c le in absurd (omega (arith, none))

  -- what is owned is neither under test nor idle
  pub record IsOwned (k c : ℕ) (h : OwnedConn) : Type 0 where
    pub conn : c ≡ h.conn
    pub client : k ≡ h.client
    pub owned : count_by (holds c) core.held ≡ 1
    pub untested : count_by (tests c) core.tickets ≡ 0
    pub restless : count_by (rests c) core.idle ≡ 0
    pub below : c < core.next_conn

  pub loan-found : (k c : ℕ) (h : OwnedConn) → loan_of k c core.held ≡ Some h → IsOwned k c h
  loan-found k c h e =
      let both = and_parts (c == h.conn) (k == h.client) (found_passes (is_held_by k c) core.held h e) in
      let some : 1 ≤ count_by (holds c) core.held = found_counts (is_held_by k c) (holds c) core.held h e both.0 in
      let once = sound.once c in
      record {
        conn = eqb-true c h.conn both.0;
        client = eqb-true k h.client both.1;
        owned = omega (arith, once, some);
        untested = omega (arith, once, some);
        restless = omega (arith, once, some);
        below = conn-below c (omega (arith, some));
      }

  -- what is idle is neither owned nor under test
  pub record IsIdle (c : ℕ) : Type 0 where
    pub idle : count_by (rests c) core.idle ≡ 1
    pub untested : count_by (tests c) core.tickets ≡ 0
    pub unowned : count_by (holds c) core.held ≡ 0
    pub below : c < core.next_conn

  pub idle-found : (c : ℕ) → 1 ≤ count_by (rests c) core.idle → IsIdle c
  idle-found c some =
      let once = sound.once c in
      record {
        idle = omega (arith, once, some);
        untested = omega (arith, once, some);
        unowned = omega (arith, once, some);
        below = conn-below c (omega (arith, some));
      }
