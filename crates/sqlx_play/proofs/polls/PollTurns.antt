-- What is known of a ticket whose poll comes to a test or to a connect.
use Rattle.std.proofs.Common.{◌≡◌, ℕ, ◌^◌, Bool, true, false, cond, List, [], ◌∷◌, Option, Some, None, option_map, nat_le, nat_lt, refl, sym, ap, ◌∙◌, inl, inr, ◌⊎◌}
use Rattle.sqlx_pool_lists.specs.declared.ticket.Ticket.{Ticket}
use Rattle.sqlx_pool_lists.specs.declared.ticket.Phase.{Phase}
use Rattle.sqlx_pool_lists.specs.declared.ticket.Phase.TheVariants as phase
use Rattle.sqlx_pool_lists.specs.declared.steps.Idle.{Idle}
use Rattle.sqlx_pool_lists.specs.declared.steps.Start.TheVariants as start
use Rattle.sqlx_pool_marks.specs.declared.turn.Turn.{Turn}
use Rattle.sqlx_pool_marks.specs.declared.turn.Turn.TheVariants as turn
use Rattle.sqlx_pool_lists.specs.Core.{Core, is_out, ticket_of}
use Rattle.sqlx_pool_marks.specs.PollTable.{first_idle, in_time}
use Rattle.sqlx_pool_lists.specs.PollTable.{is_at_rest, backs_off_until}
use Rattle.sqlx_pool_lists.specs.CoreTurn.{core_turn, turn_of, is_first_in_line}
use Rattle.sqlx_pool_lists.specs.PollSteps.{start_answer, phase_for, tested_at}
use Rattle.sqlx_pool_lists.specs.Edits.{with_ticket, to_test, to_try, to_try_at, to_connect}
use Rattle.sqlx_pool_core.proofs.TurnCases.{ConnectsFirst, ConnectsAgain, turn-test, turn-connect}
use Rattle.sqlx_pool_core.proofs.Known.{KeepsOwner, ticket-changed}
use Rattle.sqlx_pool_marks.proofs.ListFacts.{same_number}

-- The first idle connection is tested for a ticket that waits.
pub record AtTest {C : Type 0} (core : Core C) (k t : ℕ) (i : Idle C) : Type 0 where
  pub x : Ticket
  pub found : ticket_of k t core.tickets ≡ Some x
  pub waits : x.phase ≡ phase.Waiting
  pub rest : List (Idle C)
  pub idle : core.idle ≡ i ∷ rest
  pub is_open : core.shut ≡ false

-- the ticket's next try is due
pub record IsDue (m : ℕ) (x : Ticket) : Type 0 where
  pub until : ℕ
  pub backs_off : x.phase ≡ phase.Backoff until
  pub due : nat_lt m until ≡ false

-- A ticket connects: it waits and no connection is idle, or its next try is due.
pub record AtConnect {C : Type 0} (core : Core C) (k t m : ℕ) : Type 0 where
  pub x : Ticket
  pub found : ticket_of k t core.tickets ≡ Some x
  pub ways : ((x.phase ≡ phase.Waiting) × (core.idle ≡ [])) ⊎ IsDue m x
  pub is_open : core.shut ≡ false

open_of : (a shut : Bool) (z w : Turn) → cond a (cond shut turn.Closed z) turn.NotHeld ≡ w → (turn.Closed ≡ w → ⊥) → (turn.NotHeld ≡ w → ⊥) → shut ≡ false
open_of true true z w e f g = absurd (f e)
open_of true false z w e f g = refl
open_of false shut z w e f g = absurd (g e)

due_of : (a shut le lt : Bool) (u : ℕ) (z : Turn) → cond a (cond shut turn.Closed (cond le turn.TimedOut (cond lt (turn.Backoff u) z))) turn.NotHeld ≡ turn.Connect → lt ≡ false
due_of true true le lt u z e = absurd cc
due_of true false true lt u z e = absurd cc
due_of true false false true u z e = absurd cc
due_of true false false false u z e = refl
due_of false shut le lt u z e = absurd cc

module _ {C : Type 0} (core : Core C) (k t m : ℕ) where
  -- the ticket is entitled by its line
  abbrev q : Bool
  q = is_first_in_line t core

  pub at-test : (i : Idle C) → start.Test i ≡ start_answer (core_turn core k t m) core.idle → AtTest core k t i
  at-test i own = by (ticket_of k t core.tickets) refl own
    where
      turned : (x : Ticket) → ticket_of k t core.tickets ≡ Some x → (w : Turn) → turn_of q core.shut m core (Some x) ≡ w → start.Test i ≡ start_answer w core.idle → AtTest core k t i
      turned x found turn.Test is e =
          let tests = turn-test q core.shut core m x is in
          let first : start.Test i ≡ start.Test tests.first = e ∙ ap (start_answer turn.Test) tests.idle in
          let same : i ≡ tests.first = cc in
          record {
            x = x;
            found = found;
            waits = tests.leaves.waits;
            rest = tests.rest;
            idle = tests.idle ∙ ap (λ (j : Idle C). j ∷ tests.rest) (sym same);
            is_open = open_of (is_at_rest x.phase) core.shut _ turn.Test is (λ h. cc) (λ h. cc);
          }
      turned x found turn.NotHeld is e = absurd cc
      turned x found turn.Closed is e = absurd cc
      turned x found turn.TimedOut is e = absurd cc
      turned x found turn.Exhausted is e = absurd cc
      turned x found turn.Waiting is e = absurd cc
      turned x found (turn.Backoff until) is e = absurd cc
      turned x found turn.Connect is e = absurd cc

      by : (o : Option Ticket) → ticket_of k t core.tickets ≡ o → start.Test i ≡ start_answer (turn_of q core.shut m core o) core.idle → AtTest core k t i
      by None found e = absurd cc
      by (Some x) found e = turned x found (turn_of q core.shut m core (Some x)) refl e

  pub at-connect : start.Connect ≡ start_answer (core_turn core k t m) core.idle → AtConnect core k t m
  at-connect own = by (ticket_of k t core.tickets) refl own
    where
      ways_of : (x : Ticket) → turn_of q core.shut m core (Some x) ≡ turn.Connect → (ConnectsFirst q core x ⊎ ConnectsAgain core x) → ((x.phase ≡ phase.Waiting) × (core.idle ≡ [])) ⊎ IsDue m x
      ways_of x is (inl first) = inl (first.leaves.waits, first.none)
      ways_of x is (inr again) = inr (record {
        until = again.until;
        backs_off = again.backs_off;
        due = due_of true core.shut (nat_le x.deadline m) (nat_lt m again.until) again.until _
            (sym (ap (λ (p : Phase). cond (is_at_rest p) (cond core.shut turn.Closed (cond (nat_le x.deadline m) turn.TimedOut (in_time m q core.next_conn core.idle (is_out p) (backs_off_until p)))) turn.NotHeld) again.backs_off) ∙ is);
      })

      connects : (x : Ticket) → ticket_of k t core.tickets ≡ Some x → turn_of q core.shut m core (Some x) ≡ turn.Connect → AtConnect core k t m
      connects x found is = record {
        x = x;
        found = found;
        ways = ways_of x is (turn-connect q core.shut core m x is);
        is_open = open_of (is_at_rest x.phase) core.shut _ turn.Connect is (λ h. cc) (λ h. cc);
      }

      turned : (x : Ticket) → ticket_of k t core.tickets ≡ Some x → (w : Turn) → turn_of q core.shut m core (Some x) ≡ w → start.Connect ≡ start_answer w core.idle → AtConnect core k t m
      turned x found turn.Connect is e = connects x found is
      turned x found turn.Test is e =
          let tests = turn-test q core.shut core m x is in
          let first : start.Connect ≡ start.Test tests.first = e ∙ ap (start_answer turn.Test) tests.idle in
          absurd cc
      turned x found turn.NotHeld is e = absurd cc
      turned x found turn.Closed is e = absurd cc
      turned x found turn.TimedOut is e = absurd cc
      turned x found turn.Exhausted is e = absurd cc
      turned x found turn.Waiting is e = absurd cc
      turned x found (turn.Backoff until) is e = absurd cc

      by : (o : Option Ticket) → ticket_of k t core.tickets ≡ o → start.Connect ≡ start_answer (turn_of q core.shut m core o) core.idle → AtConnect core k t m
      by None found e = absurd cc
      by (Some x) found e = turned x found (turn_of q core.shut m core (Some x)) refl e

-- The ticket's next try isn't due yet.
pub record AtBackoff {C : Type 0} (core : Core C) (k t m until : ℕ) : Type 0 where
  pub x : Ticket
  pub found : ticket_of k t core.tickets ≡ Some x
  pub backs_off : x.phase ≡ phase.Backoff until
  pub early : nat_lt m until ≡ true

early_of : (sh le lt ex : Bool) (v u : ℕ) → cond sh turn.Closed (cond le turn.TimedOut (cond lt (turn.Backoff v) (cond ex turn.Exhausted turn.Connect))) ≡ turn.Backoff u → (lt ≡ true) × (v ≡ u)
early_of true le lt ex v u e = absurd cc
early_of false true lt ex v u e = absurd cc
early_of false false true ex v u e = (refl, cc)
early_of false false false true v u e = absurd cc
early_of false false false false v u e = absurd cc

none_waiting : {X : Type 0} (sh le q ex : Bool) (idle : List X) (u : ℕ) → cond sh turn.Closed (cond le turn.TimedOut (cond q (cond ex turn.Exhausted (first_idle idle)) turn.Waiting)) ≡ turn.Backoff u → ⊥
none_waiting true le q ex idle u e = cc
none_waiting false true q ex idle u e = cc
none_waiting false false false ex idle u e = cc
none_waiting false false true true idle u e = cc
none_waiting false false true false [] u e = cc
none_waiting false false true false (i ∷ rest) u e = cc

module _ {C : Type 0} (core : Core C) (k t m : ℕ) where
  abbrev line : Bool
  line = is_first_in_line t core

  turn_by : Ticket → Phase → Turn
  turn_by x p = cond (is_at_rest p) (cond core.shut turn.Closed (cond (nat_le x.deadline m) turn.TimedOut (in_time m line core.next_conn core.idle (is_out p) (backs_off_until p)))) turn.NotHeld

  waits_early : (x : Ticket) (u : ℕ) → ticket_of k t core.tickets ≡ Some x → (p : Phase) → x.phase ≡ p → turn_by x p ≡ turn.Backoff u → AtBackoff core k t m u
  unfolding turn_by
  waits_early x u found phase.Waiting is e = absurd (none_waiting core.shut (nat_le x.deadline m) line (nat_lt (2 ^ 63) core.next_conn) core.idle u e)
  waits_early x u found (phase.Testing c created before) is e = absurd cc
  waits_early x u found phase.Connecting is e = absurd cc
  waits_early x u found (phase.Backoff v) is e =
      let known = early_of core.shut (nat_le x.deadline m) (nat_lt m v) (nat_lt (2 ^ 63) core.next_conn) v u e in
      record { x = x; found = found; backs_off = is ∙ ap (λ (n : ℕ). phase.Backoff n) known.1; early = ap (λ (n : ℕ). nat_lt m n) (sym known.1) ∙ known.0 }

  pub at-backoff : (until : ℕ) → start.Backoff until ≡ start_answer (core_turn core k t m) core.idle → AtBackoff core k t m until
  unfolding turn_by
  at-backoff until own = by (ticket_of k t core.tickets) refl own
    where
      turned : (x : Ticket) → ticket_of k t core.tickets ≡ Some x → (w : Turn) → turn_of line core.shut m core (Some x) ≡ w → start.Backoff until ≡ start_answer w core.idle → AtBackoff core k t m until
      turned x found (turn.Backoff u) is e =
          let same : u ≡ until = cc in
          waits_early x until found x.phase refl (is ∙ ap (λ (n : ℕ). turn.Backoff n) same)
      turned x found turn.Test is e =
          let tests = turn-test line core.shut core m x is in
          let first : start.Backoff until ≡ start.Test tests.first = e ∙ ap (start_answer turn.Test) tests.idle in
          absurd cc
      turned x found turn.Connect is e = absurd cc
      turned x found turn.NotHeld is e = absurd cc
      turned x found turn.Closed is e = absurd cc
      turned x found turn.TimedOut is e = absurd cc
      turned x found turn.Exhausted is e = absurd cc
      turned x found turn.Waiting is e = absurd cc

      by : (o : Option Ticket) → ticket_of k t core.tickets ≡ o → start.Backoff until ≡ start_answer (turn_of line core.shut m core o) core.idle → AtBackoff core k t m until
      by None found e = absurd cc
      by (Some x) found e = turned x found (turn_of line core.shut m core (Some x)) refl e

-- ---- the phase of the ticket

keeps-test : {C : Type 0} (m : ℕ) (i : Idle C) → KeepsOwner (to_test m i)
keeps-test m i x = (refl, refl)

keeps-connect : KeepsOwner to_connect
keeps-connect x = (refl, refl)

pub keeps-try : (m : ℕ) → KeepsOwner (to_try m)
keeps-try m x = by x.phase
  where
    by : (p : Phase) → ((to_try_at m p x).number ≡ x.number) × ((to_try_at m p x).client ≡ x.client)
    by phase.Waiting = (refl, refl)
    by (phase.Testing c created before) = (refl, refl)
    by phase.Connecting = (refl, refl)
    by (phase.Backoff until) = (refl, refl)

tries_phase : (m : ℕ) (x : Ticket) → (to_try m x).phase ≡ phase.Connecting
tries_phase m x = by x.phase
  where
    by : (p : Phase) → (to_try_at m p x).phase ≡ phase.Connecting
    by phase.Waiting = refl
    by (phase.Testing c created before) = refl
    by phase.Connecting = refl
    by (phase.Backoff until) = refl

-- the ticket is found as it was changed
pub found-test : {C : Type 0} (k t m : ℕ) (i : Idle C) (tickets : List Ticket) (x : Ticket) → ticket_of k t tickets ≡ Some x → ticket_of k t (with_ticket t (to_test m i) tickets) ≡ Some (to_test m i x)
found-test k t m i tickets x found = ticket-changed k t (to_test m i) tickets x (keeps-test m i) found

pub found-refused : {C : Type 0} (k t m : ℕ) (i : Idle C) (tickets : List Ticket) (x : Ticket) → ticket_of k t tickets ≡ Some x → ticket_of k t (with_ticket t to_connect (with_ticket t (to_test m i) tickets)) ≡ Some (to_connect (to_test m i x))
found-refused k t m i tickets x found = ticket-changed k t to_connect (with_ticket t (to_test m i) tickets) (to_test m i x) keeps-connect (found-test k t m i tickets x found)

pub found-try : (k t m : ℕ) (tickets : List Ticket) (x : Ticket) → ticket_of k t tickets ≡ Some x → ticket_of k t (with_ticket t (to_try m) tickets) ≡ Some (to_try m x)
found-try k t m tickets x found = ticket-changed k t (to_try m) tickets x (keeps-try m) found

pub is-tested : {C : Type 0} (k t m : ℕ) (i : Idle C) (tickets : List Ticket) (x : Ticket) → ticket_of k t tickets ≡ Some x → tested_at i.lent.id (phase_for k t (with_ticket t (to_test m i) tickets)) ≡ Some i.lent.created
is-tested k t m i tickets x found =
    ap (λ (o : Option Ticket). tested_at i.lent.id (option_map (λ (y : Ticket). y.phase) o)) (found-test k t m i tickets x found)
    ∙ ap (λ (b : Bool). cond b (Some i.lent.created) None) (same_number i.lent.id)

pub is-refused : {C : Type 0} (k t m : ℕ) (i : Idle C) (tickets : List Ticket) (x : Ticket) → ticket_of k t tickets ≡ Some x → phase_for k t (with_ticket t to_connect (with_ticket t (to_test m i) tickets)) ≡ Some phase.Connecting
is-refused k t m i tickets x found = ap (option_map (λ (y : Ticket). y.phase)) (found-refused k t m i tickets x found)

pub is-trying : (k t m : ℕ) (tickets : List Ticket) (x : Ticket) → ticket_of k t tickets ≡ Some x → phase_for k t (with_ticket t (to_try m) tickets) ≡ Some phase.Connecting
is-trying k t m tickets x found = ap (option_map (λ (y : Ticket). y.phase)) (found-try k t m tickets x found) ∙ ap Some (tries_phase m x)

-- The ticket that has this phase.
pub record InPhase (k t : ℕ) (tickets : List Ticket) (p : Phase) : Type 0 where
  pub x : Ticket
  pub found : ticket_of k t tickets ≡ Some x
  pub phase_is : x.phase ≡ p

pub in-phase : (k t : ℕ) (tickets : List Ticket) (p : Phase) → phase_for k t tickets ≡ Some p → InPhase k t tickets p
in-phase k t tickets p e = by (ticket_of k t tickets) refl e
  where
    by : (o : Option Ticket) → ticket_of k t tickets ≡ o → option_map (λ (y : Ticket). y.phase) o ≡ Some p → InPhase k t tickets p
    by None found e = absurd cc
    by (Some x) found e = let same : x.phase ≡ p = cc in record { x = x; found = found; phase_is = same }
