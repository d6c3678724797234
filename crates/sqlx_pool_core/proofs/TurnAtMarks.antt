-- The counts and the turn of a core are those of the marks that it stands for.
use Rattle.std.proofs.Common.{◌≡◌, ℕ, ◌+◌, ◌-◌, Bool, true, false, cond, not, ◌==◌, List, [], ◌∷◌, map, length, take_while, option_map, Option, Some, None, nat_le, nat_lt, refl, sym, ap, ◌∙◌, arith}
use Rattle.std.specs.List.{list_any}
use Rattle.std.proofs.lemmas.Bool.{eqb-true, and_parts}
use Rattle.std.proofs.lemmas.List.Sums.{take_while-cons}
use Rattle.sqlx_pool_marks.specs.declared.mark.Mark.{Mark}
use Rattle.sqlx_pool_lists.specs.declared.ticket.Ticket.{Ticket}
use Rattle.sqlx_pool_marks.specs.declared.turn.Turn.{Turn}
use Rattle.sqlx_pool_marks.specs.declared.turn.Turn.TheVariants as turned
use Rattle.sqlx_pool_marks.specs.Marks.{PendingTicket, tickets_of, loans_of, idle_of, leaked_of, is_shut, next_conn}
use Rattle.sqlx_pool_marks.specs.Counts.{has_left, is_waiting, left_in, waiting_in, before_in, asked_in, is_asked_by, free_of}
use Rattle.sqlx_pool_marks.specs.View.{view_of, free as free_in, size as size_in, waiting as waiting_at}
use Rattle.sqlx_pool_lists.specs.Core.{Core, asking, loan, resting, is_out, is_of, gone, waiting, free, size, ticket_of}
use Rattle.sqlx_pool_marks.specs.PollTable.{first_idle, numbered, turn_at_rest, is_first_at, turn, turn_of as turn_of_asked}
use Rattle.sqlx_pool_lists.specs.PollTable.{is_at_rest, backs_off_until, phase_turn}
use Rattle.sqlx_pool_lists.specs.CoreTurn.{before, is_first_in_line, turn_of, core_turn}
use Rattle.sqlx_pool_lists.specs.PollSteps.{phase_for}
use Rattle.sqlx_pool_lists.specs.StandsFor.{StandsIn, StandsFor}
use Rattle.sqlx_pool_marks.proofs.ListFacts.{count_by-map, length_map, find-map, found_passes}
use Rattle.sqlx_pool_core.proofs.Stands.{stands-in}

-- ---- counts

pub left-asking : (tickets : List Ticket) → gone tickets ≡ left_in (map asking tickets)
left-asking tickets = sym (count_by-map asking has_left tickets)

pub waiting-asking : (tickets : List Ticket) → waiting tickets ≡ waiting_in (map asking tickets)
waiting-asking tickets = sym (count_by-map asking is_waiting tickets)

module _ {C : Type 0} (core : Core C) (marks : List Mark) (s : StandsIn core marks) where
  pub gone-stands : gone core.tickets ≡ left_in (tickets_of marks)
  gone-stands = left-asking core.tickets ∙ ap left_in s.tickets

  pub waiting-stands : waiting core.tickets ≡ waiting_at (view_of marks)
  waiting-stands = waiting-asking core.tickets ∙ ap waiting_in s.tickets

  pub owned-stands : length core.held ≡ length (loans_of marks)
  owned-stands = sym (length_map loan core.held) ∙ ap length s.loans

  pub idle-stands : length core.idle ≡ length (idle_of marks)
  idle-stands = sym (length_map resting core.idle) ∙ ap length s.idle

  pub free-stands : free core ≡ free_of core.permits (length (loans_of marks)) (leaked_of marks) (left_in (tickets_of marks)) core.places
  free-stands = λ i. free_of core.permits (owned-stands i) (s.leaked i) (gone-stands i) core.places

  -- the permits that places for the minimum have are free to the marks
  pub free-places : free core ≡ free_in core.permits (view_of marks) - core.places
  free-places = free-stands ∙ omega arith

  pub size-stands : size core ≡ size_in (view_of marks) + core.places
  size-stands = (λ i. idle-stands i + owned-stands i + s.leaked i + gone-stands i + core.places)

take_while-map : {X Y : Type 0} (f : X → Y) (p : Y → Bool) (xs : List X) → take_while p (map f xs) ≡ map f (take_while (λ x. p (f x)) xs)
take_while-map f p [] = refl
take_while-map f p (x ∷ xs) =
    take_while-cons p (f x) (map f xs) ∙ ap (λ l. cond (p (f x)) (f x ∷ l) []) (take_while-map f p xs) ∙ by (p (f x))
    ∙ ap (map f) (sym (take_while-cons (λ x. p (f x)) x xs))
  where
    by : (b : Bool) → cond b (f x ∷ map f (take_while (λ x. p (f x)) xs)) [] ≡ map f (cond b (x ∷ take_while (λ x. p (f x)) xs) [])
    by true = refl
    by false = refl

pub before-asking : (t : ℕ) (tickets : List Ticket) → before t tickets ≡ before_in t (map asking tickets)
before-asking t tickets = waiting-asking (take_while (λ (x : Ticket). not (t == x.number)) tickets) ∙ ap waiting_in (sym (take_while-map asking (λ (a : PendingTicket). not (t == a.ticket)) tickets))

-- ---- the turn

first_idle-map : {X Y : Type 0} (f : X → Y) (idle : List X) → first_idle idle ≡ first_idle (map f idle)
first_idle-map f [] = refl
first_idle-map f (x ∷ rest) = refl

at_rest-map : {X Y : Type 0} (f : X → Y) (moment : ℕ) (entitled shut : Bool) (conn : ℕ) (idle : List X) (deadline : ℕ) (left : Bool) (until : ℕ)
    → turn_at_rest moment entitled shut conn idle deadline left until ≡ turn_at_rest moment entitled shut conn (map f idle) deadline left until
at_rest-map f moment entitled shut conn idle deadline left until =
    ap (λ (t : Turn). cond shut turned.Closed (cond (nat_le deadline moment) turned.TimedOut (cond left (cond (nat_lt moment until) (turned.Backoff until) (numbered conn turned.Connect)) (cond entitled (numbered conn t) turned.Waiting))))
    (first_idle-map f idle)

module _ {C : Type 0} (core : Core C) (marks : List Mark) (s : StandsFor core marks) (k t moment : ℕ) where
  own-free : free core ≡ free_of core.options.max_connections (length (loans_of marks)) (leaked_of marks) (left_in (tickets_of marks)) core.places
  own-free = free-stands core marks (stands-in core marks s) ∙ ap (λ (n : ℕ). free_of n (length (loans_of marks)) (leaked_of marks) (left_in (tickets_of marks)) core.places) s.permits

  -- who is first in the core's own line is so by its marks
  first-stands : is_first_in_line t core ≡ is_first_at core.options.max_connections core.places marks t
  first-stands = λ i. nat_lt ((before-asking t core.tickets ∙ ap (before_in t) s.tickets) i) (own-free i)

  asked-is : (x : Ticket) → ticket_of k t core.tickets ≡ Some x → asked_in k t (tickets_of marks) ≡ Some (asking x)
  asked-is x e = ap (asked_in k t) (sym s.tickets) ∙ find-map asking (is_asked_by k t) core.tickets ∙ ap (option_map asking) e

  number-is : (x : Ticket) → ticket_of k t core.tickets ≡ Some x → t ≡ x.number
  number-is x e = eqb-true t x.number (and_parts (t == x.number) (k == x.client) (found_passes (is_of k t) core.tickets x e)).0

  rests-at : (x : Ticket) → ticket_of k t core.tickets ≡ Some x
      → turn_at_rest moment (is_first_in_line t core) core.shut core.next_conn core.idle x.deadline (is_out x.phase) (backs_off_until x.phase)
      ≡ turn core.options.max_connections core.places marks k t moment (backs_off_until x.phase)
  rests-at x e =
      at_rest-map resting moment (is_first_in_line t core) core.shut core.next_conn core.idle x.deadline (is_out x.phase) (backs_off_until x.phase)
      ∙ (λ i. turn_at_rest moment (first-stands i) (s.shut i) (s.conn_number i) (s.idle i) x.deadline (is_out x.phase) (backs_off_until x.phase))
      ∙ ap (λ (n : ℕ). turn_at_rest moment (is_first_at core.options.max_connections core.places marks n) (list_any is_shut marks) (next_conn marks) (idle_of marks) x.deadline (is_out x.phase) (backs_off_until x.phase)) (number-is x e)
      ∙ sym (ap (turn_of_asked core.options.max_connections core.places marks moment (backs_off_until x.phase)) (asked-is x e))

  turn-found : (o : Option Ticket) → ticket_of k t core.tickets ≡ o
      → turn_of (is_first_in_line t core) core.shut moment core o ≡ phase_turn core.options.max_connections core.places marks k t moment (option_map (λ (x : Ticket). x.phase) o)
  turn-found None e = refl
  turn-found (Some x) e = ap (λ (w : Turn). cond (is_at_rest x.phase) w turned.NotHeld) (rests-at x e)

  -- the turn that a core finds is the turn over its marks
  pub core_turn-stands : core_turn core k t moment ≡ phase_turn core.options.max_connections core.places marks k t moment (phase_for k t core.tickets)
  core_turn-stands = turn-found (ticket_of k t core.tickets) refl
