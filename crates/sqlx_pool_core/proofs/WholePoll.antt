-- What a whole poll comes to, from what each of its steps came to.
use Rattle.std.proofs.Common.{◌≡◌, ℕ, Bool, true, false, ◌&&◌, ◌==◌, cond, List, [], ◌∷◌, Option, Some, None, option_map, refl, sym, ap, ◌∙◌, ◌⊎◌, inl, inr, if◌then◌else◌, nat_le}
use Rattle.sqlx_pool_lists.specs.declared.ticket.Ticket.{Ticket}
use Rattle.sqlx_pool_lists.specs.declared.ticket.Phase.{Phase}
use Rattle.sqlx_pool_lists.specs.declared.ticket.Phase.TheVariants as phase
use Rattle.sqlx_pool_lists.specs.declared.steps.Tried.{Tried}
use Rattle.sqlx_pool_lists.specs.declared.steps.Tried.TheVariants as tried
use Rattle.sqlx_pool_lists.specs.Core.{Core, is_of, is_out, ticket_of}
use Rattle.sqlx_pool_marks.specs.declared.turn.Turn.{Turn}
use Rattle.sqlx_pool_marks.specs.declared.turn.Turn.TheVariants as turn
use Rattle.sqlx_pool_lists.specs.declared.steps.Idle.{Idle}
use Rattle.sqlx_pool_lists.specs.declared.steps.Start.TheVariants as start
use Rattle.sqlx_pool_lists.specs.CoreTurn.{is_first_in_line, turn_of, core_turn}
use Rattle.sqlx_pool_marks.specs.PollTable.{in_time}
use Rattle.sqlx_pool_lists.specs.PollTable.{is_at_rest, backs_off_until}
use Rattle.sqlx_pool_core.proofs.TurnCases.{unless_first, turn-test}
use Rattle.sqlx_pool_lists.specs.Edits.{with_ticket, to_test, to_try, to_try_at, to_connect}
use Rattle.sqlx_pool_lists.specs.PollSteps.{start_answer, started, connect_answer, try_answer_at, phase_for}
use Rattle.sqlx_pool_core.specs.PollParts.{untested, next_try_at, tried_answer}

-- ---- a ticket that connects

open_answer : {C : Type 0} (x : Ticket) (n m : ℕ) (tried : Tried C) → try_answer_at phase.Connecting x false n m tried ≡ tried_answer n m (next_try_at m (Some x)) tried
open_answer x n m (tried.Opened raw) = refl
open_answer x n m tried.Rejected = refl
open_answer x n m tried.Transient = refl
open_answer x n m tried.Fatal = refl

connecting_at : {C : Type 0} (p : Phase) (shut : Bool) (x : Ticket) (n m : ℕ) (tried : Tried C) → p ≡ phase.Connecting → shut ≡ false
    → try_answer_at p x shut n m tried ≡ tried_answer n m (next_try_at m (Some x)) tried
connecting_at p shut x n m tried e open_is = rw (e, open_is) (open_answer x n m tried)

-- the answer of the last step, where the ticket connects and the pool is open
pub connecting-answer : {C : Type 0} (o : Option Ticket) (shut : Bool) (n m : ℕ) (tried : Tried C) → option_map (λ (x : Ticket). x.phase) o ≡ Some phase.Connecting → shut ≡ false
    → connect_answer o shut n m tried ≡ tried_answer n m (next_try_at m o) tried
connecting-answer None shut n m tried e open_is = absurd cc
connecting-answer (Some x) shut n m tried e open_is = let p : x.phase ≡ phase.Connecting = cc in connecting_at x.phase shut x n m tried p open_is

-- ---- the ticket in each phase of its poll

unless_last : (b : Bool) (a z w : Turn) → (if b then a else z) ≡ w → (z ≡ w → ⊥) → (b ≡ true) × (a ≡ w)
unless_last true a z w e other = (refl, e)
unless_last false a z w e other = absurd (other e)

-- a turn that is neither of a closed pool nor of a ticket that isn't held is of an open pool
open_turn : {C : Type 0} (q : Bool) (core : Core C) (m : ℕ) (x : Ticket) (w : Turn) → turn_of q core.shut m core (Some x) ≡ w → (turn.NotHeld ≡ w → ⊥) → (turn.Closed ≡ w → ⊥) → core.shut ≡ false
open_turn q core m x w e held closed =
    let rest = unless_last (is_at_rest x.phase) (if core.shut then turn.Closed else (if nat_le x.deadline m then turn.TimedOut else in_time m q core.next_conn core.idle (is_out x.phase) (backs_off_until x.phase))) turn.NotHeld w e held in
    (unless_first core.shut turn.Closed (if nat_le x.deadline m then turn.TimedOut else in_time m q core.next_conn core.idle (is_out x.phase) (backs_off_until x.phase)) w rest.1 closed).0

-- A ticket that waits takes the first idle connection.
pub record Takes {C : Type 0} (core : Core C) (k t m : ℕ) (i : Idle C) : Type 0 where
  pub x : Ticket
  pub found : ticket_of k t core.tickets ≡ Some x
  pub tests : core_turn core k t m ≡ turn.Test
  pub waits : x.phase ≡ phase.Waiting
  pub rest : List (Idle C)
  pub idle : core.idle ≡ i ∷ rest
  pub open_is : core.shut ≡ false

-- A ticket connects.
pub record Tries {C : Type 0} (core : Core C) (k t m : ℕ) : Type 0 where
  pub x : Ticket
  pub found : ticket_of k t core.tickets ≡ Some x
  pub connects : core_turn core k t m ≡ turn.Connect
  pub open_is : core.shut ≡ false

test_turn : {C : Type 0} (i : Idle C) (w : Turn) (idle : List (Idle C)) → start.Test i ≡ start_answer w idle → (w ≡ turn.Test) × ((rest : List (Idle C)) × (idle ≡ i ∷ rest))
test_turn i turn.Test (j ∷ rest) e = let same : j ≡ i = cc in (refl, (rest, ap (λ (y : Idle _). y ∷ rest) same))
test_turn i turn.Test [] e = absurd cc
test_turn i turn.NotHeld idle e = absurd cc
test_turn i turn.Closed idle e = absurd cc
test_turn i turn.TimedOut idle e = absurd cc
test_turn i turn.Exhausted idle e = absurd cc
test_turn i turn.Waiting idle e = absurd cc
test_turn i (turn.Backoff until) idle e = absurd cc
test_turn i turn.Connect idle e = absurd cc

connect_turn : {C : Type 0} (w : Turn) (idle : List (Idle C)) → start.Connect ≡ start_answer w idle → (w ≡ turn.Connect) ⊎ ((w ≡ turn.Test) × (idle ≡ []))
connect_turn turn.Connect idle e = inl refl
connect_turn turn.Test [] e = inr (refl, refl)
connect_turn turn.Test (j ∷ rest) e = absurd cc
connect_turn turn.NotHeld idle e = absurd cc
connect_turn turn.Closed idle e = absurd cc
connect_turn turn.TimedOut idle e = absurd cc
connect_turn turn.Exhausted idle e = absurd cc
connect_turn turn.Waiting idle e = absurd cc
connect_turn (turn.Backoff until) idle e = absurd cc

takes_at : {C : Type 0} (core : Core C) (k t m : ℕ) (i : Idle C) (o : Option Ticket) → ticket_of k t core.tickets ≡ o → turn_of (is_first_in_line t core) core.shut m core o ≡ turn.Test
    → (rest : List (Idle C)) → core.idle ≡ i ∷ rest → Takes core k t m i
takes_at core k t m i None found e rest idle = absurd cc
takes_at core k t m i (Some x) found e rest idle = record {
  x = x;
  found = found;
  tests = ap (turn_of (is_first_in_line t core) core.shut m core) found ∙ e;
  waits = (turn-test (is_first_in_line t core) core.shut core m x e).leaves.waits;
  rest = rest;
  idle = idle;
  open_is = open_turn (is_first_in_line t core) core m x turn.Test e (λ q. cc) (λ q. cc);
}

pub takes : {C : Type 0} (core : Core C) (k t m : ℕ) (i : Idle C) → start.Test i ≡ start_answer (core_turn core k t m) core.idle → Takes core k t m i
takes core k t m i e =
    let both = test_turn i (core_turn core k t m) core.idle e in
    takes_at core k t m i (ticket_of k t core.tickets) refl both.0 both.1.0 both.1.1

tries_at : {C : Type 0} (core : Core C) (k t m : ℕ) (o : Option Ticket) → ticket_of k t core.tickets ≡ o → (turn_of (is_first_in_line t core) core.shut m core o ≡ turn.Connect) ⊎ ((turn_of (is_first_in_line t core) core.shut m core o ≡ turn.Test) × (core.idle ≡ [])) → Tries core k t m
tries_at core k t m None found (inl e) = absurd cc
tries_at core k t m None found (inr e) = let no : turn.NotHeld ≡ turn.Test = e.0 in absurd cc
tries_at core k t m (Some x) found (inl e) = record {
  x = x;
  found = found;
  connects = ap (turn_of (is_first_in_line t core) core.shut m core) found ∙ e;
  open_is = open_turn (is_first_in_line t core) core m x turn.Connect e (λ q. cc) (λ q. cc);
}
tries_at {C} core k t m (Some x) found (inr e) = let is = turn-test (is_first_in_line t core) core.shut core m x e.0 in absurd (let no : ◌≡◌ {A = List (Idle C)} [] (is.first ∷ is.rest) = sym e.1 ∙ is.idle in cc)

pub tries : {C : Type 0} (core : Core C) (k t m : ℕ) → start.Connect ≡ start_answer (core_turn core k t m) core.idle → Tries core k t m
tries core k t m e = tries_at core k t m (ticket_of k t core.tickets) refl (connect_turn (core_turn core k t m) core.idle e)

at_head : (k t : ℕ) (y : Ticket) (ys : List Ticket) (b : Bool) → is_of k t y ≡ b → ticket_of k t (y ∷ ys) ≡ cond b (Some y) (ticket_of k t ys)
at_head k t y ys b h = ap (λ (c : Bool). cond c (Some y) (ticket_of k t ys)) h

-- the changed ticket is found where the ticket was
pub ticket-with : (k t : ℕ) (f : Ticket → Ticket) (tickets : List Ticket) → ((x : Ticket) → (f x).number ≡ x.number) → ((x : Ticket) → (f x).client ≡ x.client)
    → ticket_of k t (with_ticket t f tickets) ≡ option_map f (ticket_of k t tickets)
ticket-with k t f [] num cl = refl
ticket-with k t f (x ∷ xs) num cl = by (ticket-with k t f xs num cl) (t == x.number) (k == x.client) refl refl
  where
    by : ticket_of k t (with_ticket t f xs) ≡ option_map f (ticket_of k t xs) → (a b : Bool) → (t == x.number) ≡ a → (k == x.client) ≡ b → ticket_of k t (with_ticket t f (x ∷ xs)) ≡ option_map f (ticket_of k t (x ∷ xs))
    by rest true b e h =
        let here : is_of k t x ≡ b = (λ i. e i && h i) in
        let there : is_of k t (f x) ≡ b = (λ i. (t == num x i) && (k == cl x i)) ∙ here in
        ap (λ (c : Bool). ticket_of k t ((if c then f x else x) ∷ with_ticket t f xs)) e
        ∙ at_head k t (f x) (with_ticket t f xs) b there
        ∙ ap (cond b (Some (f x))) rest
        ∙ both b
        ∙ sym (ap (option_map f) (at_head k t x xs b here))
      where
        both : (c : Bool) → cond c (Some (f x)) (option_map f (ticket_of k t xs)) ≡ option_map f (cond c (Some x) (ticket_of k t xs))
        both true = refl
        both false = refl
    by rest false b e h =
        let here : is_of k t x ≡ false = (λ i. e i && h i) in
        ap (λ (c : Bool). ticket_of k t ((if c then f x else x) ∷ with_ticket t f xs)) e
        ∙ at_head k t x (with_ticket t f xs) false here
        ∙ rest
        ∙ sym (ap (option_map f) (at_head k t x xs false here))

number_try : (m : ℕ) (p : Phase) (x : Ticket) → (to_try_at m p x).number ≡ x.number
number_try m phase.Waiting x = refl
number_try m (phase.Testing c created before) x = refl
number_try m phase.Connecting x = refl
number_try m (phase.Backoff until) x = refl

client_try : (m : ℕ) (p : Phase) (x : Ticket) → (to_try_at m p x).client ≡ x.client
client_try m phase.Waiting x = refl
client_try m (phase.Testing c created before) x = refl
client_try m phase.Connecting x = refl
client_try m (phase.Backoff until) x = refl

phase_try : (m : ℕ) (p : Phase) (x : Ticket) → (to_try_at m p x).phase ≡ phase.Connecting
phase_try m phase.Waiting x = refl
phase_try m (phase.Testing c created before) x = refl
phase_try m phase.Connecting x = refl
phase_try m (phase.Backoff until) x = refl

module _ {C : Type 0} (core mid : Core C) (k t m : ℕ) where
  -- the ticket under test
  pub taken-ticket : (i : Idle C) (tk : Takes core k t m i) → mid ≡ started t m (start.Test i) core → ticket_of k t mid.tickets ≡ Some (to_test m i tk.x)
  taken-ticket i tk left =
      ap (λ (c : Core C). ticket_of k t c.tickets) left
      ∙ ticket-with k t (to_test m i) core.tickets (λ x. refl) (λ x. refl)
      ∙ ap (option_map (to_test m i)) tk.found

  pub taken-phase : (i : Idle C) (tk : Takes core k t m i) → mid ≡ started t m (start.Test i) core → phase_for k t mid.tickets ≡ Some (phase.Testing i.lent.id i.lent.created 0)
  taken-phase i tk left = ap (option_map (λ (x : Ticket). x.phase)) (taken-ticket i tk left)

  -- the ticket after a test that refused its connection
  pub untested-ticket : (i : Idle C) (tk : Takes core k t m i) (later : Core C) → mid ≡ started t m (start.Test i) core → later ≡ untested t mid → ticket_of k t later.tickets ≡ Some (to_connect (to_test m i tk.x))
  untested-ticket i tk later left after =
      ap (λ (c : Core C). ticket_of k t c.tickets) after
      ∙ ticket-with k t to_connect mid.tickets (λ x. refl) (λ x. refl)
      ∙ ap (option_map to_connect) (taken-ticket i tk left)

  pub untested-phase : (i : Idle C) (tk : Takes core k t m i) (later : Core C) → mid ≡ started t m (start.Test i) core → later ≡ untested t mid → phase_for k t later.tickets ≡ Some phase.Connecting
  untested-phase i tk later left after = ap (option_map (λ (x : Ticket). x.phase)) (untested-ticket i tk later left after)

  -- the ticket that connects at once
  pub trying-ticket : (tr : Tries core k t m) → mid ≡ started t m start.Connect core → ticket_of k t mid.tickets ≡ Some (to_try m tr.x)
  trying-ticket tr left =
      ap (λ (c : Core C). ticket_of k t c.tickets) left
      ∙ ticket-with k t (to_try m) core.tickets (λ x. number_try m x.phase x) (λ x. client_try m x.phase x)
      ∙ ap (option_map (to_try m)) tr.found

  pub trying-phase : (tr : Tries core k t m) → mid ≡ started t m start.Connect core → phase_for k t mid.tickets ≡ Some phase.Connecting
  trying-phase tr left = ap (option_map (λ (x : Ticket). x.phase)) (trying-ticket tr left) ∙ ap Some (phase_try m tr.x.phase tr.x)
