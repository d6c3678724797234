-- What stands where the turn of a poll is a test or a connect.
use Rattle.std.proofs.Common.{◌≡◌, ℕ, ◌^◌, ◌≤◌, List, [], ◌∷◌, refl, arith, Bool, true, false, if◌then◌else◌, Some, ◌⊎◌, inl, inr, ltb, leb}
use Rattle.std.proofs.lemmas.Bool.Decides.{nat_tests}
use Rattle.sqlx_pool_lists.specs.declared.ticket.Ticket.{Ticket}
use Rattle.sqlx_pool_lists.specs.declared.ticket.Phase.{Phase}
use Rattle.sqlx_pool_lists.specs.declared.ticket.Phase.TheVariants as phase
use Rattle.sqlx_pool_marks.specs.declared.turn.Turn.{Turn}
use Rattle.sqlx_pool_marks.specs.declared.turn.Turn.TheVariants as turn
use Rattle.sqlx_pool_lists.specs.declared.steps.Idle.{Idle}
use Rattle.sqlx_pool_lists.specs.Core.{Core, is_out}
use Rattle.sqlx_pool_marks.specs.PollTable.{in_time, numbered, first_idle}
use Rattle.sqlx_pool_lists.specs.PollTable.{is_at_rest, backs_off_until}
use Rattle.sqlx_pool_lists.specs.CoreTurn.{turn_of}

-- where the first choice isn't it, the test was false and the other is it
pub unless_first : (b : Bool) (a z w : Turn) → (if b then a else z) ≡ w → (a ≡ w → ⊥) → (b ≡ false) × (z ≡ w)
unless_first true a z w e other = absurd (other e)
unless_first false a z w e other = (refl, e)

unless_last : (b : Bool) (a z w : Turn) → (if b then a else z) ≡ w → (z ≡ w → ⊥) → (b ≡ true) × (a ≡ w)
unless_last true a z w e other = (refl, e)
unless_last false a z w e other = absurd (other e)

-- A ticket that leaves the line: it is entitled, and numbers are left.
pub record Leaves {C : Type 0} (q : Bool) (core : Core C) (x : Ticket) : Type 0 where
  pub waits : x.phase ≡ phase.Waiting
  pub entitled : q ≡ true
  pub numbers : core.next_conn ≤ 2 ^ 63

pub record Tests {C : Type 0} (q : Bool) (core : Core C) (x : Ticket) : Type 0 where
  pub leaves : Leaves q core x
  pub first : Idle C
  pub rest : List (Idle C)
  pub idle : core.idle ≡ first ∷ rest

pub record ConnectsFirst {C : Type 0} (q : Bool) (core : Core C) (x : Ticket) : Type 0 where
  pub leaves : Leaves q core x
  pub none : core.idle ≡ []

pub record ConnectsAgain {C : Type 0} (core : Core C) (x : Ticket) : Type 0 where
  pub until : ℕ
  pub backs_off : x.phase ≡ phase.Backoff until

idle_cases : {C : Type 0} (q : Bool) (core : Core C) (x : Ticket) (idle : List (Idle C)) → core.idle ≡ idle → Leaves q core x → first_idle idle ≡ turn.Test → Tests q core x
idle_cases q core x [] e l f = absurd cc
idle_cases q core x (i ∷ rest) e l f = record { leaves = l; first = i; rest = rest; idle = e }

none_idle : {C : Type 0} (q : Bool) (core : Core C) (x : Ticket) (idle : List (Idle C)) → core.idle ≡ idle → Leaves q core x → first_idle idle ≡ turn.Connect → ConnectsFirst q core x
none_idle q core x [] e l f = record { leaves = l; none = e }
none_idle q core x (i ∷ rest) e l f = absurd cc

leaves_line : {C : Type 0} (q : Bool) (core : Core C) (x : Ticket) → x.phase ≡ phase.Waiting → q ≡ true → ltb (2 ^ 63) core.next_conn ≡ false → Leaves q core x
leaves_line q core x e f n = record { waits = e; entitled = f; numbers = grind (arith, nat_tests) }

first_tests : {C : Type 0} (q : Bool) (core : Core C) (m : ℕ) (x : Ticket) → x.phase ≡ phase.Waiting → in_time m q core.next_conn core.idle false 0 ≡ turn.Test → Tests q core x
first_tests q core m x e t =
    let w = unless_last q (numbered core.next_conn (first_idle core.idle)) turn.Waiting turn.Test t (λ q. cc) in
    let n = unless_first (ltb (2 ^ 63) core.next_conn) turn.Exhausted (first_idle core.idle) turn.Test w.1 (λ q. cc) in
    idle_cases q core x core.idle refl (leaves_line q core x e w.0 n.0) n.1

first_connects : {C : Type 0} (q : Bool) (core : Core C) (m : ℕ) (x : Ticket) → x.phase ≡ phase.Waiting → in_time m q core.next_conn core.idle false 0 ≡ turn.Connect → ConnectsFirst q core x
first_connects q core m x e t =
    let w = unless_last q (numbered core.next_conn (first_idle core.idle)) turn.Waiting turn.Connect t (λ q. cc) in
    let n = unless_first (ltb (2 ^ 63) core.next_conn) turn.Exhausted (first_idle core.idle) turn.Connect w.1 (λ q. cc) in
    none_idle q core x core.idle refl (leaves_line q core x e w.0 n.0) n.1

-- a backoff tests nothing
again_tests : {C : Type 0} (q : Bool) (core : Core C) (m until : ℕ) (x : Ticket) → in_time m q core.next_conn core.idle true until ≡ turn.Test → ⊥
again_tests q core m until x t =
    let w = unless_first (ltb m until) (turn.Backoff until) (numbered core.next_conn turn.Connect) turn.Test t (λ q. cc) in
    let n = unless_first (ltb (2 ^ 63) core.next_conn) turn.Exhausted turn.Connect turn.Test w.1 (λ q. cc) in
    let e : turn.Connect ≡ turn.Test = n.1 in cc

test_at : {C : Type 0} (q closed : Bool) (core : Core C) (m : ℕ) (x : Ticket) (p : Phase) → x.phase ≡ p
    → (if is_at_rest p then (if closed then turn.Closed else (if leb x.deadline m then turn.TimedOut else in_time m q core.next_conn core.idle (is_out p) (backs_off_until p))) else turn.NotHeld) ≡ turn.Test
    → Tests q core x
test_at q closed core m x phase.Waiting e t =
    let s = unless_first closed turn.Closed (if leb x.deadline m then turn.TimedOut else in_time m q core.next_conn core.idle false 0) turn.Test t (λ q. cc) in
    let d = unless_first (leb x.deadline m) turn.TimedOut (in_time m q core.next_conn core.idle false 0) turn.Test s.1 (λ q. cc) in
    first_tests q core m x e d.1
test_at q closed core m x (phase.Backoff until) e t =
    let s = unless_first closed turn.Closed (if leb x.deadline m then turn.TimedOut else in_time m q core.next_conn core.idle true until) turn.Test t (λ q. cc) in
    let d = unless_first (leb x.deadline m) turn.TimedOut (in_time m q core.next_conn core.idle true until) turn.Test s.1 (λ q. cc) in
    absurd (again_tests q core m until x d.1)
test_at q closed core m x (phase.Testing c created before) e t = absurd cc
test_at q closed core m x phase.Connecting e t = absurd cc

connect_at : {C : Type 0} (q closed : Bool) (core : Core C) (m : ℕ) (x : Ticket) (p : Phase) → x.phase ≡ p
    → (if is_at_rest p then (if closed then turn.Closed else (if leb x.deadline m then turn.TimedOut else in_time m q core.next_conn core.idle (is_out p) (backs_off_until p))) else turn.NotHeld) ≡ turn.Connect
    → ConnectsFirst q core x ⊎ ConnectsAgain core x
connect_at q closed core m x phase.Waiting e t =
    let s = unless_first closed turn.Closed (if leb x.deadline m then turn.TimedOut else in_time m q core.next_conn core.idle false 0) turn.Connect t (λ q. cc) in
    let d = unless_first (leb x.deadline m) turn.TimedOut (in_time m q core.next_conn core.idle false 0) turn.Connect s.1 (λ q. cc) in
    inl (first_connects q core m x e d.1)
connect_at q closed core m x (phase.Backoff until) e t = inr (record { until = until; backs_off = e })
connect_at q closed core m x (phase.Testing c created before) e t = absurd cc
connect_at q closed core m x phase.Connecting e t = absurd cc

pub turn-test : {C : Type 0} (q closed : Bool) (core : Core C) (m : ℕ) (x : Ticket) → turn_of q closed m core (Some x) ≡ turn.Test → Tests q core x
turn-test q closed core m x t = test_at q closed core m x x.phase refl t

pub turn-connect : {C : Type 0} (q closed : Bool) (core : Core C) (m : ℕ) (x : Ticket) → turn_of q closed m core (Some x) ≡ turn.Connect → ConnectsFirst q core x ⊎ ConnectsAgain core x
turn-connect q closed core m x t = connect_at q closed core m x x.phase refl t
