-- Which numbers a step draws.
use Rattle.std.specs.Prelude.{◌≡◌, ℕ, ◌+◌, ◌^◌, ◌≤◌, ◌⊎◌, List}
use Rattle.sqlx_pool_marks.specs.declared.mark.Mark.{Mark}
use Rattle.sqlx_pool_marks.specs.Standing.{next_number}
use Rattle.sqlx_pool_marks.specs.Marks.{asked_number, opened_number}
use Rattle.sqlx_pool_lists.specs.Core.{Core, gone}

-- the connections that may still be numbered for what is under way
abbrev pub under_way : {C : Type 0} → Core C → ℕ
under_way core = gone core.tickets + core.places

-- The numbers that come next are those behind the marks that the step made; and a number is drawn for what was under way, or nothing new gets under way where the numbers are used up.
pub record Draws {C : Type 0} (old new : Core C) (made : List Mark) : Type 0 where
  pub tickets : new.next_ticket ≡ next_number asked_number old.next_ticket made
  pub conns : new.next_conn ≡ next_number opened_number old.next_conn made
  pub more_tickets : old.next_ticket ≤ new.next_ticket
  pub more_conns : old.next_conn ≤ new.next_conn
  pub few : (new.next_conn + under_way new ≤ old.next_conn + under_way old) ⊎ ((old.next_conn ≤ 2 ^ 63) × (new.next_conn ≡ old.next_conn))

-- The pool's options and permits stay, and so does whether it is shut or counts as closed.
pub record Stays {C : Type 0} (old new : Core C) : Type 0 where
  pub options : new.options ≡ old.options
  pub permits : new.permits ≡ old.permits
  pub shut : new.shut ≡ old.shut
  pub closed : new.closed ≡ old.closed
