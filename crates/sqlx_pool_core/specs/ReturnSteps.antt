-- The steps that end a loan: what each answers, the marks that it makes, and what it makes of the core.
use Rattle.std.specs.Prelude.{ℕ, ◌+◌, Bool, true, false, not, ◌&&◌, List, [], ◌∷◌, Option, Some, None, if◌then◌else◌}
use Rattle.sqlx_pool_lists.specs.Limits.{limits_of}
use Rattle.sqlx_pool_marks.specs.declared.mark.Mark.{Mark}
use Rattle.sqlx_pool_marks.specs.declared.mark.Mark.TheVariants.{Kept, Closed, Detached, Leaked}
use Rattle.sqlx_pool_lists.specs.declared.options.PoolOptions.{PoolOptions}
use Rattle.sqlx_pool_lists.specs.declared.ticket.OwnedConn.{OwnedConn}
use Rattle.sqlx_pool_lists.specs.declared.steps.Lent.{Lent as LentValue}
use Rattle.sqlx_pool_lists.specs.declared.steps.Given.{Given}
use Rattle.sqlx_pool_lists.specs.declared.steps.Given.TheVariants as given
use Rattle.sqlx_pool_lists.specs.Core.{Core}
use Rattle.sqlx_pool_marks.specs.EventTable.{closes}
use Rattle.sqlx_pool_lists.specs.PollSteps.{lent_since}
use Rattle.sqlx_pool_lists.specs.Edits.{core_without_loan, kept, at_moment}

-- the answer to a connection that comes back, by the loan that the pool keeps of it
abbrev pub give_answer : {C : Type 0} → PoolOptions → Bool → ℕ → Bool → Option OwnedConn → LentValue C → Given C
give_answer options shut m accepted None lent = given.NotHeld lent.raw
give_answer options shut m accepted (Some h) lent = if accepted && not (closes (limits_of options) shut h.created.0 m) then given.Kept else given.Closed lent.raw

-- the marks of a return
abbrev pub give_marks : {C : Type 0} → ℕ → ℕ → Given C → List Mark
give_marks c m given.Kept = Kept c m ∷ []
give_marks c m (given.Closed raw) = Closed c ∷ []
give_marks c m (given.NotHeld raw) = []

-- the connection rests with the moment of opening that the pool keeps
abbrev pub rested : {C : Type 0} → Option OwnedConn → LentValue C → ℕ → Core C → Core C
rested (Some h) lent m core = kept (lent_since h.created lent) m core
rested None lent m core = core

-- the core after a return
abbrev pub core_after_give : {C : Type 0} → Option OwnedConn → LentValue C → ℕ → Given C → Core C → Core C
core_after_give h lent m given.Kept core = at_moment m (rested h lent m (core_without_loan lent.id core))
core_after_give h lent m (given.Closed raw) core = at_moment m (core_without_loan lent.id core)
core_after_give h lent m (given.NotHeld raw) core = core

-- ---- end, detach, leak

-- the marks of an end
abbrev pub end_marks : ℕ → Bool → List Mark
end_marks c true = Closed c ∷ []
end_marks c false = []

-- the marks of a detach
abbrev pub detach_marks : ℕ → Bool → List Mark
detach_marks c true = Detached c ∷ []
detach_marks c false = []

-- the marks of a leak
abbrev pub leak_marks : ℕ → Bool → List Mark
leak_marks c true = Leaked c ∷ []
leak_marks c false = []

-- the connection left the pool
abbrev pub released : {C : Type 0} → ℕ → Bool → Core C → Core C
released c true core = core_without_loan c core
released c false core = core

-- the connection left the pool, which keeps its place and its permit
abbrev pub leaked : {C : Type 0} → ℕ → Bool → Core C → Core C
leaked c true core = record (core_without_loan c core) { leaked = core.leaked + 1 }
leaked c false core = core
