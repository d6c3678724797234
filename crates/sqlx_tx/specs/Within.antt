-- A call inside a level of its own.
use Rattle.std.specs.Prelude.{◌≡◌, ◌+◌, ◌<◌, ◌≤◌, ◌⊎◌, ℕ, IfErr, None, Option, Result, Ok, Err}
use Rattle.sqlx_text.specs.declared.error.Error.{Error}
use Rattle.sqlx_text.specs.declared.sql_str.SqlStr.{SqlStr}
use Rattle.sqlx_traits.specs.Calls.{Call, Outcome}
use Rattle.sqlx_traits.specs.Calls.Call.{begin, commit, rollback}
use Rattle.sqlx_traits.specs.Faults.{BeginCause, FaultCause}

-- of what a call may answer and make of a connection: it leaves the levels as it found them
abbrev pub Leaves : {C G : Type 0} → (C → ℕ) → (C → G → C → Type 0) → Type 0
Leaves {C} {G} levels calls = (before after : C) (given : G) → calls before given after → levels after ≡ levels before

-- of a connection: `does` says what the calls of its manager make of it, `levels` how many are open, `faults` its count of faults
module _ {C : Type 0} (does : Call → C → Outcome → C → Type 0) (levels faults : C → ℕ) where
  -- the manager's call has this outcome, with the cause of a refusal
  abbrev pub Comes : Call → C → Outcome → C → Type 0
  Comes call before outcome after = does call before outcome after × (faults before ≤ faults after) × IfErr outcome (FaultCause (faults before) (faults after))

  -- a level couldn't be begun, by the statement where one is given: the levels stay, and the error has its cause
  abbrev pub RefusesToBegin : Option SqlStr → C → Error → Type 0
  RefusesToBegin statement before e = (after : C) × does (begin statement) before (Err e) after × (levels after ≡ levels before) × (faults before ≤ faults after) × BeginCause (faults before) (faults after) e

  -- a level is opened
  abbrev pub Begins : C → C → Type 0
  Begins before begun = Comes (begin None) before (Ok tt) begun × (levels begun ≡ levels before + 1)

  -- `from` says what an error becomes
  module _ {R E : Type 0} (from : Error → E → Type 0) where
    -- the error is told
    abbrev pub Tells : Error → Result R E → Type 0
    Tells e answer = (told : E) × from e told × (answer ≡ Err told)

    -- what was given where the level could be ended so, else the refusal
    abbrev pub GivenOrTold : Outcome → Result R E → Result R E → Type 0
    GivenOrTold (Ok done) given answer = answer ≡ given
    GivenOrTold (Err e) given answer = Tells e answer

    -- the level is ended by this call
    abbrev pub EndsBy : Call → Result R E → C → Result R E → C → Type 0
    EndsBy call given inside answer after = (outcome : Outcome) × Comes call inside outcome after × GivenOrTold outcome given answer

    -- it is committed after Ok, and rolled back after Err
    abbrev pub Ends : Result R E → C → Result R E → C → Type 0
    Ends (Ok value) inside answer after = EndsBy commit (Ok value) inside answer after
    Ends (Err told) inside answer after = EndsBy rollback (Err told) inside answer after

    -- it is ended so where a level is open, and else what was given is the answer
    abbrev pub EndsOpen : Result R E → C → Result R E → C → Type 0
    EndsOpen given inside answer after = ((levels inside ≡ 0) × (answer ≡ given) × (after ≡ inside)) ⊎ ((0 < levels inside) × Ends given inside answer after)

    -- no level could be begun
    abbrev pub IsNotBegun : C → Result R E → C → Type 0
    IsNotBegun before answer after = (e : Error) × Comes (begin None) before (Err e) after × Tells e answer

    -- a level was begun, the call ran in it, and the level was ended; `calls` says what the call may answer, and what it makes of the connection
    abbrev pub RanWithin : (C → Result R E → C → Type 0) → C → Result R E → C → Type 0
    RanWithin calls before answer after = (begun inside : C) × (given : Result R E) × Begins before begun × calls begun given inside × Ends given inside answer after

    -- the call ran in a level of its own, or there was none
    abbrev pub Transacts : (C → Result R E → C → Type 0) → C → Result R E → C → Type 0
    Transacts calls before answer after = IsNotBegun before answer after ⊎ RanWithin calls before answer after

    -- the same of a call that may leave any levels: the innermost one is ended, where one is open
    abbrev pub RunsWithin : (C → Result R E → C → Type 0) → C → Result R E → C → Type 0
    RunsWithin calls before answer after = IsNotBegun before answer after
        ⊎ ((begun inside : C) × (given : Result R E) × Begins before begun × calls begun given inside × EndsOpen given inside answer after)
