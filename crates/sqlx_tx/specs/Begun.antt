-- What beginning a level on a holder answers: a transaction, which is seen as its holder, or the error and the holder.
use Rattle.std.specs.Prelude.{◌+◌, ℕ, Bool, true, false, Result, Ok, Err}
use Rattle.sqlx_text.specs.declared.error.Error.{Error}
use Rattle.sqlx_traits.specs.Calls.{Call, Outcome}
use Rattle.sqlx_traits.specs.Calls.Call.{commit, rollback}

module _ {H : Type 0} where
  -- the holder, which comes back either way
  abbrev pub holder_of : Result H (Error × H) → H
  holder_of (Ok begun) = begun
  holder_of (Err refused) = refused.1

  -- what was answered
  abbrev pub outcome_of : Result H (Error × H) → Outcome
  outcome_of (Ok begun) = Ok tt
  outcome_of (Err refused) = Err refused.0

-- a level more where the answer is Ok, and else as many as before
abbrev pub levels_after : ℕ → Outcome → ℕ
levels_after levels (Ok done) = levels + 1
levels_after levels (Err e) = levels

-- the call that ends a level which is to be kept, or not
abbrev pub ending : Bool → Call
ending true = commit
ending false = rollback
