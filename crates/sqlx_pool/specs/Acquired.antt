-- What may be had of a connection's owner, and a transaction on it.
use Rattle.std.specs.Prelude.{◌≡◌, ◌≢◌, ℕ, Option, Some, None, Result, Ok, Err, IfErr, IsOkAnd}
use Rattle.sqlx_text.specs.declared.error.Error.{Error}
use Rattle.sqlx_text.specs.declared.error.Error.TheVariants as error
use Rattle.sqlx_traits.specs.Calls.{Call, Outcome}
use Rattle.sqlx_pool.specs.Begun.{BegunOn}

-- a holder of this connection comes, and no refusal
abbrev pub Holds : {C P : Type 0} → C → (P → C) → Result P Error → Type 0
Holds conn held result = IsOkAnd result (λ holder. held holder ≡ conn)

-- it isn't one of the two refusals of a begin by a statement of one's own
abbrev pub IsOfNoStatement : Error → Type 0
IsOfNoStatement e = (e ≢ error.InvalidSavePointStatement) × (e ≢ error.BeginFailed)

-- of a driver: what its manager's calls make of a connection, how many levels are open, and the count of faults
module _ {C P : Type 0} (does : Call → C → Outcome → C → Type 0) (levels faults : C → ℕ) (held : P → C) (holding : P → C → P) where
  -- the begin on what the first holder held had this outcome, and the second is the same holder after it
  abbrev pub BeginsFrom : P → Outcome → P → Type 0
  BeginsFrom first outcome second = (second ≡ holding first (held second)) × BegunOn does levels faults None (held first) outcome (held second) × IfErr outcome IsOfNoStatement

  module _ (acquires : Result P Error → Type 0) where
    -- nothing could be acquired; or what was acquired came back, with a refused begin
    abbrev pub RefusedOn : Error → Option P → Type 0
    RefusedOn e None = acquires (Err e)
    RefusedOn e (Some holder) = (first : P) × acquires (Ok first) × BeginsFrom first (Err e) holder

    -- a level was begun on what was acquired, or it was refused
    abbrev pub BeginsOn : Result P (Error × Option P) → Type 0
    BeginsOn (Ok holder) = (first : P) × acquires (Ok first) × BeginsFrom first (Ok tt) holder
    BeginsOn (Err refused) = RefusedOn refused.0 refused.1
