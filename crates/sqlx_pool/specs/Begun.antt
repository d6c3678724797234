-- What beginning a transaction on a connection of a pool comes to.
use Rattle.std.specs.Prelude.{◌≡◌, ◌≢◌, ◌≤◌, ℕ, ⊤, Bool, true, Option, Some, None, is_some, Result, Ok, Err, IfErr}
use Rattle.sqlx_text.specs.declared.error.Error.{Error}
use Rattle.sqlx_text.specs.declared.error.Error.TheVariants as error
use Rattle.sqlx_text.specs.declared.sql_str.SqlStr.{SqlStr}
use Rattle.sqlx_traits.specs.Calls.{Call, Outcome}
use Rattle.sqlx_traits.specs.Calls.Call.{begin}
use Rattle.sqlx_traits.specs.Faults.{BeginCause}
use Rattle.sqlx_tx.specs.Begun.{levels_after}
use Rattle.sqlx_pool.specs.declared.begins.BeginRefusedOf.{BeginRefusedOf}

-- a connection was lent
abbrev pub has_lent : {P : Type 0} → Result (Option P) (BeginRefusedOf P) → Bool
has_lent (Ok begun) = is_some begun
has_lent (Err refused) = is_some refused.connection

-- a connection was lent, by a call that waits for it
abbrev pub was_lent : {P : Type 0} → Result P (BeginRefusedOf P) → Bool
was_lent (Ok begun) = true
was_lent (Err refused) = is_some refused.connection

-- of a driver: what its manager's calls make of a connection, how many levels are open, and the count of faults
module _ {C : Type 0} (does : Call → C → Outcome → C → Type 0) (levels faults : C → ℕ) where
  -- the begin on this connection had this outcome: a level more after Ok, as many after Err, which has its cause
  abbrev pub BegunOn : Option SqlStr → C → Outcome → C → Type 0
  BegunOn statement before outcome after = does (begin statement) before outcome after × (levels after ≡ levels_after (levels before) outcome) × (faults before ≤ faults after) × IfErr outcome (BeginCause (faults before) (faults after))

  -- so on a connection without an open level: no begin is refused as one inside of a transaction
  abbrev pub BegunFlat : Option SqlStr → Outcome → C → Type 0
  BegunFlat statement outcome after = (before : C) × (levels before ≡ 0) × BegunOn statement before outcome after × IfErr outcome (λ e. e ≢ error.InvalidSavePointStatement)

  -- so on a connection that was lent, which comes back where the begin was refused
  abbrev pub BegunOnLent : {P : Type 0} → (P → C) → Option SqlStr → Result P (Error × P) → Type 0
  BegunOnLent raw statement (Ok begun) = BegunFlat statement (Ok tt) (raw begun)
  BegunOnLent raw statement (Err refused) = BegunFlat statement (Err refused.0) (raw refused.1)

  module _ {P : Type 0} (raw : P → C) (IsRefusal : Error → Type 0) where
    -- where no connection was lent it is a refusal of the lending, else of the begin
    abbrev pub RefusedBy : Option SqlStr → Error → Option P → Type 0
    RefusedBy statement e None = IsRefusal e
    RefusedBy statement e (Some conn) = BegunFlat statement (Err e) (raw conn)

    -- nothing was lent, or a level was begun on what was lent, or it was refused
    abbrev pub Begins : Option SqlStr → Result (Option P) (BeginRefusedOf P) → Type 0
    Begins statement (Ok None) = ⊤
    Begins statement (Ok (Some begun)) = BegunFlat statement (Ok tt) (raw begun)
    Begins statement (Err refused) = RefusedBy statement refused.error refused.connection

    -- a level was begun on what was lent, or it was refused
    abbrev pub BeginsLent : Option SqlStr → Result P (BeginRefusedOf P) → Type 0
    BeginsLent statement (Ok begun) = BegunFlat statement (Ok tt) (raw begun)
    BeginsLent statement (Err refused) = RefusedBy statement refused.error refused.connection
