-- Why a client that asked gets no connection.
use Rattle.std.specs.Prelude.{◌≡◌, ◌⊎◌, ◌^◌, ◌<◌, ◌≤◌, ℕ, false}
use Rattle.sqlx_text.specs.declared.error.Error.{Error}
use Rattle.sqlx_text.specs.declared.error.Error.TheVariants as error
use Rattle.sqlx_pool_marks.specs.Marks.{is_open, next_ticket}
use Rattle.sqlx_pool_core.specs.CameTo.{IsForGood}
use Rattle.sqlx_pool_parts.specs.State.{PoolState}

-- a ticket ends by the pool's rules: the pool is closed, its time is over, or the numbers are used up; or there is no such ticket
abbrev pub IsEnd : Error → Type 0
IsEnd e = (e ≡ error.PoolClosed) ⊎ (e ≡ error.PoolTimedOut) ⊎ (e ≡ error.Exhausted) ⊎ (e ≡ error.NotHeld)

-- a poll ends it so, or as its connect was refused for good, or for want of memory
abbrev pub IsPollRefusal : ℕ → ℕ → Error → Type 0
IsPollRefusal faults faults_now e = IsEnd e ⊎ IsForGood faults faults_now e

module _ {C O : Type 0} where
  -- the pool is closed
  abbrev pub IsClosed : PoolState C O → Type 0
  IsClosed state = is_open state.marks ≡ false

  -- the numbers of tickets are used up
  abbrev pub AreTicketsUsed : PoolState C O → Type 0
  AreTicketsUsed state = 2 ^ 63 < next_ticket state.marks

  -- as many loans were made as are made past the line
  abbrev pub AreLoansUsed : PoolState C O → Type 0
  AreLoansUsed state = 2 ^ 62 ≤ state.booked.made

-- why an ask is refused: the pool was seen closed, the numbers of its tickets were seen used up, or want of memory
abbrev pub IsAskRefusal : Type 0 → Type 0 → Error → Type 0
IsAskRefusal closed used e = ((e ≡ error.PoolClosed) × closed) ⊎ ((e ≡ error.Exhausted) × used) ⊎ (e ≡ error.OutOfMemory)

-- an ask is refused so
abbrev pub MayRefuseAsk : Error → Type 0
MayRefuseAsk e = (e ≡ error.PoolClosed) ⊎ (e ≡ error.Exhausted) ⊎ (e ≡ error.OutOfMemory)

-- a loan past the line is refused so
abbrev pub MayRefuseTry : Error → Type 0
MayRefuseTry e = (e ≡ error.Exhausted) ⊎ (e ≡ error.OutOfMemory)

-- why a loan past the line is refused: so many loans were seen made, or want of memory
abbrev pub IsTryRefusal : Type 0 → Error → Type 0
IsTryRefusal used e = ((e ≡ error.Exhausted) × used) ⊎ (e ≡ error.OutOfMemory)
