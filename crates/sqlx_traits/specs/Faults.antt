-- When a connection may refuse: its count of faults tells.
use Rattle.std.specs.Prelude.{ℕ, ◌-◌, ◌^◌, ◌<◌, ◌≤◌, ◌⊎◌, ⊤}
use Rattle.sqlx_text.specs.declared.error.Error.{Error}
use Rattle.sqlx_text.specs.declared.error.Error.TheVariants as error

-- the count rose, or it stands at its last value
abbrev pub HasRisen : ℕ → ℕ → Type 0
HasRisen before now = (before < now) ⊎ (2 ^ 64 - 1 ≤ now)

-- an error comes only where the count rose, but for want of memory, which isn't counted; the two of a custom begin come of no other call, and that of arguments which can't be had is never the driver's
abbrev pub FaultCause : ℕ → ℕ → Error → Type 0
FaultCause before now error.OutOfMemory = ⊤
FaultCause before now error.InvalidSavePointStatement = ⊥
FaultCause before now error.BeginFailed = ⊥
FaultCause before now (error.Encode fault) = ⊥
FaultCause before now _ = HasRisen before now

-- likewise at a begin, which may have the two: a custom one inside of a transaction isn't counted
abbrev pub BeginCause : ℕ → ℕ → Error → Type 0
BeginCause before now error.InvalidSavePointStatement = ⊤
BeginCause before now error.BeginFailed = HasRisen before now
BeginCause before now e = FaultCause before now e

-- opening a connection is refused only where the count rose, but for want of memory
abbrev pub ConnectCause : ℕ → ℕ → Error → Type 0
ConnectCause before now error.OutOfMemory = ⊤
ConnectCause before now _ = HasRisen before now

-- ending a connection is refused by the database or on the way to it, or there is no memory
abbrev pub CloseCause : Error → Type 0
CloseCause (error.Database fault) = ⊤
CloseCause (error.Io fault) = ⊤
CloseCause (error.Protocol text) = ⊤
CloseCause error.OutOfMemory = ⊤
CloseCause _ = ⊥

-- likewise opening one by options, which may be refused themselves
abbrev pub OpenCause : Error → Type 0
OpenCause (error.Configuration fault) = ⊤
OpenCause e = CloseCause e
