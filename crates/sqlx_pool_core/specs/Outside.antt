-- What is said of an outside's answers: when a count rose, which refusals may pass, and what a hook said.
use Rattle.std.specs.Prelude.{ℕ, ◌-◌, ◌^◌, ◌<◌, ◌≤◌, ◌⊎◌, ⊤, Bool, true, false, not, ◌==◌, Result, Ok, Err}
use Rattle.sqlx_text.specs.declared.error.Error.{Error}
use Rattle.sqlx_text.specs.declared.error.Error.TheVariants.{OutOfMemory, Io, Database}
use Rattle.sqlx_text.specs.declared.io_fault.IoFault.TheVariants.{ConnectionRefused, Other}

-- the count rose, or it stands at its last value
abbrev pub HasRisen : ℕ → ℕ → Type 0
HasRisen before now = (before < now) ⊎ (2 ^ 64 - 1 ≤ now)

-- ---- connects

-- a refusal that may pass: the connection was refused, or a fault of the database that says so
abbrev pub is_transient : Error → Bool
is_transient (Io ConnectionRefused) = true
is_transient (Io Other) = false
is_transient (Database fault) = fault.transient
is_transient other = false

-- want of memory
abbrev pub is_want : Error → Bool
is_want OutOfMemory = true
is_want other = false

-- ---- hooks

-- a hook said yes, and left no level open
abbrev pub says_yes : Result Bool Error → ℕ → Bool
says_yes (Ok true) depth = depth == 0
says_yes (Ok false) depth = false
says_yes (Err error) depth = false

-- a hook that can't say no said Ok, and left no level open
abbrev pub says_ok : Result (⊤) Error → ℕ → Bool
says_ok (Ok done) depth = depth == 0
says_ok (Err error) depth = false

-- a hook said no, or failed
abbrev pub declines : Result Bool Error → Bool
declines (Ok said) = not said
declines (Err error) = true
