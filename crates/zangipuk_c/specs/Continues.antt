-- What a call makes of the pool that lies in a room.
use Rattle.std.specs.Prelude.{◌≡◌, ℕ, ◌-◌, ◌^◌, ◌==◌, if◌then◌else◌, ⊤, List, [], Option, Some, None, Vec, Box, box_value}
use Rattle.std.specs.declared.alloc.Global.{Global}
use Rattle.sqlx_pool_marks.specs.declared.mark.Mark.{Mark}
use Rattle.sqlx_pool_lists.specs.StandsFor.{StandsFor}
use Rattle.sqlx_pool_lists.specs.declared.options.PoolOptions.{PoolOptions}
use Rattle.sqlx_pool_lists.specs.Defaults.{default_options}
use Rattle.sqlx_pool_core.specs.Logs.{Logs}
use Rattle.zangipuk_c.specs.declared.held.Kept.{Kept}
use Rattle.zangipuk_c.specs.Logged.{Notes}

-- A step, whatever it was: these marks are fair behind whatever marks the old pool stood for, the new one stands for all of them, and they stand behind the log.
pub record Continues (old new : Kept) : Type 0 where
  pub made : List Mark
  pub makes : Logs old.core.pool made new.core.pool
  pub notes : Notes old.log made new.log

-- a log is kept from the first mark on, unless the number is 0
abbrev pub IsBegun : ℕ → Option (Vec Mark Global) → Type 0
IsBegun log None = log ≡ 0
IsBegun log (Some marks) = marks.items ≡ []

-- A new pool stands for no mark, and has these options.
pub record IsNew (options : PoolOptions) (log : ℕ) (kept : Kept) : Type 0 where
  pub stands : StandsFor kept.core.pool []
  pub options_are : kept.core.pool.options ≡ options
  pub begun : IsBegun log kept.log

-- the same of what lies in a room, if it is a pool
abbrev pub IsFresh : PoolOptions → ℕ → Option (Box Kept Global) → Type 0
IsFresh options log None = ⊤
IsFresh options log (Some kept) = IsNew options log (box_value kept)

-- a duration, of which the largest number stands for none
abbrev pub limit_of : ℕ → Option ℕ
limit_of nanos = if nanos == 2 ^ 64 - 1 then None else Some nanos

-- the options that the numbers of a call say; the others are the default ones
abbrev pub options_by : ℕ → ℕ → ℕ → ℕ → ℕ → PoolOptions
options_by max min timeout lifetime idle =
    record default_options { max_connections = max; min_connections = min; acquire_timeout = timeout; max_lifetime = limit_of lifetime; idle_timeout = limit_of idle }
