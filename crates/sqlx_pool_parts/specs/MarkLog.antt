-- What a copy of a log says.
use Rattle.std.specs.Prelude.{◌≡◌, []}
use Rattle.sqlx_pool_parts.specs.State.{PoolState, start_of, since_start}
use Rattle.sqlx_pool_parts.specs.declared.mark_log.MarkLog.{MarkLog}

-- It is the whole log of this state: its start, how many loans were forgotten before that, and the marks behind it.
pub record IsCopyOf {C O : Type 0} (state : PoolState C O) (log : MarkLog) : Type 0 where
  pub start : log.start.items ≡ start_of state
  pub before : log.lent_before ≡ state.start.lent_before
  pub marks : log.marks.items ≡ since_start state

-- Nothing was cut off: the log begins with the pool, and no loan is forgotten.
abbrev pub IsUncut : MarkLog → Type 0
IsUncut log = (log.start.items ≡ []) × (log.lent_before ≡ 0)
