-- What a connection can be asked for besides queries.
use Rattle.std.specs.Prelude.{ℕ, List, Option, Result}
use Rattle.sqlx_text.specs.declared.error.Error.{Error}

-- a call on an open connection; `begin` has the statement that it is given, where there is one
pub data Call : Type 0 where
  ping : Call
  begin : Option (List ℕ) → Call
  commit : Call
  rollback : Call
  start_rollback : Call
  clear_cached_statements : Call
  shrink_buffers : Call
  flush : Call

-- how a connection is closed: its peer is told, or it is closed at once
pub data Closing : Type 0 where
  told : Closing
  at_once : Closing

-- what a call answers; one that answers nothing is done
abbrev pub Outcome : Type 0
Outcome = Result (Unit {0}) Error
