-- The results of statements.
use Rattle.std.specs.Prelude.{◌+◌, ◌-◌, ◌^◌, min, None}
use Rattle.sqlx_any_values.specs.declared.query_result.AnyQueryResult.{AnyQueryResult}

-- the result of no statement: no rows and no id
abbrev pub no_result : AnyQueryResult
no_result = record { rows_affected = 0; last_insert_id = None }

-- a result with that of the next statement: the rows of both, up to the greatest count, and the id of the next one, if it has one or not
abbrev pub with_next : AnyQueryResult → AnyQueryResult → AnyQueryResult
with_next before next = record { rows_affected = min (before.rows_affected + next.rows_affected) (2 ^ 64 - 1); last_insert_id = next.last_insert_id }
