-- The record of a statement that ran.
use Rattle.std.specs.Prelude.{ℕ, ◌-◌, Bool, nat_le, List, [], ◌∷◌, ◌++◌, Option, Some, None, if◌then◌else◌}
use Rattle.std.specs.Str.{bytes_eq}
use Rattle.log.specs.declared.level.LevelFilter.{LevelFilter}
use Rattle.log.specs.declared.level.LevelFilter.TheVariants as filter
use Rattle.sqlx_text.specs.Logging.{Logging}
use Rattle.sqlx_text.specs.Summary.{summary_of}
use Rattle.sqlx_text.specs.declared.logger.QueryRecord.{QueryRecord}

-- the nanoseconds since the statement began, and 0 before that
abbrev pub elapsed_of : Logging → ℕ → ℕ
elapsed_of statement now = now - statement.start

-- the statement took at least as long as a slow one
abbrev pub is_slow : Logging → ℕ → Bool
is_slow statement now = nat_le statement.settings.slow_statements_duration (elapsed_of statement now)

-- the level of slow statements for a slow one, and else that of the others
abbrev pub level_that_applies : Logging → ℕ → LevelFilter
level_that_applies statement now = if is_slow statement now then statement.settings.slow_statements_level else statement.settings.statements_level

-- the summary, with a blank and three dots where it isn't the whole statement
abbrev pub shown_summary : List ℕ → List ℕ
shown_summary sql = if bytes_eq sql (summary_of sql) then summary_of sql else summary_of sql ++ 32 ∷ 226 ∷ 128 ∷ 166 ∷ []

-- the statement between two newlines and one, where the summary isn't the whole of it
abbrev pub shown_statement : List ℕ → List ℕ
shown_statement sql = if bytes_eq sql (summary_of sql) then [] else (10 ∷ 10 ∷ sql) ++ 10 ∷ []

-- a record, unless the level is off
abbrev pub unless_off : LevelFilter → QueryRecord → Option QueryRecord
unless_off filter.Off «record» = None
unless_off _ «record» = Some «record»

-- what a log shows of the statement that ends now
abbrev pub record_of : Logging → ℕ → Option QueryRecord
record_of statement now = unless_off (level_that_applies statement now) (record {
  level = level_that_applies statement now;
  slow = is_slow statement now;
  summary = shown_summary statement.sql;
  statement = shown_statement statement.sql;
  rows_affected = statement.rows_affected;
  rows_returned = statement.rows_returned;
  elapsed = elapsed_of statement now;
})
