-- What is known of a statement that runs.
use Rattle.std.specs.Prelude.{ℕ, List}
use Rattle.sqlx_text.specs.declared.logger.LogSettings.{LogSettings}

-- the statement, which level applies to it, the nanosecond at which it began, and the rows that it touched
pub record Logging : Type 0 where
  pub sql : List ℕ
  pub settings : LogSettings
  pub start : ℕ
  pub rows_affected : ℕ
  pub rows_returned : ℕ
