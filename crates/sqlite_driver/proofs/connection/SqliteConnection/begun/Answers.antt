use Rattle.std.proofs.Common.{rules}
use Rattle.sqlite_driver.proofs.connection.SqliteConnection.begun.Goals as goal

pub returns-then-is_autocommit-clause-err : goal.returns-then-is_autocommit-clause-err
returns-then-is_autocommit-clause-err c = search rules
