use Rattle.std.proofs.Common.{rules}
use Rattle.sqlite_driver.proofs.connection.SqliteConnection.end.Goals as goal

pub returns-in-Ok-clause-closed : goal.returns-in-Ok-clause-closed
returns-in-Ok-clause-closed c = search rules
