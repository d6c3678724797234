use Rattle.std.proofs.Common.{rules}
use Rattle.sqlite_driver.proofs.connection.SqliteConnection.settle.Goals as goal

pub returns-in-Ok-clause-pings : goal.returns-in-Ok-clause-pings
returns-in-Ok-clause-pings c = search rules
