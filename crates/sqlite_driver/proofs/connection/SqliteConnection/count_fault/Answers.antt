use Rattle.std.proofs.Common.{rules}
use Rattle.sqlite_driver.proofs.connection.SqliteConnection.count_fault.Goals as goal

pub returns-clause-risen : goal.returns-clause-risen
returns-clause-risen c = search rules
