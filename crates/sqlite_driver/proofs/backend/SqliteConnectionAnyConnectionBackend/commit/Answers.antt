use Rattle.std.proofs.Common.{rules}
use Rattle.sqlite_driver.proofs.backend.SqliteConnectionAnyConnectionBackend.commit.Goals as goal

pub returns-clause-does : goal.returns-clause-does
returns-clause-does c = search rules
