use Rattle.std.proofs.Common.{Ok, rules}
use Rattle.sqlx_traits.proofs.StepLemmas.{causes_of_rows}
use Rattle.sqlite_driver.proofs.backend.SqliteConnectionAnyConnectionBackend.fetch_optional.Goals as goal

pub returns-in-Some-Err-clause-cause : goal.returns-in-Some-Err-clause-cause
returns-in-Some-Err-clause-cause c =
    let causes : _ = causes_of_rows c.args.self.now.faults c.fetch_many.new.self.faults (Ok c.args.arguments) c.fetch_many.result c.fetch_many.ensures.causes in
    search rules
