-- A query that gave its items, or was refused, once what was noted is rolled back.
use Rattle.std.proofs.Common.{◌≡◌, ◌⊎◌, ap, sym, subst}
use Rattle.sqlx_text.specs.declared.error.Error.TheVariants as error
use Rattle.sqlite_base.specs.Queries.{RefusesQueryOn}
use Rattle.sqlite_base.specs.Refusals.{refusal_error}
use Rattle.sqlite_driver.specs.Runs.{RefusesItems, all_taken}
use Rattle.sqlite_driver.specs.declared.connection.SqliteConnection.{SqliteConnection}
use Rattle.sqlite_driver.proofs.RunsLemmas.{refuses_settled}
use Rattle.sqlite_driver.proofs.connection.SqliteConnection.run.Goals as goal

pub returns-in-Ok-run-clause-gave : goal.returns-in-Ok-run-clause-gave
returns-in-Ok-run-clause-gave c = (c.settle.new.self.base, c.in-Ok.ensures.pings.0, c.in-Ok-run.ensures.gave, c.in-Ok.ensures.pings.1)

pub returns-in-Err-run-clause-refused : goal.returns-in-Err-run-clause-refused
returns-in-Err-run-clause-refused c =
    let told : _ = refusal_error c.in-Err-run.refusal in
    let query : _ = subst (λ base. (told ≡ error.OutOfMemory) ⊎ RefusesQueryOn c.args.text.now (all_taken c.args.arguments.now) c.settle.new.self.base base told) (ap (λ (conn : SqliteConnection). conn.base) (sym c.refuse.ensures.rest)) c.in-Err-run.ensures.refused in
    let refused : _ = refuses_settled c.args.text.now (all_taken c.args.arguments.now) c.args.self.now c.settle.new.self c.refuse.new.self told c.in-Ok.ensures.pings c.in-Ok.ensures.rises query (ap (λ (conn : SqliteConnection). conn.goes_back_to) c.refuse.ensures.rest) c.refuse.ensures.risen in
    subst (λ e. RefusesItems c.args.text.now (all_taken c.args.arguments.now) c.args.self.now e c.refuse.new.self) (sym c.refuse.ensures.value) refused
