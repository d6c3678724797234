use Rattle.std.specs.Prelude.{length, take}
use Rattle.sqlx_query.proofs.RowLemmas.{appends_then}
use Rattle.tests_queries.proofs.builders.fn.tuples.push_tuples.Goals as goal

pub returns : goal.returns
returns c =
    appends_then length take _ _ _ c.push.ensures.appends
    (appends_then length take _ _ _ c.push_bind_unseparated.ensures.appends
    (appends_then length take _ _ _ c.push_unseparated.ensures.appends c.push_bind.ensures.appends))

pub returns-in_err-push_unseparated : goal.returns-in_err-push_unseparated
returns-in_err-push_unseparated c =
    appends_then length take _ _ _ c.push.ensures.appends
    (appends_then length take _ _ _ c.push_bind_unseparated.ensures.appends c.push_unseparated.ensures.appends)
