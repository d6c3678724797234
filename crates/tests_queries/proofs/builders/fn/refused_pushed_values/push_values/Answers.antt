use Rattle.std.specs.Prelude.{length, take}
use Rattle.sqlx_query.proofs.RowLemmas.{appends_then}
use Rattle.tests_queries.proofs.builders.fn.refused_pushed_values.push_values.Goals as goal

pub returns : goal.returns
returns c =
    appends_then length take _ _ _ c.push_bind.ensures.appends
    (appends_then length take _ _ _ c.push_bind-2.ensures.appends c.push_bind-3.ensures.appends)
